-- What the programs' lines say.
pub mod Lines
