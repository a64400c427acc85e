-- Laws of the format, for the crates above.
pub mod Codes
pub mod Lengths
pub mod Near
pub mod Commands
pub mod Past
pub mod Alike
pub mod Numbers
pub mod Floats
