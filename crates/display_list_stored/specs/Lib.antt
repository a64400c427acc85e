-- What a reader must believe of a display list in lent space: which list of commands it stands for.
pub mod Stored
