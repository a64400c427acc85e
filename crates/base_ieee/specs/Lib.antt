-- What a reader must believe to read that floats are the same by value.
pub mod Values
