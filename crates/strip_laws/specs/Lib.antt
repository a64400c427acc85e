-- What a reader must believe to read the laws of reading: what they say of a cursor and of an answer.
pub mod Limits
pub mod Nine
