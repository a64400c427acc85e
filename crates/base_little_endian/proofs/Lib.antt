-- Laws of bytes and numbers, for the crates above: past the end, alike in two rows of bytes, in a part.
pub mod Past
pub mod Alike
pub mod Parts
pub mod Same
pub mod Read
pub mod Floats
