-- Laws of the definitions in specs/, for the crates above.
pub mod Bits
pub mod Selves
pub mod Compared
pub mod Strokes
