-- Laws of the definitions in specs/, for the crates above.
pub mod Values
pub mod Selves
pub mod Compared
