-- Laws of the definitions in specs/, for the crates above.
pub mod Appends
pub mod Parts
pub mod Turns
