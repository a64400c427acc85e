-- Laws of the definitions in specs/, for the crates above.
pub mod Answers
pub mod Pixels
pub mod Values
