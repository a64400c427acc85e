-- Laws of the definitions in specs/, for the crates above.
pub mod Answers
pub mod Corners
pub mod Near
pub mod Unbounded
pub mod Values
