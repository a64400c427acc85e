-- Laws of the definitions in specs/, for the crates above.
pub mod Examples
pub mod Answers
pub mod Refusals
pub mod Values
