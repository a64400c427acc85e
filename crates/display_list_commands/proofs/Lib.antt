-- Laws of the definitions in specs/, for the crates above.
pub mod Runs
pub mod Clips
pub mod Finite
pub mod Values
