-- Laws of binary64 that the crates above cite. They speak of the library's definitions alone.
pub mod Rank
pub mod Patterns
pub mod Values
pub mod Equals
pub mod Comparisons
pub mod Differences
pub mod Magnitudes
pub mod Finite
