-- Laws of the conversion, for the crates above.
pub mod Regions
pub mod Overlaps
pub mod Values
