-- The laws of one band that other crates may cite.
pub mod Sorted
pub mod Keyed
pub mod Joins
pub mod Cuts
pub mod Values
pub mod Turns
