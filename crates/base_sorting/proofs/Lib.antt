-- The laws that other crates may cite.
pub mod Sorts
pub mod Ascents
pub mod Permuted
mod Examples
