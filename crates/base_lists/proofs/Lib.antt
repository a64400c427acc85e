-- The laws that other crates may cite.
pub mod Picks
pub mod Bools
pub mod Members
pub mod Places
pub mod Relations
pub mod Slices
pub mod Tables
