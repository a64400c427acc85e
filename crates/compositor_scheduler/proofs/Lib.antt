-- The laws of the code of a schedule, and worked cases of its definitions.
pub mod Writes
pub mod Rows
pub mod Reading
pub mod Outcomes
pub mod Values
pub mod Examples
