-- The proof of the starred cases.
pub mod Starred
