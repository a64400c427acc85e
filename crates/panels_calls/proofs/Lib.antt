-- What an entry's contract says is what crate `panels` speaks of.
pub mod Calls
