-- What a reader must believe of calls: that they are those of the planner of which crate `panels` speaks.
pub mod Calls
