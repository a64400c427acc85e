-- What a reader must believe of the entries beside crate `plan_answers`: how their slices are named, and what clearing leaves.
pub mod Calls
