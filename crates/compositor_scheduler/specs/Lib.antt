-- What a reader must believe of a schedule: document 01's sentence on `schedule`, and the counts.
pub mod Schedule
