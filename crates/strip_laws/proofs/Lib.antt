-- Laws of reading, for those who read whole inputs.
pub mod Steps
pub mod Limits
pub mod Numbers
pub mod Singles
pub mod Alike
pub mod Runs
pub mod Boxes
pub mod Counts
pub mod Offsets
pub mod Shifts
pub mod Fronts
pub mod Refusals
pub mod Nine
