-- What the loops of `build` keep, and the two cases of its answer.
pub mod Spans
pub mod Counts
pub mod Turns
pub mod Layouts
pub mod Answers
