-- The calls worked out (`Calls`), the painter over the pages (`Painted`), the frames one by one (`Trace`), and the two statements (`Shown`, `Wrong`).
pub mod Calls
pub mod Painted
pub mod Trace
pub mod Shown
pub mod Wrong
