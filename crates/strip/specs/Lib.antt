-- What a reader must believe of reading a strip: document 01's refusal table from "command byte" to "effect", as a function on bytes alone. `Effects` is what
-- the functions of the crate promise one another on the way to a step: nothing there is to be believed.
pub mod Steps
pub mod Reading
pub mod Effects
