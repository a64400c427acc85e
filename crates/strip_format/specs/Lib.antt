-- What a reader must believe of the strip's bytes: document 01's table of commands, their lengths and operands. `Finite` is what readers of floats
-- that were tested ask for: nothing there is to be believed.
pub mod Layout
pub mod Limits
pub mod Format
pub mod Kinds
pub mod Finite
