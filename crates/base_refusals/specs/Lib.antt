-- What a reader must believe of refusals: document 01's table of numbers and positions.
pub mod Table
