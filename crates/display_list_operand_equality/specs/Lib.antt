-- What a reader must believe of operands: document 01's "floats by value" and "equal numbers mean equal things".
pub mod Operands
pub mod Fields
