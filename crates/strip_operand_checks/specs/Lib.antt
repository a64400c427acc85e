-- What a reader must believe of refused operands: numbers 3 and 4 of document 01's table, at "operands".
pub mod Operands
