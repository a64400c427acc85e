-- dew's own computation of a row, so that it can be compared with document 01's.
pub mod DewRow
