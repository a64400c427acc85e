-- The theorem is `dew_row_lem` of module Row.
pub mod Quotient
pub mod Row
