-- What a reader must believe of single numbers: which of two is larger, whole numbers below and above, the next lower value.
-- The values and their order are the library's account of IEEE 754 (`lib.Ieee`); nothing of it is defined again here.
pub mod Order
pub mod Whole
pub mod Next
