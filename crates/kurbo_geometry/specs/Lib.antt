-- What a reader must believe of boxes and pixels: document 01's "Kurbo's rectangles" and the first lines of "The two panels".
-- Numbers are f64; `larger` and `smaller` are those of crate `base_floats`, the operations on them are IEEE 754's (`lib.Ieee`).
pub mod Boxes
pub mod Parts
pub mod Pixels
