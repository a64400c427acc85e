-- What a reader must believe of affines: document 01's "Kurbo's rectangles". Numbers are f64, the operations on them IEEE 754's (`lib.Ieee`).
pub mod Affines
pub mod Unbounded
