-- What a reader must believe of draw commands: document 01's "display_list.rs" (boxes) and the strip table's operands.
-- Boxes and affines are those of the crates `kurbo_geometry` and `kurbo_affine`.
pub mod Strokes
pub mod Bounds
pub mod Sizes
