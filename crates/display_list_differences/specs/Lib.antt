-- What a reader must believe of differences of boxes: document 01's "each top, bottom, left, right, positive area only" and dew's `rect_difference`.
pub mod Differences
