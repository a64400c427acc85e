-- What a reader must believe of the comparison of two frames in lent space, beside document 01's `diff_dirty` in crate `display_list_changes` and the
-- lists in lent space of crate `display_list_stored`: what it asks of the two places compared, and the counts of a frame.
pub mod Placed
pub mod Work
