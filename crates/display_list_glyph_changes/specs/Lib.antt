-- What a reader must believe of two runs compared in lent space: which glyphs they stand for, and the boxes of those that changed.
pub mod Runs
