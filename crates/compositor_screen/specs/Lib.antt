-- What a reader must believe of a screen's sizes: the first row of document 01's table at the header.
pub mod Sizes
