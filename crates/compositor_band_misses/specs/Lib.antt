-- What a reader must believe of a box that misses a band.
pub mod Misses
