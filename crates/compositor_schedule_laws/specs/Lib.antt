-- What a reader must believe to read the laws of a schedule: what they say of a region, of two, and of a list.
pub mod Placed
