-- What a reader must believe of regions: document 01's `from_logical`, which pixels a region has, and what dew does with two.
pub mod Region
