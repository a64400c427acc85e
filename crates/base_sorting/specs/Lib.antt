-- What the contracts and laws of `base_sorting` speak of.
pub mod Sort
