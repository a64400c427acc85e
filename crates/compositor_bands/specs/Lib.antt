-- What a reader must believe of one band: `Bands`. `Keys` says how the code writes a region as one number while it sorts.
pub mod Bands
pub mod Keys
pub mod Chosen
