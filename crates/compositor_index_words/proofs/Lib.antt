-- Laws of the index, for the crates above: I1 and I2 (`Places`), I3 (`Starts`), L2 for a row (`Painting`); and worked examples.
pub mod Places
pub mod Starts
pub mod Painting
pub mod Examples
pub mod Values
