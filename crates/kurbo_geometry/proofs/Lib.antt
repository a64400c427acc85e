-- Laws of the definitions in specs/, for the crates above.
pub mod Edges
pub mod Meets
pub mod Cuts
pub mod Values
