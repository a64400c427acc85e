-- Laws of the definitions in specs/, for the crates above.
pub mod Lists
pub mod Going
pub mod Inputs
