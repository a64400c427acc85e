-- Laws of the definitions in specs/, for the crates above.
pub mod Chunks
pub mod Lists
pub mod Stores
