-- Laws of the definitions in specs/, for the crates above.
pub mod Orders
pub mod Wholes
pub mod Nexts
pub mod Values
pub mod Tests
pub mod LibraryNext
