-- Laws of the definitions in specs/, for the crates above.
pub mod Rooms
pub mod Holding
pub mod Items
pub mod Examples
