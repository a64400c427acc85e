-- Laws of the definitions in specs/, for the crates above.
pub mod Cases
pub mod Changes
pub mod InPlace
pub mod Placed
pub mod Repeats
