-- Laws of the definitions in specs/, for the crates above.
pub mod Holdings
pub mod Judgements
pub mod Inputs
