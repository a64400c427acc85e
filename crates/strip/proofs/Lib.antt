-- Laws of steps and of reading, for the crates above.
mod Due
pub mod Effects
pub mod Moves
pub mod Settled
mod Near
mod Places
