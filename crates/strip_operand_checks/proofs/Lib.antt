-- Laws of finite operands, for the crates above.
pub mod Finite
pub mod Floats
pub mod Numbers
mod Past
