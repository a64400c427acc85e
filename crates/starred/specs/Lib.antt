-- What document 01 marks with a star: claims about the definitions of the crates below.
pub mod Starred
