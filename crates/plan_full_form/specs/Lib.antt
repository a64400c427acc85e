-- What answers look like.
pub mod Texts
