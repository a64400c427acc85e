-- What a reader must believe of a whole input: document 01's header, the strips behind it, and the byte that must not follow.
pub mod Frame
