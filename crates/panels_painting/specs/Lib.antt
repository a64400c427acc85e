-- What a reader must believe of painters: document 01's "The two panels", from "A painter may be any function" to "carry equal boxes".
pub mod Painters
pub mod Inked
