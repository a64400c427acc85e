-- Laws of whole inputs, for those that read them.
pub mod Checks
