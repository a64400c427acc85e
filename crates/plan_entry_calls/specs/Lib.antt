-- What is lent, and what an entry is called with.
pub mod Lending
