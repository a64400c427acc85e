-- `Plans` has the law of the index words, for the crates above; `Parts` what the code's bounds rest on.
pub mod Plans
pub mod Examples
pub mod Parts
