-- What drawing commands are told apart by where they stand. The contract of `transform_at` speaks of `command_at` and its affine alone.
pub mod Kinds
