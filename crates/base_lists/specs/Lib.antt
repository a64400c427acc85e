-- What the contracts and laws of `base_lists` speak of.
pub mod Pick
pub mod Members
pub mod Tables
pub mod Places
