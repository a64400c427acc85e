-- What a reader must believe of reading into lent space: what stands there behind each strip, where there was room.
pub mod Recorded
