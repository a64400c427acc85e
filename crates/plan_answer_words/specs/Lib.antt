-- What a reader must believe of the words that a caller in another language gets.
pub mod Words
