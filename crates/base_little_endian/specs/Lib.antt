-- What a reader must believe of numbers in bytes: "Integers and floats are little-endian; f64 unless said." `Same` says what it means that bytes stand twice.
pub mod Words
pub mod Same
