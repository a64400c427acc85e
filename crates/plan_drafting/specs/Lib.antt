-- What a reader must believe of a draft in scratch: which draft the words there stand for.
pub mod Drafted
