-- What a reader must believe of the list state: document 01's "a list state by value whose steps hand it back" and "Vec: lent space and a count".
pub mod Lists
