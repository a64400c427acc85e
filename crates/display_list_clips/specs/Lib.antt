-- What a reader must believe of clips in lent space: document 01's "numbered clips, each with the number of the one below".
pub mod Chains
