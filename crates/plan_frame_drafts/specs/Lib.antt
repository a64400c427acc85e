-- What the parts of a draft in scratch promise one another, of a whole input: what was lent for it, and what stands there (`Scratch`), how many items were read
-- (`Counts`), and what the draft is made of (`Listing`). Nothing here is to be believed.
pub mod Scratch
pub mod Counts
pub mod Listing
