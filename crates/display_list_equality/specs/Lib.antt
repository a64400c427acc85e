-- What a reader must believe of equality: document 01's "Equality follows `DrawCommand::eq`: clips as lists of boxes plus their intersection, floats by
-- value" and the two kinds of commands alike. Equal lists of boxes have equal intersections (proofs/), so those are not compared.
pub mod Drawings
pub mod Fields
