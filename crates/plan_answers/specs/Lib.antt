-- What a reader must believe of a plan: document 01's "Where a frame is turned away", and what an accepted frame comes to.
pub mod Drafts
pub mod Space
pub mod Answers
