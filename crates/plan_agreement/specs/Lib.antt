-- What a reader must believe of document 01's "Only the sign of a zero edge is open here": when two commands agree (`Agree`), that this is agreement in every
-- field (`Fields`), and what inputs get whose commands agree (`Plans`).
pub mod Agree
pub mod Fields
pub mod Plans
