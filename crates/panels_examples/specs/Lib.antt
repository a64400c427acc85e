-- What is shown of demand 3 by an example: two pages (`Pages`), a list of frames with a painter (`Frames`), what both panels show of it (`Shown`), and that
-- two wrong planners do not keep demand 3 (`Wrong`).
pub mod Pages
pub mod Frames
pub mod Shown
pub mod Wrong
