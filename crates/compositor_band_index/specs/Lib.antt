-- What a reader must believe of `build`: when the words of crate `compositor_index_words`
-- fit, and what they leave as it was (`Answer`): document 01's "index words exceed the space lent" and "After a refusal, output space
-- is unchanged". `Counting` has what the loops promise one another: nothing there is to be believed.
pub mod Answer
pub mod Counting
