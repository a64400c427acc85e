-- What a reader must believe of frame comparison: document 01's `DrawCommand::changed_bounds` and `diff_dirty`, on plain lists of commands.
pub mod Changes
