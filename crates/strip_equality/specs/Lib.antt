-- What the code names beside `same_drawing` of crate `display_list_equality` and `command_at` of crate `strip_format`. The contract of the public function
-- speaks of those alone.
pub mod Places
