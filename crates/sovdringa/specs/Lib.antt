-- What a reader must believe of the exported functions beside crates `plan_answers`, `planner`, `compositor_candidates` and `plan_answer_words`.
pub mod Calls
