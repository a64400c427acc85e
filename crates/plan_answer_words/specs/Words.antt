-- An answer as words, and what lent space holds once as many as fit are written to its front.
use Rattle.base_refusals.specs.declared.Refusal.{Refusal}
use Rattle.base_refusals.specs.Table.{number}
use Rattle.std.specs.Prelude.{List, [], ◌∷◌, ◌++◌, ℕ, length, take, drop, Result, Ok, Err}
use Rattle.plan_answers.specs.declared.Plan.{Plan}
use Rattle.compositor_candidates.specs.declared.Part.{Part}

-- the words in front, as many as there is room for, then what stood behind them
unfoldable pub overwritten : List ℕ → List ℕ → List ℕ
overwritten words old = take (length old) words ++ drop (length words) old

-- after a refusal its number and position, and no counts
abbrev pub refusal_words : ℕ → ℕ → List ℕ
refusal_words n position = n ∷ position ∷ 0 ∷ 0 ∷ 0 ∷ 0 ∷ 0 ∷ []

-- number, position, rectangles, regions, index words, pixels, commands emitted
abbrev pub answer_words : Result Plan Refusal → List ℕ
answer_words (Ok plan) = 0 ∷ 0 ∷ plan.rects ∷ plan.work.regions_transferred ∷ plan.words ∷ plan.work.pixels_transferred ∷ plan.work.commands_emitted ∷ []
answer_words (Err why) = refusal_words (number why.fault) why.position

-- "A refused `candidates` hands back an empty list": both places are 0
abbrev pub no_part_words : List ℕ
no_part_words = 0 ∷ 0 ∷ []

-- where the row's entries begin and end among the index words; nowhere after a refusal
abbrev pub part_words : Result Part Refusal → List ℕ
part_words (Ok part) = part.start ∷ part.end ∷ []
part_words (Err why) = no_part_words
