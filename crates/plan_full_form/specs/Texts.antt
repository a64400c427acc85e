-- The lines of answers that are lines alone: a refusal, and a row.
use Rattle.std.specs.Prelude.{ℕ, List, [], ◌∷◌, ◌++◌, Option, Some, None, Result, Ok, Err, codes}
use Rattle.base_refusals.specs.declared.Refusal.{Refusal}
use Rattle.base_refusals.specs.Table.{line}
use Rattle.plan_answers.specs.declared.Plan.{Plan}
use Rattle.compositor_candidates.specs.declared.Part.{Part}
use Rattle.compositor_candidates.specs.Table.{part_of}
use Rattle.plan_printing.specs.Lines.{numbers}

-- the answer to an entry's call that is refused
abbrev pub refused_line : Result Plan Refusal → Option (List ℕ)
refused_line (Ok plan) = None
refused_line (Err why) = Some (line why ++ (10 ∷ []))

-- the answer of `candidates`: the row, where one is found among the words
abbrev pub row_line : Result Part Refusal → List ℕ → List ℕ
row_line (Ok part) words = (codes "draw" ++ numbers (part_of (Ok part) words)) ++ (10 ∷ [])
row_line (Err why) words = line why ++ (10 ∷ [])
