-- No strip is turned away with the number 0, which says that there is a plan. Assumes nothing.
use Rattle.std.specs.Prelude.{List, ℕ, ◌<◌, Result, Ok, Err}
use Rattle.base_refusals.specs.declared.Refusal.{Refusal}
use Rattle.base_refusals.specs.Table.{number}
use Rattle.base_refusals.proofs.Numbers.{number_positive}
use Rattle.strip.specs.Reading.{read_strip}

-- an answer's number, where it has one, is above 0
abbrev pub NumberedAnswer : {A : Type 0} → Result A Refusal → Type 0
NumberedAnswer (Ok a) = Unit {0}
NumberedAnswer (Err why) = 0 < number why.fault

pub numbered : {A : Type 0} (x : Result A Refusal) → NumberedAnswer x
numbered (Ok a) = tt
numbered (Err why) = number_positive why.fault

pub strip_numbered : (s : List ℕ) (at : ℕ) → NumberedAnswer (read_strip s at)
strip_numbered s at = numbered (read_strip s at)
