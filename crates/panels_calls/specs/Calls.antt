-- A call of an entry beside the planner that the statement about the panels speaks of (`entries` of crate `panels`).
use Rattle.base_refusals.specs.declared.Refusal.{Refusal}
use Rattle.std.specs.Prelude.{◌≡◌, true, List, ◌++◌, ℕ, Result}
use Rattle.std.proofs.Math.Option.{Option}
use Rattle.compositor_scheduler.specs.Schedule.{regions_to}
use Rattle.strip_frame.specs.declared.Entry.{Entry}
use Rattle.plan_answers.specs.declared.Plan.{Plan}
use Rattle.plan_answers.specs.Space.{Slices}
use Rattle.plan_answers.specs.Answers.{accepted, counts_of}
use Rattle.panels.specs.Entries.{entry_after, strips_after, entries}

-- What a call hands back and leaves in its slices is what that planner says for the header, the last accepted strip and the strip: whether it is accepted, the
-- regions as they stand in their slice afterwards, as many as are counted, and all index words as they stand in theirs.
pub record Called (header : List ℕ) (last : Option (List ℕ)) (strip : List ℕ) (before after : Slices) (plan : Result Plan Refusal) : Type 0 where
  pub accepts : accepted plan ≡ (entries header).accepted last strip before
  pub regions : accepted plan ≡ true → regions_to after.regions (counts_of plan).regions ≡ (entries header).regions last strip before
  pub words : after.words ≡ (entries header).words last strip before

-- "the first-frame entry gets header and strip; then the other entry gets header, last accepted strip and strip", however the input is cut into these
abbrev pub CalledAs : Entry → List ℕ → Slices → Slices → Result Plan Refusal → Type 0
CalledAs entry input before after plan =
    (header : List ℕ) (last : Option (List ℕ)) (strip : List ℕ)
    → entry ≡ entry_after last → input ≡ header ++ strips_after last strip → Called header last strip before after plan
