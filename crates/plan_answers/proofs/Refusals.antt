-- No refusal has the number 0: the bare number, which is all that a C call returns, tells whether there is a plan. Assumes nothing.
use Rattle.std.specs.Prelude.{◌≡◌, refl, List, ℕ, ◌<◌, ◌&&◌, eqb}
use native.Mathlib.Omega.{arith}
use borrow.Author.Tests.{ne_eqb}
use Rattle.base_lists.proofs.Picks.{pick_cases}
use Rattle.base_refusals.specs.declared.Fault.TheVariants.{NoRoom}
use Rattle.base_refusals.specs.Table.{number, refused}
use Rattle.base_refusals.proofs.Numbers.{number_positive}
use Rattle.plan_answers.specs.Drafts.{Outcome, refuses, drafted, outcome}
use Rattle.strip_frame.specs.declared.Entry.{Entry}
use Rattle.plan_answers.specs.Space.{Lent}
use Rattle.plan_answers.specs.Answers.{items_fit, draft_fits, counts, answer_of, accepted, number_of}

-- where there is no draft, its number is above 0
abbrev pub NumberedOutcome : Outcome → Type 0
NumberedOutcome (refuses why) = 0 < number why.fault
NumberedOutcome (drafted i d) = Unit {0}

numbered : (o : Outcome) → NumberedOutcome o
numbered (refuses why) = number_positive why.fault
numbered (drafted i d) = tt

-- ---- the answer
number_tells : (z : Lent) (o : Outcome) → NumberedOutcome o → eqb (number_of (answer_of z o)) 0 ≡ accepted (answer_of z o)
number_tells z (refuses why) h = ne_eqb (number why.fault) 0 (λ e. omega arith)
number_tells z (drafted i d) h = pick_cases (λ x. eqb (number_of x) 0 ≡ accepted x) (items_fit z i && draft_fits z d) (counts d) (refused NoRoom 0) (λ e. refl) (λ e. refl)

-- 0 exactly where there is a plan
pub outcome_number_tells : (z : Lent) (entry : Entry) (s : List ℕ) → eqb (number_of (answer_of z (outcome entry s))) 0 ≡ accepted (answer_of z (outcome entry s))
outcome_number_tells z entry s = number_tells z (outcome entry s) (numbered (outcome entry s))
