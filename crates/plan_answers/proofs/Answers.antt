-- An answer in the paper's words: its number, position and counts are those of the call. Assumes nothing.
use mathlib.Core.Path.{◌≡◌, refl, ap, ◌∙◌}
use mathlib.Core.Bool.{◌&&◌}
use Rattle.std.specs.Prelude.{Result}
use Rattle.base_refusals.specs.declared.Fault.TheVariants.{NoRoom}
use Rattle.base_refusals.specs.declared.Refusal.{Refusal}
use Rattle.base_refusals.specs.Table.{refused}
use Rattle.base_lists.proofs.Picks.{pick_map, pick_same}
use Rattle.plan_answers.specs.declared.Plan.{Plan}
use Rattle.plan_answers.specs.Drafts.{Outcome, refuses, drafted}
use Rattle.plan_answers.specs.Space.{Lent}
use Rattle.plan_answers.specs.Answers.{items_fit, draft_fits, counts, answer_of, number_of, position_of, counts_of, call_number, call_position, call_counts, Answered}

number_is : (z : Lent) (o : Outcome) → number_of (answer_of z o) ≡ call_number z o
number_is z (refuses why) = refl
number_is z (drafted i d) = pick_map number_of (items_fit z i && draft_fits z d) (counts d) (refused NoRoom 0)

position_is : (z : Lent) (o : Outcome) → position_of (answer_of z o) ≡ call_position z o
position_is z (refuses why) = refl
position_is z (drafted i d) = pick_map position_of (items_fit z i && draft_fits z d) (counts d) (refused NoRoom 0) ∙ pick_same (items_fit z i && draft_fits z d) 0

counts_are : (z : Lent) (o : Outcome) → counts_of (answer_of z o) ≡ call_counts z o
counts_are z (refuses why) = refl
counts_are z (drafted i d) = pick_map counts_of (items_fit z i && draft_fits z d) (counts d) (refused NoRoom 0)

pub answered : (z : Lent) (o : Outcome) (r : Result Plan Refusal) → r ≡ answer_of z o → Answered z o r
answered z o r e = record {
  number = ap number_of e ∙ number_is z o;
  position = ap position_of e ∙ position_is z o;
  counted = ap counts_of e ∙ counts_are z o;
  plan = e;
}
