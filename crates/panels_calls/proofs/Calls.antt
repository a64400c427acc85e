-- From an entry's contract to the planner of which crate `panels` speaks. Assumes nothing.
use mathlib.Core.Path.{◌≡◌, refl, sym, ap, ◌∙◌}
use mathlib.Core.Bool.{Bool, true, false, ◌&&◌, true≢false}
use mathlib.Core.List.{List}
use mathlib.Core.Option.{Option}
use Prim.Native.Nat.{ℕ}
use lib.ListN.{length, drop}
use Rattle.std.specs.Prelude.{Result}
use Rattle.base_refusals.specs.declared.Fault.TheVariants.{NoRoom}
use Rattle.base_refusals.specs.declared.Refusal.{Refusal}
use Rattle.base_refusals.specs.Table.{refused}
use Rattle.base_lists.specs.Pick.{pick}
use Rattle.compositor_scheduler.specs.Schedule.{words_of_regions, regions_to}
use Rattle.compositor_scheduler.proofs.Reading.{regions_back}
use Rattle.strip_frame.specs.declared.Entry.{Entry}
use Rattle.plan_answers.specs.declared.Plan.{Plan}
use Rattle.plan_answers.specs.Drafts.{Draft, Outcome, refuses, drafted, outcome}
use Rattle.plan_answers.specs.Space.{Slices, Lent, lent_of}
use Rattle.plan_answers.specs.Answers.{items_fit, draft_fits, counts, answer_of, accepted, counts_of, region_words_of, index_words_of, published}
use Rattle.planner.specs.Calls.{Promise}
use Rattle.panels.specs.Entries.{call_of, drafted_regions}
use Rattle.panels_calls.specs.Calls.{Called, CalledAs}

-- an accepted answer is a plan with the counts of its draft
planned : (t : Bool) (d : Draft) → accepted (pick t (counts d) (refused NoRoom 0)) ≡ true → pick t (counts d) (refused NoRoom 0) ≡ counts d
planned true d e = refl
planned false d e = absurd (true≢false (sym e))

-- the regions that an accepted call leaves in their slice, read back
regions_left : (z : Lent) (x : Outcome) (old : List ℕ) → accepted (answer_of z x) ≡ true → regions_to (published (answer_of z x) (region_words_of x) old) (counts_of (answer_of z x)).regions ≡ drafted_regions x
regions_left z (refuses why) old e = absurd (true≢false (sym e))
regions_left z (drafted i d) old e =
    ap (λ (p : Result Plan Refusal). regions_to (published p (words_of_regions d.regions) old) (counts_of p).regions) (planned (items_fit z i && draft_fits z d) d e)
    ∙ regions_back d.regions (drop (length (words_of_regions d.regions)) old)

module _ (header : List ℕ) (last : Option (List ℕ)) (s : List ℕ) (before after : Slices) (r : Result Plan Refusal) where
  called : (x : Outcome) → x ≡ call_of header last s → r ≡ answer_of (lent_of before) x → after.regions ≡ published r (region_words_of x) before.regions → after.words ≡ published r (index_words_of x) before.words → Called header last s before after r
  called x q a g k =
      let e : r ≡ answer_of (lent_of before) (call_of header last s) = a ∙ ap (answer_of (lent_of before)) q in
      record {
        accepts = ap accepted e;
        regions = λ t.
            (λ j. regions_to (g j) (counts_of r).regions)
            ∙ (λ j. regions_to (published (e j) (region_words_of (q j)) before.regions) (counts_of (e j)).regions)
            ∙ regions_left (lent_of before) (call_of header last s) before.regions (sym (ap accepted e) ∙ t);
        words = k ∙ (λ j. published (e j) (index_words_of (q j)) before.words);
      }

pub called_as : (input : List ℕ) (before after : Slices) (r : Result Plan Refusal) (entry : Entry) → Promise (outcome entry input) before after r → CalledAs entry input before after r
called_as input before after r entry p = λ header last s f e. called header last s before after r (outcome entry input) (λ i. outcome (f i) (e i)) p.answer.plan p.scheduled p.index
