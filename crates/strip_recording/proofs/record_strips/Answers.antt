use Rattle.std.proofs.lemmas.Result.{err_from_is_err_and}
use native.Mathlib.Omega.{arith}
use mathlib.Core.Path.{sym, ◌∙◌}
use Rattle.strip_frame.proofs.Checks.{strips_refused}
use Rattle.strip_recording.specs.Recorded.{space}
use Rattle.strip_recording.proofs.Inputs.{read_small, OldRecorded, none_recorded, old_recorded, strips_recorded}
use Rattle.strip_recording.proofs.record_strips.Goals.{in-First, in-Next+in_ok-old-in-Next}
use Rattle.strip_recording.proofs.record_strips.Goals as goal

pub returns-in_err-old-in-Next-clause-answer : goal.returns-in_err-old-in-Next-clause-answer
returns-in_err-old-in-Next-clause-answer c =
    let p = err_from_is_err_and c.from_residual.result c.from_residual.ensures.1 in
    rw (c.in-Next.is, p.1, p.2) (strips_refused _ c.args.s.now _ (sym c.in_err-old-in-Next.ensures.answer))

pub record_new-requires : goal.record_new-requires
record_new-requires c =
    elim c.match-entry.branch [
      | in-First w ↦ rw (w.old-is ∙ w.start-old.ensures) (omega arith, omega arith)
      | in-Next+in_ok-old-in-Next w ↦ rw w.old-is (read_small _ _ _ w.in_ok-old-in-Next.ensures.answer)
    ]

pub returns : goal.returns
returns c =
    let o : OldRecorded c.args.entry c.args.s.now (space c.args.boxes.now c.args.below.now c.args.items.now c.args.item_boxes.now) (space c.match-entry.boxes c.match-entry.below c.match-entry.items c.match-entry.item_boxes) c.match-entry.old =
    elim c.match-entry.branch [
      | in-First w ↦ rw (w.in-First.is, w.boxes-is, w.below-is, w.items-is, w.item_boxes-is) (none_recorded _ _ _ (w.old-is ∙ w.start-old.ensures))
      | in-Next+in_ok-old-in-Next w ↦ rw (w.in-Next.is, w.boxes-is, w.below-is, w.items-is, w.item_boxes-is, w.old-is) (old_recorded _ _ _ _ w.in_ok-old-in-Next.ensures.answer w.in_ok-old-in-Next.ensures.lengths w.in_ok-old-in-Next.ensures.lists)
    ] in
    let all = strips_recorded _ _ _ _ _ _ o _ c.record_new.ensures.answer c.record_new.ensures.lengths c.record_new.ensures.lists in
    record { answer = all.0; lengths = all.1.0; lists = all.1.1 }
