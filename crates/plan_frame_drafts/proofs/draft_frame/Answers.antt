use Rattle.std.proofs.lemmas.Result.{err_from_is_err_and}
use mathlib.Core.Path.{refl, ap, subst, ◌∙◌}
use Rattle.plan_answers.specs.Drafts.{Outcome}
use Rattle.plan_frame_drafts.specs.Scratch.{WrittenFor}
use Rattle.plan_answers.specs.Answers.{answer_of}
use Rattle.plan_frame_drafts.proofs.Inputs.{header_sizes, header_strips, header_none, new_part, stand_ready, stand_meets}
use Rattle.plan_frame_drafts.proofs.draft_frame.Goals as goal

pub returns-in_err-screen-clause-answer : goal.returns-in_err-screen-clause-answer
returns-in_err-screen-clause-answer c =
    let p = err_from_is_err_and c.from_residual.result c.from_residual.ensures.1 in
    rw (p.1, p.2) (header_none _ _ c.in_err-screen.ensures _ _ refl c.args.entry)

pub returns-in_err-changed-clause-answer : goal.returns-in_err-changed-clause-answer
returns-in_err-changed-clause-answer c =
    let p = err_from_is_err_and c.from_residual-in_err-changed.result c.from_residual-in_err-changed.ensures.1 in
    let o = header_strips _ _ c.in_ok-screen.ensures _ refl c.args.entry in
    rw (p.1, p.2) (c.in_err-changed.ensures c.args.room.rects c.args.room.regions c.args.room.words ∙ ap (answer_of _) o)

pub draft-requires : goal.draft-requires
draft-requires c =
    stand_ready c.in_ok-screen.screen _ _ _ _ _ _ _ _ c.in_ok-changed.ensures _ (new_part c.in_ok-changed.changed.first c.in_ok-changed.changed.commands _) c.args.room.rects c.args.room.regions c.args.room.words (header_sizes _ _ c.in_ok-screen.ensures _ refl) _ _ _ c.requires

pub returns : goal.returns
returns c =
    let all = stand_meets c.in_ok-screen.screen _ _ _ _ _ _ _ _ c.in_ok-changed.ensures _ (new_part c.in_ok-changed.changed.first c.in_ok-changed.changed.commands _) c.args.room.rects c.args.room.regions c.args.room.words c.requires.rect_room _ _ _ c.draft.ensures.answer c.draft.ensures.stands in
    let o = header_strips _ _ c.in_ok-screen.ensures _ refl c.args.entry in
    record {
      answer = all.0 ∙ ap (answer_of _) o;
      stands = subst (λ (x : Outcome). WrittenFor c.draft.result x c.list_frame.new.rects c.draft.new.regions c.draft.new.words) o all.1;
    }
