use Rattle.std.specs.Prelude.{Err, ◌/◌, length}
use Rattle.std.proofs.lemmas.Result.{err_from_is_err_and}
use mathlib.Core.Path.{ap, ◌∙◌}
use Rattle.plan_drafting.proofs.Judged.{no_room, rects_over, regions_over, regions_fit, regions_full}
use Rattle.plan_drafting.proofs.draft.Goals as goal

pub returns-then-room-n-clause-answer : goal.returns-then-room-n-clause-answer
returns-then-room-n-clause-answer c = ap Err c.at.ensures ∙ rects_over _ _ _ c.args.boxes.now 0 (length c.args.boxes.now / 4) _ _ _ c.if-room-n.true

pub returns-in_err-totals-clause-answer : goal.returns-in_err-totals-clause-answer
returns-in_err-totals-clause-answer c =
    let p = err_from_is_err_and c.from_residual.result c.from_residual.ensures.1 in
    let why = no_room _ _ _ c.in_err-totals.ensures.value c.in_err-totals.ensures.ok_part ∙ c.at-2.ensures in
    rw (p.1, p.2) (ap Err why ∙ regions_full _ _ _ c.args.boxes.now 0 (length c.args.boxes.now / 4) _ _ _ c.if-room-n.false c.requires.rect_room c.schedule-scheduled.ensures c.requires.region_room c.in_err-totals.ensures.ok_part)

pub returns-then-room-totals-clause-answer : goal.returns-then-room-totals-clause-answer
returns-then-room-totals-clause-answer c =
    ap Err c.at-then-room-totals.ensures ∙ regions_over _ _ _ c.args.boxes.now 0 (length c.args.boxes.now / 4) _ _ _ c.if-room-n.false c.requires.rect_room c.schedule-scheduled.ensures c.in_ok-totals.ensures.ok_part c.if-room-totals.true

pub returns : goal.returns
returns c =
    let all = regions_fit c.args.screen c.args.rects.now c.args.n c.args.boxes.now 0 (length c.args.boxes.now / 4) c.args.room.rects c.args.room.regions c.args.room.words c.if-room-n.false c.requires.rect_room c.schedule-scheduled.ensures c.in_ok-totals.ensures.ok_part c.if-room-totals.false _ c.requires.word_room c.index_draft.ensures.answer c.index_draft.ensures.held in
    record {
      answer = all.0;
      stands = all.1;
    }
