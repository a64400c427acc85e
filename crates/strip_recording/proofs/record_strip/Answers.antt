use Rattle.std.specs.Prelude.{Ok}
use Rattle.std.proofs.lemmas.Result.{err_from_is_err_and}
use mathlib.Core.Path.{refl, ap}
use Rattle.strip_recording.proofs.Going.{going_start, on_passed, on_clip, on_pop, on_draw, on_end, on_refused}
use Rattle.strip_recording.proofs.record_strip.Goals as goal

pub loop-t-init : goal.loop-t-init
loop-t-init c = going_start _ _ _ _ _ _ c.cursor_at-st.ensures

pub loop-t-smaller-in-Next : goal.loop-t-smaller-in-Next
loop-t-smaller-in-Next c = (on_passed _ _ _ _ _ _ _ _ c.loop-t.invariant _ c.in_ok-t.ensures _ _ (ap Ok c.in-Next.is) c.pass_glyphs-st.ensures).0

pub loop-t-preserved-in-Next : goal.loop-t-preserved-in-Next
loop-t-preserved-in-Next c = (on_passed _ _ _ _ _ _ _ _ c.loop-t.invariant _ c.in_ok-t.ensures _ _ (ap Ok c.in-Next.is) c.pass_glyphs-st.ensures).1

pub loop-t-smaller-in-Clip : goal.loop-t-smaller-in-Clip
loop-t-smaller-in-Clip c = (on_clip _ _ _ _ _ _ _ _ c.loop-t.invariant _ c.in_ok-t.ensures _ _ (ap Ok c.in-Clip.is) _ _ _ c.push_clip-list.ensures.list c.push_clip-list.ensures.held c.push_clip-list.ensures.under).0

pub loop-t-preserved-in-Clip : goal.loop-t-preserved-in-Clip
loop-t-preserved-in-Clip c = (on_clip _ _ _ _ _ _ _ _ c.loop-t.invariant _ c.in_ok-t.ensures _ _ (ap Ok c.in-Clip.is) _ _ _ c.push_clip-list.ensures.list c.push_clip-list.ensures.held c.push_clip-list.ensures.under).1

pub loop-t-smaller-in-Pop : goal.loop-t-smaller-in-Pop
loop-t-smaller-in-Pop c = (on_pop _ _ _ _ _ _ _ _ c.loop-t.invariant _ c.in_ok-t.ensures _ (ap Ok c.in-Pop.is) _ c.pop_clip-list.ensures).0

pub loop-t-preserved-in-Pop : goal.loop-t-preserved-in-Pop
loop-t-preserved-in-Pop c = (on_pop _ _ _ _ _ _ _ _ c.loop-t.invariant _ c.in_ok-t.ensures _ (ap Ok c.in-Pop.is) _ c.pop_clip-list.ensures).1

pub loop-t-smaller : goal.loop-t-smaller
loop-t-smaller c = (on_draw _ _ _ _ _ _ _ _ c.loop-t.invariant _ c.in_ok-t.ensures _ _ _ (ap Ok c.in-Draw.is) _ _ _ _ c.clip_rect-bounds.ensures c.push-list.ensures.list c.push-list.ensures.held c.push-list.ensures.boxed).0

pub loop-t-preserved : goal.loop-t-preserved
loop-t-preserved c = (on_draw _ _ _ _ _ _ _ _ c.loop-t.invariant _ c.in_ok-t.ensures _ _ _ (ap Ok c.in-Draw.is) _ _ _ _ c.clip_rect-bounds.ensures c.push-list.ensures.list c.push-list.ensures.held c.push-list.ensures.boxed).1

pub returns-in-End-clause-answer : goal.returns-in-End-clause-answer
returns-in-End-clause-answer c = (on_end _ _ _ _ _ _ _ _ c.loop-t.invariant _ c.in_ok-t.ensures _ (ap Ok c.in-End.is)).0

pub returns-in-End-clause-lists : goal.returns-in-End-clause-lists
returns-in-End-clause-lists c = (on_end _ _ _ _ _ _ _ _ c.loop-t.invariant _ c.in_ok-t.ensures _ (ap Ok c.in-End.is)).1.1

pub returns-in_err-t-clause-answer : goal.returns-in_err-t-clause-answer
returns-in_err-t-clause-answer c =
    let p = err_from_is_err_and c.from_residual.result c.from_residual.ensures.1 in
    rw (p.1, p.2) (on_refused _ _ _ _ _ _ _ _ c.loop-t.invariant _ c.in_err-t.ensures _ refl).0
