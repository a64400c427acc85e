use Rattle.std.proofs.lemmas.Result.{err_from_is_err_and}
use Rattle.strip.proofs.Settled.{draw_settles, run_settles}
use Rattle.strip.proofs.Effects.{draws_whole, draws_run}
use Rattle.strip.specs.Steps.{draw_step}
use mathlib.Core.Path.{ap, ◌∙◌}
use Rattle.strip.proofs.Cursor.draw_or_run.Goals as goal

pub returns-then-due-eq0 : goal.returns-then-due-eq0
returns-then-due-eq0 c = draw_settles _ _ _ _ c.drawn_transform-transform.ensures c.drawn_bounds-bounds.ensures _ _ c.in_ok-next.ensures ∙ ap (λ n. draw_step c.args.s.now c.args.self n) c.length.ensures ∙ draws_whole _ _ _ _ c.requires.draws c.announced-due.ensures c.if-due-eq0.true

pub returns-in_err-next : goal.returns-in_err-next
returns-in_err-next c = let p = err_from_is_err_and c.from_residual.result c.from_residual.ensures.1 in rw (p.1, p.2) (draw_settles _ _ _ _ c.drawn_transform-transform.ensures c.drawn_bounds-bounds.ensures _ _ c.in_err-next.ensures ∙ ap (λ n. draw_step c.args.s.now c.args.self n) c.length.ensures ∙ draws_whole _ _ _ _ c.requires.draws c.announced-due.ensures c.if-due-eq0.true)

pub returns : goal.returns
returns c = run_settles c.args.s.now c.args.self _ _ c.in_ok-drawn.ensures ∙ draws_run _ _ _ _ c.requires.draws c.announced-due.ensures c.if-due-eq0.false

pub returns-in_err-drawn : goal.returns-in_err-drawn
returns-in_err-drawn c = let p = err_from_is_err_and c.from_residual-in_err-drawn.result c.from_residual-in_err-drawn.ensures.1 in rw (p.1, p.2) (run_settles c.args.s.now c.args.self _ _ c.in_err-drawn.ensures ∙ draws_run _ _ _ _ c.requires.draws c.announced-due.ensures c.if-due-eq0.false)
