-- `strip::pass_glyphs` meets its contract: first the steps of a near run, then the others. Assumes nothing.
use Rattle.std.proofs.Common.{rules}
use Rattle.strip.proofs.Near.{near_moves, passing_moves}
use Rattle.strip.proofs.Settled.{passes_none, passes_both}
use Rattle.strip.specs.Effects.{Passes}
use Rattle.strip.specs.declared.Cursor.{Cursor}
use mathlib.Core.Path.{ap, subst, ◌∙◌}
use Rattle.strip.proofs.pass_glyphs.Goals as goal
use Rattle.strip.proofs.pass_glyphs.Goals.{then-near_run+else-near-lt2, else-near_run}

pub returns-then-st-lt2 : goal.returns-then-st-lt2
returns-then-st-lt2 c = passes_none _ _

pub pass_while-near-requires-clause-told : goal.pass_while-near-requires-clause-told
pass_while-near-requires-clause-told c = λ c' e p. near_moves _ _ _ (c.near_run.ensures c.if-near_run.true) e (search rules)

pub pass_while-requires-clause-told : goal.pass_while-requires-clause-told
pass_while-requires-clause-told c =
    elim c.if-near_run.branch [
      | then-near_run+else-near-lt2 w ↦ λ c' e p. passing_moves _ _ _ c.transform_at-transform.ensures (e ∙ ap (λ (x : Cursor). x.run) w.near-is ∙ w.pass_while-near.ensures.0) (search rules)
      | else-near_run w ↦ λ c' e p. passing_moves _ _ _ c.transform_at-transform.ensures (e ∙ ap (λ (x : Cursor). x.run) w.near-is) (search rules)
    ]

pub returns : goal.returns
returns c =
    elim c.if-near_run.branch [
      | then-near_run+else-near-lt2 w ↦ passes_both _ _ _ _ w.pass_while-near.ensures.1 (subst (λ (x : Cursor). Passes c.args.s.now x c.pass_while.result) w.near-is c.pass_while.ensures.1)
      | else-near_run w ↦ subst (λ (x : Cursor). Passes c.args.s.now x c.pass_while.result) w.near-is c.pass_while.ensures.1
    ]
