use Rattle.strip_format.specs.Finite.{AllFinite}
use mathlib.Core.Path.{sym, ◌∙◌}
use Rattle.strip_format.proofs.Floats.{finite_none, finite_more}
use Rattle.strip_format.proofs.all_finite.Goals as goal

pub loop-i-init : goal.loop-i-init
loop-i-init c = finite_none _ _

pub loop-i-preserved : goal.loop-i-preserved
loop-i-preserved c = finite_more _ _ _ c.loop-i.invariant (sym c.finite64_inside.ensures ∙ c.if-not-finite64_inside.false)

pub returns-then-not-finite64_inside-clause-all : goal.returns-then-not-finite64_inside-clause-all
unfolding AllFinite
returns-then-not-finite64_inside-clause-all c = λ w. sym (sym c.finite64_inside.ensures ∙ c.if-not-finite64_inside.true) ∙ w _ c.loop-i-test.true
