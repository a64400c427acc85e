use native.Mathlib.Omega.{arith}
use lib.Ieee.{Float}
use Rattle.std.proofs.lemmas.List.{length-set, length-replicate}
use Rattle.strip_format.proofs.Floats.{finite_of, floats_none, floats_more}
use Rattle.strip_format.proofs.floats_finite.Goals as goal

pub loop-i-init : goal.loop-i-init
loop-i-init g c = (omega (arith, length-replicate {A = Float}), floats_none _ _ _)

pub f64_inside-requires : goal.f64_inside-requires
f64_inside-requires g c = (omega arith, finite_of _ _ _ _ c.requires.1 c.loop-i-test.true)

pub loop-i-preserved : goal.loop-i-preserved
loop-i-preserved g c = (omega (arith, length-set {A = Float}, c.loop-i.invariant.0), floats_more _ _ _ _ _ (omega (arith, c.loop-i.invariant.0)) c.loop-i.invariant.1 c.f64_inside.ensures)
