use native.Mathlib.Omega.{arith}
use lib.Ieee.{Float}
use Rattle.std.proofs.lemmas.List.{length-set, length-replicate}
use Rattle.strip_format.proofs.Floats.{floats_none, floats_more, floats_past}
use Rattle.strip_format.proofs.floats_at.Goals as goal

pub loop-i-init : goal.loop-i-init
loop-i-init g c = (omega (arith, length-replicate {A = Float}), floats_none _ _ _)

pub loop-i-preserved : goal.loop-i-preserved
loop-i-preserved g c = (omega (arith, length-set {A = Float}, c.loop-i.invariant.0), floats_more _ _ _ _ _ (omega (arith, c.loop-i.invariant.0)) c.loop-i.invariant.1 c.f64_at.ensures)

pub returns-else-at-s : goal.returns-else-at-s
returns-else-at-s g c = floats_past _ _ _ (omega arith)
