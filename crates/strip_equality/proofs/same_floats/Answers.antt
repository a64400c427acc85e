-- `strip_equality::same_floats` meets its contract: the same bytes are the same floats, and else what is left to compare decides as the whole does. Assumes
-- nothing.
use mathlib.Core.Path.{sym, ◌∙◌}
use Rattle.strip_equality.proofs.Places.{floats_twice, left_next, left_stops, left_none}
use Rattle.strip_equality.proofs.same_floats.Goals as goal

pub returns-then-same_bytes : goal.returns-then-same_bytes
returns-then-same_bytes g c = floats_twice _ _ _ _ (c.same_bytes.ensures c.if-same_bytes.true)

pub loop-i-preserved : goal.loop-i-preserved
loop-i-preserved g c = left_next _ _ _ _ _ _ c.loop-i.invariant c.loop-i-test.true (sym c.same_f64.ensures ∙ c.if-not-same_f64.false)

pub returns-then-not-same_f64 : goal.returns-then-not-same_f64
returns-then-not-same_f64 g c = left_stops _ _ _ _ _ _ c.loop-i.invariant c.loop-i-test.true (sym c.same_f64.ensures ∙ c.if-not-same_f64.true)

pub returns : goal.returns
returns g c = left_none _ _ _ _ _ _ c.loop-i.invariant c.loop-i-test.false
