use Rattle.std.proofs.Common.{◌≡◌, ◌+◌, ◌*◌, ◌-◌}
use Rattle.strip_equality.specs.Places.{same_floats}
use Rattle.strip_equality.proofs.same_floats.Given as goal

abbrev pub invariant-loop-i : goal.invariant-loop-i
invariant-loop-i g l = same_floats l.s (l.p + 8 * l.i) (l.q + 8 * l.i) (g.row.N - l.i) ≡ same_floats l.s l.p l.q g.row.N
