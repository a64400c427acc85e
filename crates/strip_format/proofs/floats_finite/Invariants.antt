use Prim.Native.Nat.{◌≤◌}
use lib.ListN.{length}
use Rattle.strip_format.specs.Finite.{FloatsFrom}
use Rattle.strip_format.proofs.floats_finite.Given as goal

abbrev pub invariant-loop-i : goal.invariant-loop-i
invariant-loop-i g l = (l.i-end ≤ length l.floats) × FloatsFrom l.s l.at l.i l.floats
