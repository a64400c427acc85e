use lib.ListN.{length}
use Prim.Native.Nat.{◌-◌}
use Rattle.strip.proofs.Moves.{Rest}
use Rattle.strip.proofs.read_strip.Given as goal

abbrev pub invariant-loop-t : goal.invariant-loop-t
invariant-loop-t l = Rest l.s l.at l.st

abbrev pub decreases-loop-t : goal.decreases-loop-t
decreases-loop-t l = length l.s - l.st.at
