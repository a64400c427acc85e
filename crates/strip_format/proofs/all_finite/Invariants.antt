use Rattle.strip_format.specs.Finite.{AllFinite}
use Rattle.strip_format.proofs.all_finite.Given as goal

abbrev pub invariant-loop-i : goal.invariant-loop-i
invariant-loop-i l = AllFinite l.s l.at l.i
