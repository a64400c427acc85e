use Rattle.base_lists.proofs.Slices.{Copied}
use Rattle.base_lists.proofs.copy_front.Given as goal

abbrev pub invariant-loop-i : goal.invariant-loop-i
invariant-loop-i g l = Copied l.src l.n l.initial.dst l.dst l.i
