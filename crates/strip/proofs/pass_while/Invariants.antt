use Rattle.strip.specs.Effects.{Passes}
use mathlib.Core.Path.{◌≡◌}
use Rattle.strip.proofs.pass_while.Given as goal

abbrev pub invariant-loop-bounds : goal.invariant-loop-bounds
invariant-loop-bounds g l = (l.next.run ≡ l.initial.next.run) × Passes l.s l.initial.next l.next

abbrev pub decreases-loop-bounds : goal.decreases-loop-bounds
decreases-loop-bounds g l = l.next.due
