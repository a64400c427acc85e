use Rattle.compositor_scheduler.proofs.Writes.{Writing}
use Rattle.compositor_scheduler.proofs.put_band.Given as goal

abbrev pub invariant-loop-i : goal.invariant-loop-i
invariant-loop-i l = Writing l.work l.initial.out l.out l.sum l.i
