-- `put_band` meets its contract: the first i regions are written. Assumes nothing.
use native.Mathlib.Omega.{arith}
use Rattle.compositor_scheduler.proofs.Writes.{write_start, write_next, pixels_low, area_few}
use Rattle.compositor_scheduler.proofs.put_band.Goals as goal

pub loop-i-init : goal.loop-i-init
loop-i-init c = write_start _ _

pub overflow_add-sum : goal.overflow_add-sum
overflow_add-sum c =
    omega (arith, pixels_low c.loop-i.invariant, area_few _ _ c.from_yx-r.ensures _ c.area-sum.ensures)

pub loop-i-preserved : goal.loop-i-preserved
loop-i-preserved c =
    write_next c.loop-i.invariant c.loop-i-test.true _ c.from_yx-r.ensures _ c.put_region.auto.out c.put_region.ensures _ c.area-sum.ensures
