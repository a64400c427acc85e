use Rattle.std.proofs.lemmas.Result.{err_from_is_err_and}
-- `strip::read_strip` meets its contract: what is left to read decides as the whole does, and each step leaves less. Assumes nothing.
use Rattle.std.specs.Prelude.{Ok}
use mathlib.Core.Path.{refl, ap}
use Rattle.strip.proofs.Moves.{rest_start, on_moved, on_end, on_refused}
use Rattle.strip.proofs.read_strip.Goals as goal

pub loop-t-init : goal.loop-t-init
loop-t-init c = rest_start _ _ _ c.start-st.ensures

pub loop-t-smaller : goal.loop-t-smaller
loop-t-smaller c = (on_moved _ _ _ c.loop-t.invariant c.in_ok-t.ensures c.in-Next.is).0

pub loop-t-preserved : goal.loop-t-preserved
loop-t-preserved c = (on_moved _ _ _ c.loop-t.invariant c.in_ok-t.ensures c.in-Next.is).1

pub loop-t-smaller-in-Next : goal.loop-t-smaller-in-Next
loop-t-smaller-in-Next c = (on_moved _ _ _ c.loop-t.invariant c.in_ok-t.ensures c.in-Next.is).0

pub loop-t-preserved-in-Next : goal.loop-t-preserved-in-Next
loop-t-preserved-in-Next c = (on_moved _ _ _ c.loop-t.invariant c.in_ok-t.ensures c.in-Next.is).1

pub loop-t-smaller-in-Next-2 : goal.loop-t-smaller-in-Next-2
loop-t-smaller-in-Next-2 c = (on_moved _ _ _ c.loop-t.invariant c.in_ok-t.ensures c.in-Next.is).0

pub loop-t-preserved-in-Next-2 : goal.loop-t-preserved-in-Next-2
loop-t-preserved-in-Next-2 c = (on_moved _ _ _ c.loop-t.invariant c.in_ok-t.ensures c.in-Next.is).1

pub loop-t-smaller-in-Next-3 : goal.loop-t-smaller-in-Next-3
loop-t-smaller-in-Next-3 c = (on_moved _ _ _ c.loop-t.invariant c.in_ok-t.ensures c.in-Next.is).0

pub loop-t-preserved-in-Next-3 : goal.loop-t-preserved-in-Next-3
loop-t-preserved-in-Next-3 c = (on_moved _ _ _ c.loop-t.invariant c.in_ok-t.ensures c.in-Next.is).1

pub returns-in-End : goal.returns-in-End
returns-in-End c = on_end _ _ _ _ c.loop-t.invariant c.in_ok-t.ensures _ (ap Ok c.in-End.is)

pub returns-in_err-t : goal.returns-in_err-t
returns-in_err-t c = let p = err_from_is_err_and c.from_residual.result c.from_residual.ensures.1 in rw (p.1, p.2) (on_refused _ _ _ _ c.loop-t.invariant c.in_err-t.ensures _ refl)
