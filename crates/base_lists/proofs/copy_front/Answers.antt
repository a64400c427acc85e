-- `copy_front` meets its contract: the loop has copied the first i elements. Assumes nothing.
use mathlib.Core.Path.{sym}
use Rattle.base_lists.proofs.Slices.{copy_none, copy_next, copy_all}
use Rattle.base_lists.proofs.copy_front.Goals as goal

pub loop-i-init : goal.loop-i-init
loop-i-init g c = copy_none c.requires.0 c.requires.1

pub loop-i-preserved : goal.loop-i-preserved
loop-i-preserved g c = copy_next _ _ c.loop-i.invariant c.loop-i-test.true (sym c.index-src-i.is)

pub returns : goal.returns
returns g c = copy_all c.loop-i.invariant c.loop-i-test.false
