-- `runtime::rect_symmetric_difference` meets its contract: one difference, and then the other. Assumes nothing.
use native.Mathlib.Omega.{arith}
use Rattle.display_list_differences.specs.Differences.{rect_symmetric_difference}
use Rattle.base_rect_list.proofs.Turns.{to_both, to_as}
use Rattle.runtime.proofs.rect_symmetric_difference.Goals as goal

pub returns : goal.returns
unfolding rect_symmetric_difference
returns c = to_both {j = 4} {k = 4} (to_as c.rect_difference.ensures (omega arith) c.extend_parts.ensures) (to_as c.rect_difference-2.ensures (omega arith) c.extend_parts-2.ensures)
