-- `display_list_glyph_changes::append_glyph_bounds` meets its contract: what is left, appended to what is there, is the whole. Assumes nothing.
use native.Mathlib.Omega.{arith}
use Rattle.base_rect_list.proofs.Turns.{to_add, to_end}
use Rattle.display_list_glyph_changes.proofs.Places.{boxes_end, boxes_next}
use Rattle.display_list_glyph_changes.proofs.append_glyph_bounds.Goals as goal

pub loop-k-preserved : goal.loop-k-preserved
loop-k-preserved c = (omega arith, omega arith, omega (arith, c.push.ensures.added.most), to_add c.loop-k.invariant.3 (boxes_next _ _ _ _ _ (omega arith) c.window_at.ensures) c.push.ensures)

pub returns : goal.returns
returns c = to_end c.loop-k.invariant.3 (boxes_end _ _ _ _ _ (omega arith)) (omega arith)
