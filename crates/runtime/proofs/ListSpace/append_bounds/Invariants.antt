use Prim.Native.Nat.{◌*◌}
use lib.ListN.{drop}
use Rattle.base_rect_list.specs.Rects.{AddedTo}
use Rattle.base_rect_words.specs.Words.{boxes_to}
use Rattle.runtime.proofs.ListSpace.append_bounds.Given as goal

-- the boxes so far are appended
abbrev pub invariant-loop-edges : goal.invariant-loop-edges
invariant-loop-edges l = AddedTo l.edges-index l.fn.rects (boxes_to (drop (4 * l.first) l.self.item_boxes.now) l.edges-index) l.rects
