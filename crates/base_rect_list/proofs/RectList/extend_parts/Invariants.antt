use Rattle.std.proofs.Common.{length}
use Rattle.base_rect_list.specs.Rects.{AddedTo}
use Rattle.base_rect_list.proofs.RectList.extend_parts.Given as goal

-- the boxes so far are appended
abbrev pub invariant-loop-rect : goal.invariant-loop-rect
invariant-loop-rect l = AddedTo (length l.yielded) l.initial.self l.yielded l.self
