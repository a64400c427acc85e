use Prim.Native.Nat.{◌*◌, ◌≤◌}
use Rattle.display_list_stored.specs.Stored.{commands_in}
use Rattle.display_list_glyph_changes.specs.Runs.{most_boxes}
use Rattle.base_rect_list.proofs.Turns.{AppendedTo}
use Rattle.display_list_changes.specs.Changes.{diff_dirty}
use Rattle.runtime.specs.Placed.{AlikeClips}
use Rattle.runtime.proofs.Changes.{changed_from}
use Rattle.runtime.proofs.ListSpace.diff_dirty.Given as goal

-- what changed from place i on is left, and the clips known are alike
abbrev pub invariant-loop-i : goal.invariant-loop-i
invariant-loop-i l = (l.list.count ≤ most_boxes * l.i)
    × AppendedTo l.initial.list (diff_dirty (commands_in l.self.bytes.now l.self.boxes.now l.self.below.now l.self.items.now 0 l.old) (commands_in l.self.bytes.now l.self.boxes.now l.self.below.now l.self.items.now l.old l.new)) l.list (changed_from l.self.bytes.now l.self.boxes.now l.self.below.now l.self.items.now l.old l.new l.i)
    × AlikeClips l.self.boxes.now l.self.below.now l.known.0 l.known.1
