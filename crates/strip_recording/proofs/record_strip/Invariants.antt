use lib.ListN.{length}
use Prim.Native.Nat.{◌-◌}
use Rattle.strip_recording.specs.Recorded.{space}
use Rattle.strip_recording.proofs.Going.{RecordingSoFar}
use Rattle.strip_recording.proofs.record_strip.Given as goal

abbrev pub invariant-loop-t : goal.invariant-loop-t
invariant-loop-t l = RecordingSoFar l.s l.at l.clips l.commands (space l.initial.boxes l.initial.below l.initial.items l.initial.item_boxes) l.st l.list (space l.boxes l.below l.items l.item_boxes)

abbrev pub decreases-loop-t : goal.decreases-loop-t
decreases-loop-t l = length l.s - l.st.at
