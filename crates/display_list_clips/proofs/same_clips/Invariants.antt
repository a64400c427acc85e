use Rattle.display_list_clips.proofs.Walks.{Left}
use Rattle.display_list_clips.proofs.same_clips.Given as goal

abbrev pub invariant-walk : goal.invariant-walk
invariant-walk l = Left l.boxes l.below l.one l.other l.x l.y

abbrev pub decreases-walk : goal.decreases-walk
decreases-walk l = l.x
