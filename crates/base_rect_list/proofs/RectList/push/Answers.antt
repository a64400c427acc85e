-- `RectList::push` meets its contract, with room and without. Assumes nothing.
use mathlib.Core.Path.{refl}
use Rattle.base_rect_list.proofs.Appends.{put_room, put_full}
use Rattle.base_rect_list.proofs.RectList.push.Goals as goal
use Rattle.base_rect_list.proofs.RectList.push.Goals.{then-self, else-self}

pub returns : goal.returns
returns c =
    elim c.if-self.branch [
      | then-self w ↦ rw w.self-is record { added = put_room _ _ _ _ w.if-self.true w.put_rect.ensures; same_place = refl }
      | else-self w ↦ rw w.self-is record { added = put_full _ _ _ w.if-self.false; same_place = refl }
    ]
