use Rattle.display_list_clips.proofs.Walks.{left_start, left_x, left_y, left_stop, left_next}
use mathlib.Core.Path.{◌∙◌}
use borrow.Author.Tests.{ne_eqb}
use Rattle.display_list_clips.proofs.same_clips.Goals as goal
use Rattle.display_list_clips.proofs.same_clips.Goals.{then-x-eq0-via-then-x-eq0, then-x-eq0-via-else-x-eq0+then-y-eq0}

pub walk-init : goal.walk-init
walk-init c = left_start _ _ _ _ c.requires

pub walk-smaller : goal.walk-smaller
walk-smaller c = (left_next _ _ _ _ _ _ c.walk.invariant c.if-x-eq0.false c.if-y-eq0.false c.same_edges.ensures c.rect_from-clip.ensures c.rect_from-other_clip.ensures c.if-not-same_edges.false).0

pub walk-preserved : goal.walk-preserved
walk-preserved c = (left_next _ _ _ _ _ _ c.walk.invariant c.if-x-eq0.false c.if-y-eq0.false c.same_edges.ensures c.rect_from-clip.ensures c.rect_from-other_clip.ensures c.if-not-same_edges.false).1

pub returns-then-not-same_edges : goal.returns-then-not-same_edges
returns-then-not-same_edges c = left_stop _ _ _ _ _ _ c.walk.invariant c.if-x-eq0.false c.if-y-eq0.false c.same_edges.ensures c.rect_from-clip.ensures c.rect_from-other_clip.ensures c.if-not-same_edges.true

pub returns-then-x-eq0-2 : goal.returns-then-x-eq0-2
returns-then-x-eq0-2 c = left_x _ _ _ _ _ _ c.walk.invariant c.if-x-eq0-2.true

pub returns-else-x-eq0-2 : goal.returns-else-x-eq0-2
returns-else-x-eq0-2 c =
    elim c.then-x-eq0.branch [
      | then-x-eq0-via-then-x-eq0 w ↦ absurd (c.if-x-eq0-2.false w.if-x-eq0.true)
      | then-x-eq0-via-else-x-eq0+then-y-eq0 w ↦ ne_eqb _ 0 c.if-x-eq0-2.false ∙ left_y _ _ _ _ _ _ c.walk.invariant c.if-x-eq0-2.false w.if-y-eq0.true
    ]
