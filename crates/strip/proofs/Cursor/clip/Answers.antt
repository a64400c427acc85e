use Rattle.std.specs.Prelude.{Err}
use Rattle.strip.proofs.Effects.{clip_deep, clip_many, clip_read}
use mathlib.Core.Path.{ap, ◌∙◌}
use Rattle.strip.proofs.Cursor.clip.Goals as goal
use Rattle.strip.proofs.Cursor.clip.Goals.{then-self-ge-MOST_DEPTH-via-then-self-ge-MOST_DEPTH, then-self-ge-MOST_DEPTH-via-else-self-ge-MOST_DEPTH+then-self-ge-MOST_CLIPS}

pub returns-then-self-ge-MOST_DEPTH : goal.returns-then-self-ge-MOST_DEPTH
returns-then-self-ge-MOST_DEPTH c =
    ap Err c.at.ensures
    ∙ elim c.then-self-ge-MOST_DEPTH.branch [
      | then-self-ge-MOST_DEPTH-via-then-self-ge-MOST_DEPTH w ↦ clip_deep _ _ w.if-self-ge-MOST_DEPTH.true
      | then-self-ge-MOST_DEPTH-via-else-self-ge-MOST_DEPTH+then-self-ge-MOST_CLIPS w ↦ clip_many _ _ w.if-self-ge-MOST_DEPTH.false w.if-self-ge-MOST_CLIPS.true
    ]

pub returns : goal.returns
returns c = clip_read _ _ _ c.rect_finite-bounds.ensures c.if-self-ge-MOST_DEPTH.false c.if-self-ge-MOST_CLIPS.false
