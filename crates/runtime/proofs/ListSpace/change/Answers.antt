-- `ListSpace::change` meets its contract: the case that the bytes tell, and else the one that the decoded commands tell. Assumes nothing.
use Rattle.runtime.proofs.Placed.{begins}
use Rattle.runtime.proofs.InPlace.{tells_unchanged, tells_clipped, tells_reclipped, tells_apart, tells_run}
use Rattle.runtime.proofs.ListSpace.change.Goals as goal

pub unchanged-requires : goal.unchanged-requires
unchanged-requires c =
    let w = c.requires.0 in
    rw (c.offset_at-at.ensures, c.offset_at-other.ensures) (begins _ _ _ _ _ _ w.stored _ w.old, begins _ _ _ _ _ _ w.stored _ w.new)

pub returns-then-clips_alike : goal.returns-then-clips_alike
returns-then-clips_alike c =
    let me = c.args.self in
    tells_unchanged me.bytes.now me.boxes.now me.below.now me.items.now c.args.i c.args.j
    (rw (c.offset_at-at.ensures, c.offset_at-other.ensures) at (c.unchanged.ensures c.if-unchanged.true))
    (rw (c.clip_number_at.ensures, c.clip_number_at-2.ensures) at (c.clips_alike.ensures)) c.if-clips_alike.true

pub returns-then-stands : goal.returns-then-stands
returns-then-stands c =
    let me = c.args.self in
    tells_clipped me.bytes.now me.boxes.now me.below.now me.items.now c.args.i c.args.j
    (rw (c.offset_at-at.ensures, c.offset_at-other.ensures) at (c.unchanged.ensures c.if-unchanged.true))
    (rw (c.clip_number_at.ensures, c.clip_number_at-2.ensures) at (c.clips_alike.ensures)) c.if-clips_alike.false
    (rw (c.offset_at-at.ensures) at (c.stands.ensures.whole c.if-stands.true))

pub returns-then-unchanged : goal.returns-then-unchanged
returns-then-unchanged c =
    let me = c.args.self in
    tells_reclipped me.bytes.now me.boxes.now me.below.now me.items.now c.args.i c.args.j
    (rw (c.offset_at-at.ensures, c.offset_at-other.ensures) at (c.unchanged.ensures c.if-unchanged.true))
    (rw (c.clip_number_at.ensures, c.clip_number_at-2.ensures) at (c.clips_alike.ensures)) c.if-clips_alike.false
    (rw (c.offset_at-at.ensures) at (c.stands.ensures.else_not c.if-stands.false))

pub returns-then-apart : goal.returns-then-apart
returns-then-apart c =
    let me = c.args.self in
    tells_apart me.bytes.now me.boxes.now me.below.now me.items.now c.args.i c.args.j
    (rw (c.offset_at-at.ensures, c.offset_at-other.ensures) at (c.apart.ensures)) c.if-apart.true

pub returns-then-clips_alike-2 : goal.returns-then-clips_alike-2
returns-then-clips_alike-2 c =
    let me = c.args.self in
    tells_run me.bytes.now me.boxes.now me.below.now me.items.now c.args.i c.args.j
    (rw (c.offset_at-at.ensures, c.offset_at-other.ensures) at (c.same_run.ensures c.if-same_run.true))
    (rw (c.clip_number_at.ensures, c.clip_number_at-2.ensures) at (c.clips_alike-then-same_run.ensures)) c.if-clips_alike-2.true
