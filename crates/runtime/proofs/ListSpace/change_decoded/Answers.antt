-- `ListSpace::change_decoded` meets its contract: the case that the tests tell. Assumes nothing.
use mathlib.Core.Path.{◌≡◌, sym, ◌∙◌}
use mathlib.Core.Bool.{false, ◌&&◌}
use Rattle.std.proofs.lemmas.Bool.{and_from}
use Rattle.base_lists.proofs.Bools.{and_off}
use Rattle.display_list_stored.specs.Stored.{command_in}
use Rattle.runtime.proofs.Cases.{drawn, equal_off, equal_from, equal_unclipped, runs_unclipped, runs_off, runs_from, tells_same, tells_fills, tells_other, tells_runs}
use Rattle.runtime.proofs.Placed.{clips_at}
use Rattle.runtime.proofs.Repeats.{undrawn}
use Rattle.runtime.proofs.ListSpace.change_decoded.Goals as goal
use Rattle.runtime.proofs.ListSpace.change_decoded.Goals.{else-same_drawing-via-then-same_drawing+else-equal_glyphs, else-same_drawing-via-else-same_drawing, else-runs_alike-via-then-runs_alike+else-same_clips-2, else-runs_alike-via-else-runs_alike}

pub returns-then-same_clips : goal.returns-then-same_clips
returns-then-same_clips c =
    let me = c.args.self in
    let draws = rw (c.command_at-old.ensures, c.command_at-new.ensures, c.offset_at.ensures, c.offset_at-2.ensures) at (sym c.same_drawing.ensures ∙ c.if-same_drawing.true) in
    let glyphs = rw (c.run_at.ensures, c.run_at-then-same_drawing.ensures) at (sym c.equal_glyphs.ensures ∙ c.if-equal_glyphs.true) in
    let clips = sym (c.same_clips.ensures ∙ clips_at _ _ c.clip_number_at-clip.ensures c.clip_number_at-other_clip.ensures) ∙ c.if-same_clips.true in
    tells_same _ _ (equal_from (command_in me.bytes.now me.boxes.now me.below.now me.items.now c.args.i) (command_in me.bytes.now me.boxes.now me.below.now me.items.now c.args.j) (and_from _ _ draws glyphs) clips)

pub returns-then-fills_alike : goal.returns-then-fills_alike
returns-then-fills_alike c =
    let me = c.args.self in
    let clips = sym (c.same_clips.ensures ∙ clips_at _ _ c.clip_number_at-clip.ensures c.clip_number_at-other_clip.ensures) ∙ c.if-same_clips.false in
    tells_fills _ _
    (equal_unclipped (command_in me.bytes.now me.boxes.now me.below.now me.items.now c.args.i) (command_in me.bytes.now me.boxes.now me.below.now me.items.now c.args.j) clips)
    (rw (c.command_at-old.ensures, c.command_at-new.ensures, c.offset_at.ensures, c.offset_at-2.ensures) at (sym c.fills_alike.ensures ∙ c.if-fills_alike.true))

pub returns-then-equal_glyphs : goal.returns-then-equal_glyphs
returns-then-equal_glyphs c =
    let me = c.args.self in
    let old = command_in me.bytes.now me.boxes.now me.below.now me.items.now c.args.i in
    let new = command_in me.bytes.now me.boxes.now me.below.now me.items.now c.args.j in
    let clips = sym (c.same_clips.ensures ∙ clips_at _ _ c.clip_number_at-clip.ensures c.clip_number_at-other_clip.ensures) ∙ c.if-same_clips.false in
    tells_other old new (equal_unclipped old new clips)
    (rw (c.command_at-old.ensures, c.command_at-new.ensures, c.offset_at.ensures, c.offset_at-2.ensures) at (sym c.fills_alike.ensures ∙ c.if-fills_alike.false))
    (runs_unclipped old new clips)

pub returns-then-same_clips-2 : goal.returns-then-same_clips-2
returns-then-same_clips-2 c =
    let me = c.args.self in
    let old = command_in me.bytes.now me.boxes.now me.below.now me.items.now c.args.i in
    let new = command_in me.bytes.now me.boxes.now me.below.now me.items.now c.args.j in
    tells_runs old new (runs_from old new
    (rw (c.command_at-old.ensures, c.command_at-new.ensures, c.offset_at.ensures, c.offset_at-2.ensures) at (sym c.runs_alike.ensures ∙ c.if-runs_alike.true))
    (sym (c.same_clips-then-runs_alike.ensures ∙ clips_at _ _ c.clip_number_at-clip.ensures c.clip_number_at-other_clip.ensures) ∙ c.if-same_clips-2.true))

pub returns : goal.returns
returns c =
    let me = c.args.self in
    let old = command_in me.bytes.now me.boxes.now me.below.now me.items.now c.args.i in
    let new = command_in me.bytes.now me.boxes.now me.below.now me.items.now c.args.j in
    let off : drawn old new ≡ false = elim c.else-same_drawing.branch [
      | else-same_drawing-via-then-same_drawing+else-equal_glyphs w ↦
          let draws = rw (c.command_at-old.ensures, c.command_at-new.ensures, c.offset_at.ensures, c.offset_at-2.ensures) at (sym c.same_drawing.ensures ∙ w.if-same_drawing.true) in
          let glyphs = rw (w.run_at.ensures, w.run_at-then-same_drawing.ensures) at (sym w.equal_glyphs.ensures ∙ w.if-equal_glyphs.false) in
          λ i. draws i && glyphs i
      | else-same_drawing-via-else-same_drawing w ↦
          sym (and_off _ _ (rw (c.command_at-old.ensures, c.command_at-new.ensures, c.offset_at.ensures, c.offset_at-2.ensures) at (sym c.same_drawing.ensures ∙ w.if-same_drawing.false)))
    ] in
    tells_other old new (equal_off old new off) (undrawn _ _ _ old.clips new.clips off)
    (elim c.else-runs_alike.branch [
      | else-runs_alike-via-then-runs_alike+else-same_clips-2 w ↦
          runs_unclipped old new (rw (c.clip_number_at-clip.ensures, c.clip_number_at-other_clip.ensures) at (sym w.same_clips-then-runs_alike.ensures ∙ w.if-same_clips-2.false))
      | else-runs_alike-via-else-runs_alike w ↦
          runs_off old new (rw (c.command_at-old.ensures, c.command_at-new.ensures, c.offset_at.ensures, c.offset_at-2.ensures) at (sym c.runs_alike.ensures ∙ w.if-runs_alike.false))
    ])
