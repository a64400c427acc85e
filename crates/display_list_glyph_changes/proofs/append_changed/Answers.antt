-- `display_list_glyph_changes::append_changed` meets its contract: glyphs of the same bytes are painted alike. Assumes nothing.
use mathlib.Core.Path.{sym, ◌∙◌}
use native.Mathlib.Omega.{arith}
use Rattle.base_rect_list.proofs.Turns.{to_as, to_none}
use Rattle.display_list_glyph_changes.proofs.Places.{same_painted, changed_none, changed_one, united_by}
use Rattle.display_list_glyph_changes.proofs.append_changed.Goals as goal
use Rattle.display_list_glyph_changes.proofs.append_changed.Goals.{then-same_bytes-via-then-same_bytes, then-same_bytes-via-else-same_bytes+then-glyph_eq}

pub returns-then-same_bytes : goal.returns-then-same_bytes
returns-then-same_bytes c =
    elim c.then-same_bytes.branch [
      | then-same_bytes-via-then-same_bytes w ↦ to_as (changed_none _ _ _ _ _ (same_painted _ _ _ (c.same_bytes.ensures w.if-same_bytes.true))) (omega arith) (to_none {k = 0})
      | then-same_bytes-via-else-same_bytes+then-glyph_eq w ↦ to_as (changed_none _ _ _ _ _ (sym w.glyph_eq.ensures ∙ w.if-glyph_eq.true)) (omega arith) (to_none {k = 0})
    ]

pub returns : goal.returns
returns c = to_as (changed_one _ _ _ _ _ (sym c.glyph_eq.ensures ∙ c.if-glyph_eq.false) (united_by c.union.ensures c.window_at-b.ensures c.window_at-c.ensures)) (omega arith) c.push.ensures
