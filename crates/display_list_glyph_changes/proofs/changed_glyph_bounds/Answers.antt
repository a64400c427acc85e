-- `display_list_glyph_changes::changed_glyph_bounds` meets its contract: place by place, and then what only one run has. Assumes nothing.
use mathlib.Core.Path.{refl}
use mathlib.Core.Logic.{inl, inr}
use native.Mathlib.Omega.{arith}
use Rattle.base_lists.proofs.Picks.{by_le}
use Rattle.base_rect_list.proofs.Turns.{to_add, to_last}
use Rattle.display_list_glyph_changes.specs.Runs.{windowed}
use Rattle.display_list_glyph_changes.proofs.Places.{changed_next, changed_rest}
use Rattle.display_list_glyph_changes.proofs.changed_glyph_bounds.Goals as goal

pub loop-k-preserved : goal.loop-k-preserved
loop-k-preserved c = (omega (arith, c.append_changed.ensures.added.most, c.min-common.ensures), to_add c.loop-k.invariant.1 (changed_next _ _ _ _ _ _ _ _ (omega (arith, c.min-common.ensures)) (omega (arith, c.min-common.ensures))) c.append_changed.ensures)

pub returns : goal.returns
returns c =
    to_last
    (to_add c.loop-k.invariant.1 (changed_rest (windowed c.args.boxes.now c.args.old) (windowed c.args.boxes.now c.args.new) c.args.s.now c.args.old.glyphs c.args.old.count c.args.new.glyphs c.args.new.count c.loop-k.k c.min-common.result (omega arith) (by_le c.args.old.count c.args.new.count (λ h. inl (omega (arith, c.min-common.ensures))) (λ h. inr (omega (arith, c.min-common.ensures))))) c.append_glyph_bounds.ensures)
    refl
    (omega (arith, c.append_glyph_bounds.ensures.added.most, c.append_glyph_bounds-2.ensures.added.most, c.min-common.ensures, c.loop-k.invariant.0))
    c.append_glyph_bounds-2.ensures
