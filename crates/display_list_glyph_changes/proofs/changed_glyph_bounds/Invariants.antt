use Prim.Native.Nat.{◌+◌, ◌-◌, ◌≤◌}
use Rattle.base_rect_list.proofs.Turns.{AppendedTo}
use Rattle.display_list_glyph_changes.specs.Runs.{glyphs_of, most_boxes, windowed}
use Rattle.display_list_changes.specs.Changes.{changed_glyphs}
use Rattle.display_list_glyph_changes.proofs.Places.{from}
use Rattle.display_list_glyph_changes.proofs.changed_glyph_bounds.Given as goal

abbrev pub invariant-loop-k : goal.invariant-loop-k
invariant-loop-k l =
    (l.rects.count + (l.old.count - l.k) + (l.new.count - l.k) ≤ l.fn.rects.count + most_boxes)
    × AppendedTo l.fn.rects (changed_glyphs (windowed l.boxes l.old) (windowed l.boxes l.new) (glyphs_of l.s l.old) (glyphs_of l.s l.new)) l.rects (changed_glyphs (windowed l.boxes l.old) (windowed l.boxes l.new) (from l.s l.old.glyphs l.old.count l.k) (from l.s l.new.glyphs l.new.count l.k))
