use mathlib.Core.List.{map}
use Prim.Native.Nat.{◌+◌, ◌-◌, ◌≤◌}
use Rattle.base_rect_list.proofs.Turns.{AppendedTo}
use Rattle.display_list_glyph_changes.specs.Runs.{windowed}
use Rattle.display_list_glyph_changes.proofs.Places.{from}
use Rattle.display_list_glyph_changes.proofs.append_glyph_bounds.Given as goal

abbrev pub invariant-loop-k : goal.invariant-loop-k
invariant-loop-k l =
    (l.first ≤ l.k) × (l.k ≤ l.run.count) × (l.rects.count + (l.run.count - l.k) ≤ l.fn.rects.count + (l.run.count - l.first))
    × AppendedTo l.fn.rects (map (windowed l.boxes l.run) (from l.s l.run.glyphs l.run.count l.first)) l.rects (map (windowed l.boxes l.run) (from l.s l.run.glyphs l.run.count l.k))
