-- Runs of glyphs in the strip, and what becomes of a glyph's box in one: by its transform and clip number, as by a command's own transform and clips.
use Rattle.std.specs.Prelude.{List, ℕ, ◌+◌, ◌*◌, ◌≤◌, ◌<◌, length, Float}
use Rattle.kurbo_geometry.specs.declared.Rect.{Rect}
use Rattle.display_list_commands.specs.declared.Glyph.{Glyph}
use Rattle.display_list.specs.Lists.{window_glyph_bounds}
use Rattle.strip_format.specs.Format.{glyphs_from}
use Rattle.strip_format.specs.Layout as Layout
use Rattle.display_list_glyph_changes.specs.declared.Run.{Run}

-- the glyphs of a run
abbrev pub glyphs_of : List ℕ → Run → List Glyph
glyphs_of s r = glyphs_from s r.glyphs r.count

-- n glyphs from an offset on, if there are any, stand whole in the strip
abbrev pub Inside : List ℕ → ℕ → ℕ → Type 0
Inside s at n = 0 < n → at + Layout.glyph_length * n ≤ length s

-- what changed from one run to another is fewer boxes than this, since a count has 32 bits; so is what changed between any two commands
abbrev pub most_boxes : ℕ
most_boxes = 8589934592

-- a glyph's "transformed, clipped" box
unfoldable pub windowed : List Float → Run → Glyph → Rect
windowed bs r g = window_glyph_bounds bs r.clip r.transform g.bounds
