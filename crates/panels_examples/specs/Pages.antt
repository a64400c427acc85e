-- Two pages of a screen of 8 by 8 pixels in bands of 4: a cell (1) and a line of two letters (2). As commands, and as the bytes of strips.
--
--     row 0   . . . . . . . .     . . . . . . . .
--         1   . . . . . . . .     . . . . . . . .
--         2   1 1 . . . . . .     . . . . 1 1 . .
--         3   1 1 . . . . . .     . . . . 1 1 . .
--         4   1 1 . . . . . .     . . . . 1 1 . .
--         5   1 1 . . 2 2 . .     . . . . 1 2 2 .
--         6   2 2 . . 2 2 . .     2 2 . . . 2 2 .
--         7   2 2 . . . . . .     2 2 . . . . . .
use Rattle.std.specs.Prelude.{List, [], ◌∷◌, ◌++◌, ℕ, zero, suc, ◌+◌, ◌/◌, ◌%◌, Float}
use Rattle.std.specs.Float.{binary32, binary64}
use Rattle.std.specs.Float.Ieee.{to_bits, neg}
use Rattle.base_floats.specs.Whole.{whole}
use Rattle.kurbo_geometry.specs.declared.Rect.{Rect}
use Rattle.kurbo_affine.specs.declared.Affine.{Affine}
use Rattle.display_list_commands.specs.declared.Glyph.{Glyph}
use Rattle.display_list_commands.specs.declared.DrawCommand.{DrawCommand}
use Rattle.display_list_commands.specs.declared.DrawCommand.TheVariants.{FillPath, StrokePath, GlyphRun, Scene}
use Rattle.display_list_commands.specs.Bounds.{Command}

-- ---- the pages
abbrev pub box : Float → Float → ℕ → ℕ → Rect
box x0 y0 x1 y1 = record { x0 = x0; y0 = y0; x1 = whole x1; y1 = whole y1 }

abbrev pub moved : ℕ → Affine
moved right = record { a = whole 1; b = whole 0; c = whole 0; d = whole 1; e = whole right; f = whole 0 }

-- a FILL of 2 by 4 in rows 2 to 5, so in both bands, moved to the right; brush 1
abbrev pub cell : ℕ → Command
cell right = record { draw = FillPath 1 (box (whole 0) (whole 2) 2 6) (moved right) 1; glyphs = []; clips = [] }

-- a GLYPH of 2 by 2 from x on, up to a column, and from a row on
abbrev pub letter : ℕ → Float → ℕ → ℕ → Glyph
letter id x end row = record { id = id; x = x; y = whole row; bounds = box x (whole row) end (row + 2) }

-- a RUN of two letters of font 7, size 2; brush 2
abbrev pub line : Glyph → Glyph → Command
line g j = record { draw = GlyphRun 7 (whole 2) (moved 0) 2 (box (whole 0) (whole 0) 1 1) 2; glyphs = g ∷ j ∷ []; clips = [] }

abbrev pub page_one : List Command
page_one = cell 0 ∷ line (letter 5 (whole 0) 2 6) (letter 6 (whole 4) 6 5) ∷ []

-- The cell has moved by 4, the second letter by 1. The first letter stands at -0, which is 0.
abbrev pub page_two : List Command
page_two = cell 4 ∷ line (letter 5 (neg (whole 0)) 2 6) (letter 6 (whole 5) 7 5) ∷ []

-- ---- bytes
-- "Integers and floats are little-endian": so many bytes of a number
unfoldable pub bytes : ℕ → ℕ → List ℕ
bytes zero n = []
bytes (suc k) n = n % 256 ∷ bytes k (n / 256)

abbrev pub f32 : Float → List ℕ
f32 x = bytes 4 (to_bits binary32 x)

abbrev pub f64 : Float → List ℕ
f64 x = bytes 8 (to_bits binary64 x)

-- "A box is x0, y0, x1, y1 .. An affine is a, b, c, d, e, f."
abbrev pub box_bytes : Rect → List ℕ
box_bytes b = f64 b.x0 ++ f64 b.y0 ++ f64 b.x1 ++ f64 b.y1

abbrev pub affine_bytes : Affine → List ℕ
affine_bytes t = f64 t.a ++ f64 t.b ++ f64 t.c ++ f64 t.d ++ f64 t.e ++ f64 t.f

-- the strip table's rows 03, 05 and 06; the pages have no other commands
abbrev pub draw_bytes : DrawCommand → List ℕ
draw_bytes (FillPath path b t brush) = 3 ∷ (bytes 8 path ++ box_bytes b ++ affine_bytes t ++ bytes 8 brush)
draw_bytes (StrokePath path b t stroke brush) = []
draw_bytes (GlyphRun font size t brush b n) = 5 ∷ (bytes 8 font ++ f32 size ++ affine_bytes t ++ bytes 8 brush ++ box_bytes b ++ bytes 2 n)
draw_bytes (Scene content generation target t b) = []

unfoldable pub glyph_bytes : List Glyph → List ℕ
glyph_bytes [] = []
glyph_bytes (g ∷ gs) = 6 ∷ (bytes 4 g.id ++ f32 g.x ++ f32 g.y ++ box_bytes g.bounds ++ glyph_bytes gs)

-- the commands one after the other, then END
unfoldable pub strip : List Command → List ℕ
strip [] = 0 ∷ []
strip (c ∷ cs) = draw_bytes c.draw ++ glyph_bytes c.glyphs ++ strip cs

-- "The header is width, height, band height, u32 each."
abbrev pub header : List ℕ
header = bytes 4 8 ++ bytes 4 8 ++ bytes 4 4
