-- Painters: what they are given, and the four rules that they keep.
use Rattle.std.specs.Prelude.{◌≡◌, Bool, true, false, ◌&&◌, List, ℕ, ◌<◌, eqb, Float}
use Rattle.std.specs.Float.Ieee.{eq}
use Rattle.base_lists.specs.Members.{In}
use Rattle.kurbo_geometry.specs.declared.Rect.{Rect}
use Rattle.kurbo_geometry.specs.Boxes.{same_edges}
use Rattle.kurbo_geometry.specs.Pixels.{touches, part}
use Rattle.kurbo_affine.specs.declared.Affine.{Affine}
use Rattle.display_list_commands.specs.declared.Glyph.{Glyph}
use Rattle.display_list_commands.specs.declared.DrawCommand.{DrawCommand}
use Rattle.display_list_commands.specs.declared.DrawCommand.TheVariants.{FillPath, StrokePath, GlyphRun, Scene}
use Rattle.display_list_commands.specs.Bounds.{Command, transform_of, bounds, glyph_bounds}
use Rattle.display_list_operand_equality.specs.Operands.{same_affine, same_glyph, same_clips}
use Rattle.display_list_equality.specs.Drawings.{equal, fills_alike}
use Rattle.compositor_index_words.specs.Painting.{paint_all}
use Rattle.display_list_commands.specs.Sizes.{size_of}

-- pixel (p, q) of a screen of w by h
pub record Pixel (w h : ℕ) : Type 0 where
  pub p : ℕ
  pub q : ℕ
  pub across : p < w
  pub down : q < h

-- ---- runs
abbrev pub is_run : DrawCommand → Bool
is_run (FillPath path b t brush) = false
is_run (StrokePath path b t stroke brush) = false
is_run (GlyphRun font size t brush b n) = true
is_run (Scene content generation target t b) = false

-- a run's font and brush; asked of runs alone, as its size is (`size_of`)
abbrev pub font_of : DrawCommand → ℕ
font_of (FillPath path b t brush) = 0
font_of (StrokePath path b t stroke brush) = 0
font_of (GlyphRun font size t brush b n) = font
font_of (Scene content generation target t b) = 0

abbrev pub brush_of : DrawCommand → ℕ
brush_of (FillPath path b t brush) = brush
brush_of (StrokePath path b t stroke brush) = brush
brush_of (GlyphRun font size t brush b n) = brush
brush_of (Scene content generation target t b) = 0

-- what a glyph is painted by: "font, size, affine, brush, clip and the glyph's id, x and y"
pub record Key : Type 0 where
  pub font : ℕ
  pub size : Float
  pub transform : Affine
  pub brush : ℕ
  pub clips : List Rect
  pub id : ℕ
  pub x : Float
  pub y : Float

abbrev pub key_of : Command → Glyph → Key
key_of c g =
    record {
      font = font_of c.draw;
      size = size_of c.draw;
      transform = transform_of c.draw;
      brush = brush_of c.draw;
      clips = c.clips;
      id = g.id;
      x = g.x;
      y = g.y;
    }

-- "floats by value"
unfoldable pub same_key : Key → Key → Bool
same_key j k =
    (eqb j.font k.font && eq j.size k.size)
    && (same_affine j.transform k.transform && eqb j.brush k.brush)
    && same_clips j.clips k.clips
    && (eqb j.id k.id && (eq j.x k.x && eq j.y k.y))

-- ---- the rules
-- "A painter may be any function of command, pixel and colour below", here `paint`, with `mark` for one glyph, over colours C of any type, "if, over the
-- commands of the list's accepted frames and no others", here M, these hold
pub record Rules (w h : ℕ) (C : Type 0) (M : Command → Type 0) (paint : Command → Pixel w h → C → C) (mark : Key → Pixel w h → C → C) : Type 0 where
  -- "(i) equal commands paint alike"
  pub equals : (c d : Command) → M c → M d → equal c d ≡ true → (px : Pixel w h) (k : C) → paint c px k ≡ paint d px k
  -- "(ii) a command changes no pixel untouched by its box"
  pub untouched : (c : Command) → M c → (px : Pixel w h) → touches (bounds c) px.p px.q ≡ false → (k : C) → paint c px k ≡ k
  -- "(iii) FILLs alike in path, affine and brush paint alike where both boxes cut the pixel's closed square to the same part"
  pub fills :
      (c d : Command) → M c → M d → fills_alike c.draw d.draw ≡ true
      → (px : Pixel w h) → same_edges (part (bounds c) px.p px.q) (part (bounds d) px.p px.q) ≡ true → (k : C) → paint c px k ≡ paint d px k
  -- "(iv) a RUN paints glyph by glyph"
  pub glyph_by_glyph :
      (c : Command) → M c → is_run c.draw ≡ true
      → (px : Pixel w h) (k : C) → paint c px k ≡ paint_all (λ (g : Glyph). mark (key_of c g) px) c.glyphs k
  -- "each by font, size, affine, brush, clip and the glyph's id, x and y (floats by value)"
  pub by_value :
      (c d : Command) → M c → M d → is_run c.draw ≡ true → is_run d.draw ≡ true
      → (g j : Glyph) → In g c.glyphs → In j d.glyphs → same_key (key_of c g) (key_of d j) ≡ true
      → (px : Pixel w h) (k : C) → mark (key_of c g) px k ≡ mark (key_of d j) px k
  -- "changing no pixel untouched by its transformed, clipped box"
  pub glyph_untouched :
      (c : Command) → M c → is_run c.draw ≡ true → (g : Glyph) → In g c.glyphs
      → (px : Pixel w h) → touches (glyph_bounds c g) px.p px.q ≡ false → (k : C) → mark (key_of c g) px k ≡ k

-- "The glyph rule: in the list's accepted frames, glyphs equal in font, size, id, x and y carry equal boxes."
abbrev pub GlyphRule : (Command → Type 0) → Type 0
GlyphRule M =
    (c d : Command) → M c → M d → is_run c.draw ≡ true → is_run d.draw ≡ true
    → (g j : Glyph) → In g c.glyphs → In j d.glyphs
    → eqb (font_of c.draw) (font_of d.draw) ≡ true → eq (size_of c.draw) (size_of d.draw) ≡ true → same_glyph g j ≡ true
    → same_edges g.bounds j.bounds ≡ true
