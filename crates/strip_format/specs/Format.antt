-- What stands at an offset of a strip: document 01's table, byte by byte, by the numbers of `Layout`. "A box is x0, y0, x1, y1 .. An affine is a, b, c, d,
-- e, f."
use Rattle.std.specs.Prelude.{List, [], ◌∷◌, ℕ, zero, suc, ◌+◌, leb, eqb, length, get_or}
use Rattle.std.specs.Float.{binary64}
use Rattle.std.specs.Float.Ieee.{of_bits}
use Rattle.base_lists.specs.Pick.{pick}
use Rattle.base_little_endian.specs.Words.{u16_at, u32_at, u64_at, f32_at, f64_at}
use Rattle.kurbo_geometry.specs.declared.Rect.{Rect}
use Rattle.kurbo_affine.specs.declared.Affine.{Affine}
use Rattle.display_list_commands.specs.declared.Join.{Join}
use Rattle.display_list_commands.specs.declared.Join.TheVariants.{Bevel, Miter, Round}
use Rattle.display_list_commands.specs.declared.Cap.{Cap}
use Rattle.display_list_commands.specs.declared.Cap.TheVariants.{Butt, Square, Round as RoundCap}
use Rattle.display_list_commands.specs.declared.Stroke.{Stroke}
use Rattle.display_list_commands.specs.declared.Glyph.{Glyph}
use Rattle.display_list_commands.specs.declared.DrawCommand.{DrawCommand}
use Rattle.display_list_commands.specs.declared.DrawCommand.TheVariants.{FillPath, StrokePath, GlyphRun, Scene}
use Rattle.strip_format.specs.Layout as Layout

-- ---- "Length", by the command's byte
unfoldable pub length_of : ℕ → ℕ
length_of b =
    pick (eqb b Layout.clip_code) Layout.clip_length
    (pick (eqb b Layout.fill_code) Layout.fill_length
    (pick (eqb b Layout.stroke_code) Layout.stroke_length
    (pick (eqb b Layout.run_code) Layout.run_length
    (pick (eqb b Layout.glyph_code) Layout.glyph_length (pick (eqb b Layout.scene_code) Layout.scene_length Layout.code_length)))))

-- where the affine of a drawing command stands, and where its box does: RUN, SCENE, then FILL and STROKE
unfoldable pub affine_offset : ℕ → ℕ → ℕ
affine_offset at b =
    pick (eqb b Layout.run_code) (at + Layout.run_affine) (pick (eqb b Layout.scene_code) (at + Layout.scene_affine) (at + Layout.fill_affine))

unfoldable pub rect_offset : ℕ → ℕ → ℕ
rect_offset at b = pick (eqb b Layout.run_code) (at + Layout.run_box) (pick (eqb b Layout.scene_code) (at + Layout.scene_box) (at + Layout.fill_box))

-- ---- operands
abbrev pub rect_at : List ℕ → ℕ → Rect
rect_at s at = record { x0 = f64_at s at; y0 = f64_at s (at + 8); x1 = f64_at s (at + 16); y1 = f64_at s (at + 24) }

abbrev pub affine_at : List ℕ → ℕ → Affine
affine_at s at =
    record {
      a = f64_at s at;
      b = f64_at s (at + 8);
      c = f64_at s (at + 16);
      d = f64_at s (at + 24);
      e = f64_at s (at + 32);
      f = f64_at s (at + 40);
    }

-- "Join: 0 bevel, 1 miter, 2 round. Cap: 0 butt, 1 square, 2 round." Other codes are refused before they are read.
unfoldable pub join_of : ℕ → Join
join_of code = pick (eqb code 0) Bevel (pick (eqb code 1) Miter Round)

unfoldable pub cap_of : ℕ → Cap
cap_of code = pick (eqb code 0) Butt (pick (eqb code 1) Square RoundCap)

-- "width, join u8, miter limit, start cap u8, end cap u8, dash"
abbrev pub stroke_at : List ℕ → ℕ → Stroke
stroke_at s at =
    record {
      width = f64_at s at;
      join = join_of (get_or s (at + Layout.style_join) 0);
      miter_limit = f64_at s (at + Layout.style_miter_limit);
      start_cap = cap_of (get_or s (at + Layout.style_start_cap) 0);
      end_cap = cap_of (get_or s (at + Layout.style_end_cap) 0);
      dash = u64_at s (at + Layout.style_dash);
    }

-- ---- commands, from their first byte
-- FILL: "path, box, affine, brush"
abbrev pub fill_at : List ℕ → ℕ → DrawCommand
fill_at s at =
    FillPath (u64_at s (at + Layout.fill_path)) (rect_at s (at + Layout.fill_box)) (affine_at s (at + Layout.fill_affine))
    (u64_at s (at + Layout.fill_brush))

-- STROKE: "as FILL, width, join u8, miter limit, start cap u8, end cap u8, dash"
abbrev pub stroke_path_at : List ℕ → ℕ → DrawCommand
stroke_path_at s at =
    StrokePath (u64_at s (at + Layout.fill_path)) (rect_at s (at + Layout.fill_box)) (affine_at s (at + Layout.fill_affine))
    (stroke_at s (at + Layout.stroke_style)) (u64_at s (at + Layout.fill_brush))

-- RUN: "font, size f32, affine, brush, box, glyph count u16"
abbrev pub run_at : List ℕ → ℕ → DrawCommand
run_at s at =
    GlyphRun (u64_at s (at + Layout.run_font)) (f32_at s (at + Layout.run_size)) (affine_at s (at + Layout.run_affine)) (u64_at s (at + Layout.run_brush))
    (rect_at s (at + Layout.run_box)) (u16_at s (at + Layout.run_count))

-- SCENE: "content, generation u64, target, affine, box"
abbrev pub scene_at : List ℕ → ℕ → DrawCommand
scene_at s at =
    Scene (u64_at s (at + Layout.scene_content)) (u64_at s (at + Layout.scene_generation)) (u64_at s (at + Layout.scene_target))
    (affine_at s (at + Layout.scene_affine)) (rect_at s (at + Layout.scene_box))

-- a command without content, for offsets at which no drawing command stands whole
abbrev pub blank : DrawCommand
blank =
    let z = of_bits binary64 0 in
    Scene 0 0 0 (record { a = z; b = z; c = z; d = z; e = z; f = z }) (record { x0 = z; y0 = z; x1 = z; y1 = z })

-- the drawing command at an offset
unfoldable pub command_at : List ℕ → ℕ → DrawCommand
command_at s at =
    pick (leb (at + length_of (get_or s at 0)) (length s))
    (pick (eqb (get_or s at 0) Layout.fill_code)
    (fill_at s at)
    (pick (eqb (get_or s at 0) Layout.stroke_code)
    (stroke_path_at s at)
    (pick (eqb (get_or s at 0) Layout.run_code) (run_at s at) (pick (eqb (get_or s at 0) Layout.scene_code) (scene_at s at) blank))))
    blank

-- GLYPH: "id u32, x f32, y f32, box"; the n glyphs from an offset on
abbrev pub glyph_at : List ℕ → ℕ → Glyph
glyph_at s at =
    record {
      id = u32_at s (at + Layout.glyph_id);
      x = f32_at s (at + Layout.glyph_x);
      y = f32_at s (at + Layout.glyph_y);
      bounds = rect_at s (at + Layout.glyph_box);
    }

unfoldable pub glyphs_from : List ℕ → ℕ → ℕ → List Glyph
glyphs_from s at zero = []
glyphs_from s at (suc n) = glyph_at s at ∷ glyphs_from s (at + Layout.glyph_length) n
