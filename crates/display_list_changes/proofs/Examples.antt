-- Worked changes, each by computing its definition. Assumes nothing.
use mathlib.Core.Path.{◌≡◌, refl}
use mathlib.Core.List.{List, [], ◌∷◌}
use Prim.Native.Nat.{ℕ, ◌+◌}
use lib.Ieee.{Float, binary32, eq, lt, add, mul, of_int, of_bits, to_bits}
use Rattle.base_floats.specs.Order.{larger, smaller}
use Rattle.base_floats.specs.Whole.{whole}
use Rattle.kurbo_geometry.specs.declared.Rect.{Rect}
use Rattle.kurbo_geometry.specs.Boxes.{positive_area, same_edges}
use Rattle.kurbo_affine.specs.declared.Affine.{Affine}
use Rattle.kurbo_affine.specs.Affines.{bounding_box, transform_rect_bbox}
use Rattle.display_list_commands.specs.declared.Glyph.{Glyph}
use Rattle.display_list_commands.specs.declared.DrawCommand.TheVariants.{FillPath, GlyphRun}
use Rattle.display_list_commands.specs.Bounds.{Command, united_from, clip_from, bounds, glyph_bounds}
use Rattle.display_list_operand_equality.specs.Operands.{same_path, same_affine, same_bits, same_glyph, equal_glyph, equal_glyphs, same_clips}
use Rattle.display_list_equality.specs.Drawings.{same_fill, same_run, same_drawing, fills_alike, run_alike, runs_alike, equal, runs_alike_clipped}
use Rattle.display_list_differences.specs.Differences.{with_area, rect_difference, rect_symmetric_difference}
use Rattle.display_list_changes.specs.Changes.{changed_at, changed_glyphs, change, changed_bounds}

abbrev pub box : ℕ → ℕ → ℕ → ℕ → Rect
box a b c d = record { x0 = whole a; y0 = whole b; x1 = whole c; y1 = whole d }

abbrev pub identity : Affine
identity = record { a = whole 1; b = whole 0; c = whole 0; d = whole 1; e = whole 0; f = whole 0 }

-- a run of a size, an own box, and glyphs
abbrev pub run : Float → Rect → ℕ → List Glyph → Command
run size b n gs = record { draw = GlyphRun 1 size identity 1 b n; glyphs = gs; clips = [] }

-- a glyph at column x, one wide
abbrev pub glyph : ℕ → ℕ → Glyph
glyph id x = record { id = id; x = whole x; y = whole 0; bounds = box x 0 (x + 1) 1 }

-- a square filled under clips
abbrev pub filled : List Rect → Command
filled cs = record { draw = FillPath 1 (box 0 0 10 10) identity 1; glyphs = []; clips = cs }

-- "FILL box 0 0 10 10 to 0 0 6 10 by clip: only 6 0 10 10."
pub cropped_fill : changed_bounds (filled []) (filled (box 0 0 6 10 ∷ [])) ≡ box 6 0 10 10 ∷ []
unfolding change changed_bounds equal same_drawing same_fill same_path fills_alike same_affine equal_glyphs same_clips same_edges rect_symmetric_difference rect_difference with_area positive_area bounds clip_from transform_rect_bbox bounding_box larger smaller lt add mul eq of_int of_bits
cropped_fill = refl

-- "Empty RUNs alike but for their own box: nothing."
empty_runs : changed_bounds (run (whole 1) (box 0 0 4 4) 0 []) (run (whole 1) (box 6 0 9 4) 0 []) ≡ []
unfolding change changed_bounds changed_glyphs equal same_drawing same_run fills_alike runs_alike_clipped runs_alike run_alike same_affine same_bits equal_glyphs same_clips same_edges eq to_bits of_int of_bits
empty_runs = refl

-- one glyph of two moves: the union of where it was and where it is
moved_glyph : changed_bounds (run (whole 1) (box 0 0 9 1) 2 (glyph 5 0 ∷ glyph 6 2 ∷ [])) (run (whole 1) (box 0 0 9 1) 2 (glyph 5 0 ∷ glyph 6 4 ∷ [])) ≡ box 2 0 5 1 ∷ []
unfolding change changed_bounds changed_at changed_glyphs equal same_drawing same_run fills_alike runs_alike_clipped runs_alike run_alike same_affine same_bits same_glyph equal_glyph equal_glyphs same_clips same_edges bounds glyph_bounds united_from transform_rect_bbox bounding_box larger smaller lt add mul eq to_bits of_int of_bits
moved_glyph = refl

-- sizes 0 and -0 are equal by value and differ in their bits: once a glyph moves, the runs are not alike, and the command boxes are united
pub signed_size : changed_bounds (run (of_bits binary32 0) (box 0 0 9 1) 2 (glyph 5 0 ∷ glyph 6 2 ∷ [])) (run (of_bits binary32 2147483648) (box 0 0 9 1) 2 (glyph 5 0 ∷ glyph 6 4 ∷ [])) ≡ box 0 0 5 1 ∷ []
unfolding change changed_bounds changed_at changed_glyphs equal same_drawing same_run fills_alike runs_alike_clipped runs_alike run_alike same_affine same_bits same_glyph equal_glyph equal_glyphs same_clips same_edges bounds glyph_bounds united_from transform_rect_bbox bounding_box larger smaller lt add mul eq to_bits of_int of_bits
signed_size = refl

signed_size_unmoved : changed_bounds (run (of_bits binary32 0) (box 0 0 9 1) 1 (glyph 5 0 ∷ [])) (run (of_bits binary32 2147483648) (box 0 0 9 1) 1 (glyph 5 0 ∷ [])) ≡ []
unfolding change changed_bounds changed_at changed_glyphs equal same_drawing same_run fills_alike runs_alike_clipped runs_alike run_alike same_affine same_bits same_glyph equal_glyph equal_glyphs same_clips same_edges bounds glyph_bounds united_from transform_rect_bbox bounding_box larger smaller lt add mul eq to_bits of_int of_bits
signed_size_unmoved = refl
