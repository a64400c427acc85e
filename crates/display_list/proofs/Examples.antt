-- Document 01's starred cases of commands and their boxes, each by computing its definition. Assumes nothing.
use mathlib.Core.Path.{◌≡◌, refl}
use mathlib.Core.List.{List, [], ◌∷◌}
use Prim.Native.Nat.{ℕ}
use lib.Ieee.{lt, add, sub, mul, div, of_int, of_bits}
use Rattle.base_floats.specs.Order.{larger, smaller}
use Rattle.base_floats.specs.Whole.{whole}
use Rattle.kurbo_geometry.specs.declared.Rect.{Rect}
use Rattle.kurbo_geometry.specs.Boxes.{positive_area}
use Rattle.kurbo_affine.specs.declared.Affine.{Affine}
use Rattle.kurbo_affine.specs.Affines.{bounding_box, transform_rect_bbox}
use Rattle.display_list_commands.specs.declared.Join.TheVariants as J
use Rattle.display_list_commands.specs.declared.Cap.TheVariants as C
use Rattle.display_list_commands.specs.declared.DrawCommand.TheVariants.{FillPath, StrokePath}
use Rattle.display_list_commands.specs.Strokes.{stroke_bounds_inflation}
use Rattle.display_list_commands.specs.Bounds.{Command, clip_from, bounds}
use Rattle.display_list_differences.specs.Differences.{with_area, rect_difference, rect_symmetric_difference}

abbrev box : ℕ → ℕ → ℕ → ℕ → Rect
box a b c d = record { x0 = whole a; y0 = whole b; x1 = whole c; y1 = whole d }

-- the affine that moves nothing
abbrev identity : Affine
identity = record { a = whole 1; b = whole 0; c = whole 0; d = whole 1; e = whole 0; f = whole 0 }

-- "Width 2, miter, limit 4, butt, box 10 10 20 20: 6 6 24 24."
abbrev pub stroked : Command
stroked = record {
  draw = StrokePath 1 (box 10 10 20 20) identity (record { width = whole 2; join = J.Miter; miter_limit = whole 4; start_cap = C.Butt; end_cap = C.Butt; dash = 0 }) 1;
  glyphs = [];
  clips = [];
}

pub stroke_box : bounds stroked ≡ box 6 6 24 24
unfolding bounds stroke_bounds_inflation transform_rect_bbox bounding_box larger smaller lt add sub mul div of_int of_bits
stroke_box = refl

-- "FILL box 0 0 10 10 to 0 0 6 10 by clip: only 6 0 10 10."
abbrev pub filled : List Rect → Command
filled cs = record { draw = FillPath 1 (box 0 0 10 10) identity 1; glyphs = []; clips = cs }

pub cropped : rect_symmetric_difference (bounds (filled [])) (bounds (filled (box 0 0 6 10 ∷ []))) ≡ box 6 0 10 10 ∷ []
unfolding bounds clip_from transform_rect_bbox bounding_box rect_symmetric_difference rect_difference with_area positive_area larger smaller lt add sub mul div of_int of_bits
cropped = refl
