-- Affines and transformed boxes, as document 01 gives kurbo's.
use Rattle.std.specs.Prelude.{Bool, ◌&&◌, List, [], ◌∷◌, get_or, Float, Option, Some, None}
use Rattle.std.specs.Float.{nan, binary64}
use Rattle.std.specs.Float.Ieee.{add, mul}
use Rattle.std.specs.Float.Ieee.Scale.{finite}
use Rattle.base_lists.specs.Pick.{pick}
use Rattle.base_floats.specs.Order.{larger, smaller}
use Rattle.kurbo_geometry.specs.declared.Rect.{Rect}
use Rattle.kurbo_affine.specs.declared.Affine.{Affine}
use Rattle.kurbo_affine.specs.declared.Point.{Point}

infixl 60 ◌⊕◌
infixl 70 ◌⊗◌
-- the sum and the product of two f64, each rounded once
abbrev pub ◌⊕◌ : Float → Float → Float
x ⊕ y = add binary64 x y

abbrev pub ◌⊗◌ : Float → Float → Float
x ⊗ y = mul binary64 x y

-- "An affine is a, b, c, d, e, f.": the affine of six numbers. No code reads past the sixth.
abbrev pub of_entries : List Float → Affine
of_entries ts = record { a = get_or ts 0 nan; b = get_or ts 1 nan; c = get_or ts 2 nan; d = get_or ts 3 nan; e = get_or ts 4 nan; f = get_or ts 5 nan }

-- "The affine sends (x, y) to (a times x + c times y + e, b times x + d times y + f), each operation rounded once, left to right."
abbrev pub transform_point : Affine → Float → Float → Point
transform_point t x y = record { x = t.a ⊗ x ⊕ t.c ⊗ y ⊕ t.e; y = t.b ⊗ x ⊕ t.d ⊗ y ⊕ t.f }

-- the corners of a box, transformed
abbrev pub corners : Affine → Rect → List Point
corners t b = transform_point t b.x0 b.y0 ∷ transform_point t b.x1 b.y0 ∷ transform_point t b.x0 b.y1 ∷ transform_point t b.x1 b.y1 ∷ []

-- a function of four points, of the first four of a list; no code has fewer
abbrev pub of_points : {A : Type 0} → (Point → Point → Point → Point → A) → List Point → A
of_points f ps =
    let nowhere : Point = record { x = nan; y = nan } in
    f (get_or ps 0 nowhere) (get_or ps 1 nowhere) (get_or ps 2 nowhere) (get_or ps 3 nowhere)

-- a function of four numbers, of the first four of a list; no code has fewer
abbrev pub of_numbers : (Float → Float → Float → Float → Float) → List Float → Float
of_numbers f xs = f (get_or xs 0 nan) (get_or xs 1 nan) (get_or xs 2 nan) (get_or xs 3 nan)

-- the least of four numbers, and the greatest
abbrev pub least : Float → Float → Float → Float → Float
least p q r s = smaller (smaller (smaller p q) r) s

abbrev pub greatest : Float → Float → Float → Float → Float
greatest p q r s = larger (larger (larger p q) r) s

-- the least box over four points
unfoldable pub bounding_box : Point → Point → Point → Point → Rect
bounding_box p q r s = record { x0 = least p.x q.x r.x s.x; y0 = least p.y q.y r.y s.y; x1 = greatest p.x q.x r.x s.x; y1 = greatest p.y q.y r.y s.y }

-- "A transformed box is the least box over its four corners."
unfoldable pub transform_rect_bbox : Affine → Rect → Rect
transform_rect_bbox t b = bounding_box (transform_point t b.x0 b.y0) (transform_point t b.x1 b.y0) (transform_point t b.x0 b.y1) (transform_point t b.x1 b.y1)

-- number 9's case: "a box's inflated edge or transformed corner is not finite". An edge that is not finite makes a corner so.
unfoldable pub finite_point : Point → Bool
finite_point p = finite p.x && finite p.y

unfoldable pub all_finite : Point → Point → Point → Point → Bool
all_finite p q r s = finite_point p && finite_point q && finite_point r && finite_point s

unfoldable pub bound_finite : Point → Point → Point → Point → Option Rect
bound_finite p q r s = pick (all_finite p q r s) (Some (bounding_box p q r s)) None

unfoldable pub try_transform : Affine → Rect → Option Rect
try_transform t b = bound_finite (transform_point t b.x0 b.y0) (transform_point t b.x1 b.y0) (transform_point t b.x0 b.y1) (transform_point t b.x1 b.y1)

-- the same test by itself
unfoldable pub finite_corners : Affine → Rect → Bool
finite_corners t b = all_finite (transform_point t b.x0 b.y0) (transform_point t b.x1 b.y0) (transform_point t b.x0 b.y1) (transform_point t b.x1 b.y1)
