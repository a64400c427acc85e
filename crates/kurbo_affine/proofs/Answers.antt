-- What the tests in the code of this crate make of a definition. Assumes nothing.
use mathlib.Core.Path.{◌≡◌, refl, sym, ap, ◌∙◌}
use mathlib.Core.Bool.{Bool, true, false, ◌&&◌}
use lib.Ieee.{Float, binary64, add, sub, eq, of_bits}
use lib.Ieee.Scale.{finite}
use Rattle.base_ieee.proofs.Differences.{told, less_itself, told_both, told_zero}
use Rattle.base_lists.proofs.Picks.{pick_true, pick_false}
use Rattle.kurbo_geometry.specs.declared.Rect.{Rect}
use Rattle.kurbo_affine.specs.declared.Affine.{Affine}
use Rattle.kurbo_affine.specs.declared.Point.{Point}
use Rattle.kurbo_affine.specs.Affines.{◌⊕◌, finite_point, all_finite, bounding_box, bound_finite, finite_corners, transform_rect_bbox, try_transform}
use Rattle.std.specs.Prelude.{Some, None}

infixl 60 ◌⊖◌
-- the difference of two f64, rounded once
abbrev ◌⊖◌ : Float → Float → Float
x ⊖ y = sub binary64 x y

-- ---- one sum for the test of eight numbers
-- tests in twos, the other way about
and_cross : (a b c d : Bool) → (a && b && (c && d)) ≡ (a && c && (b && d))
and_cross true true c d = refl
and_cross true false true d = refl
and_cross true false false d = refl
and_cross false b c d = refl

add_told : {x y : Float} (a b : Bool) → x ≡ told a → y ≡ told b → add binary64 x y ≡ told (a && b)
add_told a b e f = (λ i. add binary64 (e i) (f i)) ∙ told_both a b

four_told : (a b c d : Float) → (a ⊖ a) ⊕ (b ⊖ b) ⊕ (c ⊖ c) ⊕ (d ⊖ d) ≡ told (finite a && finite b && finite c && finite d)
four_told a b c d =
    add_told (finite a && finite b && finite c) (finite d)
    (add_told (finite a && finite b) (finite c) (add_told (finite a) (finite b) (less_itself a) (less_itself b)) (less_itself c))
    (less_itself d)

module _ (p q r s : Point) where
  pub sum_tells : eq ((p.x ⊖ p.x) ⊕ (q.x ⊖ q.x) ⊕ (r.x ⊖ r.x) ⊕ (s.x ⊖ s.x) ⊕ ((p.y ⊖ p.y) ⊕ (q.y ⊖ q.y) ⊕ (r.y ⊖ r.y) ⊕ (s.y ⊖ s.y))) (of_bits binary64 0) ≡ all_finite p q r s
  unfolding all_finite finite_point
  sum_tells =
      ap (λ (z : Float). eq z (of_bits binary64 0)) (add_told (finite p.x && finite q.x && finite r.x && finite s.x) (finite p.y && finite q.y && finite r.y && finite s.y) (four_told p.x q.x r.x s.x) (four_told p.y q.y r.y s.y))
      ∙ told_zero (finite p.x && finite q.x && finite r.x && finite s.x && (finite p.y && finite q.y && finite r.y && finite s.y))
      ∙ and_cross (finite p.x && finite q.x && finite r.x) (finite s.x) (finite p.y && finite q.y && finite r.y) (finite s.y)
      ∙ ap (λ (b : Bool). b && (finite s.x && finite s.y))
      (and_cross (finite p.x && finite q.x) (finite r.x) (finite p.y && finite q.y) (finite r.y)
      ∙ ap (λ (b : Bool). b && (finite r.x && finite r.y)) (and_cross (finite p.x) (finite q.x) (finite p.y) (finite q.y)))

  pub bound_yes : all_finite p q r s ≡ true → Some (bounding_box p q r s) ≡ bound_finite p q r s
  unfolding bound_finite
  bound_yes e = sym (pick_true (all_finite p q r s) (Some (bounding_box p q r s)) None e)

  pub bound_no : all_finite p q r s ≡ false → None ≡ bound_finite p q r s
  unfolding bound_finite
  bound_no e = sym (pick_false (all_finite p q r s) (Some (bounding_box p q r s)) None e)

-- the test of the corners by itself says whether there is a box
module _ (t : Affine) (b : Rect) where
  pub corners_yes : finite_corners t b ≡ true → try_transform t b ≡ Some (transform_rect_bbox t b)
  unfolding finite_corners try_transform transform_rect_bbox
  corners_yes e = sym (bound_yes _ _ _ _ e)

  pub corners_no : finite_corners t b ≡ false → try_transform t b ≡ None
  unfolding finite_corners try_transform
  corners_no e = sym (bound_no _ _ _ _ e)
