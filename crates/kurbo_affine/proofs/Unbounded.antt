-- The test of the four transformed corners decides number 9's case, edges included: an edge that is infinite or a NaN makes a corner so, whatever the affine. Assumes nothing.
use mathlib.Core.Path.{◌≡◌, refl}
use mathlib.Core.Bool.{Bool, true, false, ◌&&◌}
use mathlib.Core.Logic.{◌⊎◌, inl, inr}
use lib.Dec.{T}
use lib.Ieee.{Float, binary64}
use lib.Ieee.Scale.{finite}
use Rattle.base_lists.specs.Pick.{pick}
use Rattle.std.proofs.lemmas.Bool.{and_right, and_cases}
use Rattle.base_lists.proofs.Bools.{is_false, not_both, off_1, off_2, off_3, off_4}
use Rattle.base_ieee.proofs.Finite.{mul_finite, add_finite}
use Rattle.kurbo_geometry.specs.declared.Rect.{Rect}
use Rattle.kurbo_affine.specs.declared.Affine.{Affine}
use Rattle.kurbo_affine.specs.declared.Point.{Point}
use Rattle.kurbo_affine.specs.Affines.{◌⊕◌, ◌⊗◌, transform_point, finite_point, all_finite, bound_finite, finite_corners, try_transform}
use Rattle.kurbo_affine.specs.Unbounded.{Unbounded, UnboundedPoint, UnboundedEdge, UnboundedCorner, UnboundedBox}
use Rattle.kurbo_affine.proofs.Answers.{corners_no}
use Rattle.std.specs.Prelude.{Some, None}

-- ---- an edge makes a corner so
-- a times x + b times y + c is finite only where x and y are
line_operands : (a b c x y : Float) → T (finite (a ⊗ x ⊕ b ⊗ y ⊕ c)) → T (finite x) × T (finite y)
line_operands a b c x y t =
    let u = add_finite binary64 (a ⊗ x) (b ⊗ y) (add_finite binary64 (a ⊗ x ⊕ b ⊗ y) c t).0 in
    ((mul_finite binary64 a x u.0).1, (mul_finite binary64 b y u.1).1)

module _ (t : Affine) (x y : Float) where
  pub across_unbounded : Unbounded x → UnboundedPoint (transform_point t x y)
  across_unbounded e = inl (is_false _ (λ w. not_both (finite x) e (line_operands t.a t.c t.e x y w).0))

  pub along_unbounded : Unbounded y → UnboundedPoint (transform_point t x y)
  along_unbounded e = inl (is_false _ (λ w. not_both (finite y) e (line_operands t.a t.c t.e x y w).1))

pub edge_corner : (t : Affine) (b : Rect) → UnboundedEdge b → UnboundedCorner t b
edge_corner t b (inl e) = inl (across_unbounded t b.x0 b.y0 e)
edge_corner t b (inr (inl e)) = inl (along_unbounded t b.x0 b.y0 e)
edge_corner t b (inr (inr (inl e))) = inr (inl (across_unbounded t b.x1 b.y0 e))
edge_corner t b (inr (inr (inr e))) = inr (inr (inl (along_unbounded t b.x0 b.y1 e)))

-- ---- a point and four points, by their test
point_told : (p : Point) → UnboundedPoint p → finite_point p ≡ false
unfolding finite_point
point_told p (inl e) = rw e
point_told p (inr e) = and_right (finite p.x) (finite p.y) e

told_point : (p : Point) → finite_point p ≡ false → UnboundedPoint p
unfolding finite_point
told_point p e = and_cases (finite p.x) (finite p.y) e

module _ (p q r s : Point) where
  points_told : UnboundedPoint p ⊎ UnboundedPoint q ⊎ UnboundedPoint r ⊎ UnboundedPoint s → all_finite p q r s ≡ false
  unfolding all_finite
  points_told (inl u) = off_1 (finite_point p) (finite_point q) (finite_point r) (finite_point s) (point_told p u)
  points_told (inr (inl u)) = off_2 (finite_point p) (finite_point q) (finite_point r) (finite_point s) (point_told q u)
  points_told (inr (inr (inl u))) = off_3 (finite_point p) (finite_point q) (finite_point r) (finite_point s) (point_told r u)
  points_told (inr (inr (inr u))) = off_4 (finite_point p) (finite_point q) (finite_point r) (finite_point s) (point_told s u)

  told_points : all_finite p q r s ≡ false → UnboundedPoint p ⊎ UnboundedPoint q ⊎ UnboundedPoint r ⊎ UnboundedPoint s
  unfolding all_finite
  told_points e = last (and_cases (finite_point p && finite_point q && finite_point r) (finite_point s) e)
    where
      first : (finite_point p ≡ false) ⊎ (finite_point q ≡ false) → UnboundedPoint p ⊎ UnboundedPoint q ⊎ UnboundedPoint r ⊎ UnboundedPoint s
      first (inl u) = inl (told_point p u)
      first (inr u) = inr (inl (told_point q u))

      middle : ((finite_point p && finite_point q) ≡ false) ⊎ (finite_point r ≡ false) → UnboundedPoint p ⊎ UnboundedPoint q ⊎ UnboundedPoint r ⊎ UnboundedPoint s
      middle (inl u) = first (and_cases (finite_point p) (finite_point q) u)
      middle (inr u) = inr (inr (inl (told_point r u)))

      last : ((finite_point p && finite_point q && finite_point r) ≡ false) ⊎ (finite_point s ≡ false) → UnboundedPoint p ⊎ UnboundedPoint q ⊎ UnboundedPoint r ⊎ UnboundedPoint s
      last (inl u) = middle (and_cases (finite_point p && finite_point q) (finite_point r) u)
      last (inr u) = inr (inr (inr (told_point s u)))

-- ---- the case, both ways
picked_none : (b : Bool) (x : Rect) → pick b (Some x) None ≡ None → b ≡ false
picked_none true x e = let z : true ≡ false = cc in z
picked_none false x e = refl

module _ (t : Affine) (b : Rect) where
  pub no_box_unbounded : try_transform t b ≡ None → UnboundedBox t b
  unfolding try_transform bound_finite
  no_box_unbounded e = inr (told_points _ _ _ _ (picked_none _ _ e))

  pub unbounded_no_box : UnboundedBox t b → try_transform t b ≡ None
  unfolding finite_corners
  unbounded_no_box (inl u) = corners_no t b (points_told _ _ _ _ (edge_corner t b u))
  unbounded_no_box (inr u) = corners_no t b (points_told _ _ _ _ u)
