-- An affine whose entries are below 2 ^ 500 takes no corner of such a box out of range. Assumes nothing.
use mathlib.Core.Path.{◌≡◌}
use mathlib.Core.Bool.{true}
use native.Mathlib.Omega.{arith}
use lib.Ieee.{Float}
use lib.Ieee.Scale.{finite}
use Rattle.base_ieee.proofs.Magnitudes.{Within, within_finite, within_more, mul_within, add_within}
use Rattle.kurbo_geometry.specs.declared.Rect.{Rect}
use Rattle.kurbo_geometry.proofs.Edges.{Edges}
use Rattle.kurbo_affine.specs.declared.Affine.{Affine}
use Rattle.kurbo_affine.specs.Affines.{◌⊕◌, ◌⊗◌, transform_point, finite_point, all_finite, finite_corners}

pub record NearAffine (t : Affine) : Type 0 where
  pub a : Within 500 t.a
  pub b : Within 500 t.b
  pub c : Within 500 t.c
  pub d : Within 500 t.d
  pub e : Within 500 t.e
  pub f : Within 500 t.f

-- a times x + b times y + c
line_finite : (a b c x y : Float) → Within 500 a → Within 500 b → Within 500 c → Within 500 x → Within 500 y → finite (a ⊗ x ⊕ b ⊗ y ⊕ c) ≡ true
line_finite a b c x y p q r v w =
    let u : Within 1005 (a ⊗ x ⊕ b ⊗ y) = add_within 1002 (a ⊗ x) (b ⊗ y) (mul_within 500 500 a x p v (omega arith)) (mul_within 500 500 b y q w (omega arith)) (omega arith) in
    within_finite 1008 (a ⊗ x ⊕ b ⊗ y ⊕ c) (add_within 1005 (a ⊗ x ⊕ b ⊗ y) c u (within_more 500 1005 c (omega arith) r) (omega arith))

module _ (t : Affine) (m : NearAffine t) where
  point_finite : (x y : Float) → Within 500 x → Within 500 y → finite_point (transform_point t x y) ≡ true
  unfolding finite_point
  point_finite x y v w = rw (line_finite t.a t.c t.e x y m.a m.c m.e v w, line_finite t.b t.d t.f x y m.b m.d m.f v w)

  pub near_corners : (b : Rect) → Edges (Within 500) b → finite_corners t b ≡ true
  unfolding finite_corners all_finite
  near_corners b w = rw (point_finite b.x0 b.y0 w.x0 w.y0, point_finite b.x1 b.y0 w.x1 w.y0, point_finite b.x0 b.y1 w.x0 w.y1, point_finite b.x1 b.y1 w.x1 w.y1)
