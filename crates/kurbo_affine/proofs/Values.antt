-- A transform is one of values: affines and boxes that differ in the signs of zeros alone give boxes that do. Assumes nothing.
use lib.Ieee.{Float}
use Rattle.base_ieee.specs.Values.{Same}
use Rattle.base_ieee.proofs.Values.{add_same, mul_same}
use Rattle.base_floats.proofs.Orders.{larger_same, smaller_same}
use Rattle.kurbo_geometry.specs.declared.Rect.{Rect}
use Rattle.kurbo_geometry.proofs.Values.{SameBox}
use Rattle.kurbo_affine.specs.declared.Affine.{Affine}
use Rattle.kurbo_affine.specs.declared.Point.{Point}
use Rattle.kurbo_affine.specs.Affines.{◌⊕◌, ◌⊗◌, transform_point, bounding_box, transform_rect_bbox}

pub record SamePoint (p q : Point) : Type 0 where
  pub x : Same p.x q.x
  pub y : Same p.y q.y

pub record SameAffine (s t : Affine) : Type 0 where
  pub a : Same s.a t.a
  pub b : Same s.b t.b
  pub c : Same s.c t.c
  pub d : Same s.d t.d
  pub e : Same s.e t.e
  pub f : Same s.f t.f

-- a times x + b times y + c
line_same : (a a' b b' c c' x x' y y' : Float) → Same a a' → Same b b' → Same c c' → Same x x' → Same y y' → Same (a ⊗ x ⊕ b ⊗ y ⊕ c) (a' ⊗ x' ⊕ b' ⊗ y' ⊕ c')
line_same a a' b b' c c' x x' y y' p q r s t =
    add_same (a ⊗ x ⊕ b ⊗ y) (a' ⊗ x' ⊕ b' ⊗ y') c c' (add_same (a ⊗ x) (a' ⊗ x') (b ⊗ y) (b' ⊗ y') (mul_same a a' x x' p s) (mul_same b b' y y' q t)) r

pub point_same : (s t : Affine) (x x' y y' : Float) → SameAffine s t → Same x x' → Same y y' → SamePoint (transform_point s x y) (transform_point t x' y')
point_same s t x x' y y' m p q = record {
  x = line_same s.a t.a s.c t.c s.e t.e x x' y y' m.a m.c m.e p q;
  y = line_same s.b t.b s.d t.d s.f t.f x x' y y' m.b m.d m.f p q;
}

bound_same : (p q r s p' q' r' s' : Point) → SamePoint p p' → SamePoint q q' → SamePoint r r' → SamePoint s s' → SameBox (bounding_box p q r s) (bounding_box p' q' r' s')
unfolding bounding_box
bound_same p q r s p' q' r' s' a b c d = record {
  x0 = smaller_same _ _ _ _ (smaller_same _ _ _ _ (smaller_same _ _ _ _ a.x b.x) c.x) d.x;
  y0 = smaller_same _ _ _ _ (smaller_same _ _ _ _ (smaller_same _ _ _ _ a.y b.y) c.y) d.y;
  x1 = larger_same _ _ _ _ (larger_same _ _ _ _ (larger_same _ _ _ _ a.x b.x) c.x) d.x;
  y1 = larger_same _ _ _ _ (larger_same _ _ _ _ (larger_same _ _ _ _ a.y b.y) c.y) d.y;
}

pub transform_same : (s t : Affine) (a b : Rect) → SameAffine s t → SameBox a b → SameBox (transform_rect_bbox s a) (transform_rect_bbox t b)
unfolding transform_rect_bbox
transform_same s t a b m k = bound_same _ _ _ _ _ _ _ _ (point_same s t _ _ _ _ m k.x0 k.y0) (point_same s t _ _ _ _ m k.x1 k.y0) (point_same s t _ _ _ _ m k.x0 k.y1) (point_same s t _ _ _ _ m k.x1 k.y1)
