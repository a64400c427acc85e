-- A transformed box whose corners are finite: it is the least box over them, and its edges are finite. Assumes nothing.
use mathlib.Core.Path.{◌≡◌, sym, subst}
use mathlib.Core.Bool.{Bool, true, false, ◌&&◌}
use Prim.Native.Nat.{ℕ}
use native.Mathlib.Omega.{arith}
use lib.Dec.{T}
use lib.Ieee.{Float}
use lib.Ieee.Fits.{and_l, and_r}
use lib.Ieee.Scale.{finite}
use Rattle.base_lists.specs.Pick.{pick}
use Rattle.base_floats.proofs.Orders.{larger_either, smaller_either}
use Rattle.kurbo_geometry.specs.declared.Rect.{Rect}
use Rattle.kurbo_affine.specs.declared.Affine.{Affine}
use Rattle.kurbo_affine.specs.declared.Point.{Point}
use Rattle.kurbo_affine.specs.Affines.{bounding_box, transform_rect_bbox, finite_point, all_finite, bound_finite, try_transform}
use Rattle.kurbo_geometry.proofs.Edges.{Edges}
use Rattle.std.specs.Prelude.{Some, None}

-- an edge of the least box over four points is a coordinate of one of them
module _ (P : Float → Type 0) (p q r s : Point) (px : P p.x) (py : P p.y) (qx : P q.x) (qy : P q.y) (rx : P r.x) (ry : P r.y) (sx : P s.x) (sy : P s.y) where
  pub bound_edges : Edges P (bounding_box p q r s)
  unfolding bounding_box
  bound_edges = record {
    x0 = smaller_either P _ _ (smaller_either P _ _ (smaller_either P _ _ px qx) rx) sx;
    y0 = smaller_either P _ _ (smaller_either P _ _ (smaller_either P _ _ py qy) ry) sy;
    x1 = larger_either P _ _ (larger_either P _ _ (larger_either P _ _ px qx) rx) sx;
    y1 = larger_either P _ _ (larger_either P _ _ (larger_either P _ _ py qy) ry) sy;
  }

finite_both : (p : Point) → T (finite_point p) → T (finite p.x) × T (finite p.y)
unfolding finite_point
finite_both p t = (and_l (finite p.x) (finite p.y) t, and_r (finite p.x) (finite p.y) t)

picked_finite : (b : Bool) (x r : Rect) → pick b (Some x) None ≡ Some r → T b × (r ≡ x)
picked_finite true x r e = (tt, let k : r ≡ x = cc in k)
picked_finite false x r e = let z : ◌≡◌ {A = ℕ} 0 1 = cc in absurd (omega arith)

module _ (p q r s : Point) (b : Rect) (e : bound_finite p q r s ≡ Some b) where
  pub bound_is : b ≡ bounding_box p q r s
  unfolding bound_finite all_finite
  bound_is = (picked_finite (finite_point p && finite_point q && finite_point r && finite_point s) (bounding_box p q r s) b e).1

  pub bound_finite_lem : Edges (λ x. T (finite x)) b
  unfolding bound_finite all_finite
  bound_finite_lem =
      let A = finite_point p in
      let B = finite_point q in
      let C = finite_point r in
      let D = finite_point s in
      let t = (picked_finite (A && B && C && D) (bounding_box p q r s) b e).0 in
      let fp = finite_both p (and_l A B (and_l (A && B) C (and_l (A && B && C) D t))) in
      let fq = finite_both q (and_r A B (and_l (A && B) C (and_l (A && B && C) D t))) in
      let fr = finite_both r (and_r (A && B) C (and_l (A && B && C) D t)) in
      let fs = finite_both s (and_r (A && B && C) D t) in
      subst (Edges (λ x. T (finite x))) (sym bound_is) (bound_edges (λ x. T (finite x)) p q r s fp.0 fp.1 fq.0 fq.1 fr.0 fr.1 fs.0 fs.1)

-- where the answer is a box, it is the transformed box, and all its edges are finite
module _ (t : Affine) (a b : Rect) (e : try_transform t a ≡ Some b) where
  pub try_is : b ≡ transform_rect_bbox t a
  unfolding try_transform transform_rect_bbox
  try_is = bound_is _ _ _ _ b e

  pub try_finite : Edges (λ x. T (finite x)) b
  unfolding try_transform
  try_finite = bound_finite_lem _ _ _ _ b e
