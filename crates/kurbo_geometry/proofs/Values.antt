-- Every operation on boxes is one of values: boxes that differ in the signs of zeros alone give boxes that do, and tests that agree. Assumes nothing.
use Rattle.std.proofs.Common.{◌≡◌, ℕ, ◌+◌, true, ◌&&◌, List, refl, inl}
use Rattle.base_lists.specs.Places.{ByPlace}
use lib.Ieee.{Float, eq}
use lib.Ieee.Fits.{and_l, and_r}
use Rattle.base_ieee.specs.Values.{Same}
use Rattle.base_ieee.proofs.Values.{same_value, add_same, sub_same, lt_same}
use Rattle.base_floats.specs.Order.{larger, smaller}
use Rattle.base_floats.specs.Whole.{whole}
use Rattle.base_floats.proofs.Orders.{larger_same, smaller_same}
use Rattle.kurbo_geometry.specs.declared.Rect.{Rect}
use Rattle.kurbo_geometry.specs.Boxes.{intersect, union, inflate, positive_area, same_edges}
use Rattle.kurbo_geometry.specs.Pixels.{spans, meets, touches}
use Rattle.kurbo_geometry.proofs.Edges.{Ordered}
use Rattle.base_lists.proofs.Bools.{holds}

pub record SameBox (a b : Rect) : Type 0 where
  pub x0 : Same a.x0 b.x0
  pub y0 : Same a.y0 b.y0
  pub x1 : Same a.x1 b.x1
  pub y1 : Same a.y1 b.y1

pub box_self : (b : Rect) → SameBox b b
box_self b = record { x0 = inl refl; y0 = inl refl; x1 = inl refl; y1 = inl refl }

-- lists of boxes, place by place
abbrev pub SameBoxes : List Rect → List Rect → Type 0
SameBoxes l m = ByPlace SameBox l m

-- ---- boxes with equal edges are such boxes, and the other way round
pub edges_same : (a b : Rect) → Ordered a → Ordered b → same_edges a b ≡ true → SameBox a b
unfolding same_edges
edges_same a b f g e =
    let t = holds _ e in
    let x0 = eq a.x0 b.x0 in
    let y0 = eq a.y0 b.y0 in
    let x1 = eq a.x1 b.x1 in
    let y1 = eq a.y1 b.y1 in
    record {
      x0 = same_value a.x0 b.x0 f.x0 g.x0 (and_l x0 y0 (and_l (x0 && y0) x1 (and_l (x0 && y0 && x1) y1 t)));
      y0 = same_value a.y0 b.y0 f.y0 g.y0 (and_r x0 y0 (and_l (x0 && y0) x1 (and_l (x0 && y0 && x1) y1 t)));
      x1 = same_value a.x1 b.x1 f.x1 g.x1 (and_r (x0 && y0) x1 (and_l (x0 && y0 && x1) y1 t));
      y1 = same_value a.y1 b.y1 f.y1 g.y1 (and_r (x0 && y0 && x1) y1 t);
    }

-- ---- operations
module _ (a a' b b' : Rect) (p : SameBox a a') (q : SameBox b b') where
  pub union_same : SameBox (union a b) (union a' b')
  union_same = record {
    x0 = smaller_same a.x0 a'.x0 b.x0 b'.x0 p.x0 q.x0;
    y0 = smaller_same a.y0 a'.y0 b.y0 b'.y0 p.y0 q.y0;
    x1 = larger_same a.x1 a'.x1 b.x1 b'.x1 p.x1 q.x1;
    y1 = larger_same a.y1 a'.y1 b.y1 b'.y1 p.y1 q.y1;
  }

  pub intersect_same : SameBox (intersect a b) (intersect a' b')
  intersect_same =
      let x = larger_same a.x0 a'.x0 b.x0 b'.x0 p.x0 q.x0 in
      let y = larger_same a.y0 a'.y0 b.y0 b'.y0 p.y0 q.y0 in
      record {
        x0 = x;
        y0 = y;
        x1 = larger_same (smaller a.x1 b.x1) (smaller a'.x1 b'.x1) (larger a.x0 b.x0) (larger a'.x0 b'.x0) (smaller_same a.x1 a'.x1 b.x1 b'.x1 p.x1 q.x1) x;
        y1 = larger_same (smaller a.y1 b.y1) (smaller a'.y1 b'.y1) (larger a.y0 b.y0) (larger a'.y0 b'.y0) (smaller_same a.y1 a'.y1 b.y1 b'.y1 p.y1 q.y1) y;
      }

pub inflate_same : (a b : Rect) (w w' h h' : Float) → SameBox a b → Same w w' → Same h h' → SameBox (inflate a w h) (inflate b w' h')
inflate_same a b w w' h h' p u v = record {
  x0 = sub_same a.x0 b.x0 w w' p.x0 u;
  y0 = sub_same a.y0 b.y0 h h' p.y0 v;
  x1 = add_same a.x1 b.x1 w w' p.x1 u;
  y1 = add_same a.y1 b.y1 h h' p.y1 v;
}

-- ---- tests
module _ (a b : Rect) (k : SameBox a b) where
  pub area_same : positive_area a ≡ positive_area b
  unfolding positive_area
  area_same = λ i. lt_same a.x0 b.x0 a.x1 b.x1 k.x0 k.x1 i && lt_same a.y0 b.y0 a.y1 b.y1 k.y0 k.y1 i

  spans_same : (l l' h h' : Float) (n : ℕ) → Same l l' → Same h h' → spans l h n ≡ spans l' h' n
  unfolding spans
  spans_same l l' h h' n p q = λ i. lt_same l l' (whole (n + 1)) (whole (n + 1)) p (inl refl) i && lt_same (whole n) (whole n) h h' (inl refl) q i

  pub meets_same : (p q : ℕ) → meets a p q ≡ meets b p q
  unfolding meets
  meets_same p q = λ i. spans_same a.x0 b.x0 a.x1 b.x1 p k.x0 k.x1 i && spans_same a.y0 b.y0 a.y1 b.y1 q k.y0 k.y1 i

  pub touches_same : (p q : ℕ) → touches a p q ≡ touches b p q
  unfolding touches
  touches_same p q = λ i. area_same i && meets_same p q i
