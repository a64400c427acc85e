-- Pixels that a box meets, by ranks; D1: a union meets what one of its boxes touches. Assumes nothing.
use Rattle.std.proofs.Common.{◌≡◌, ℕ, ◌+◌, ◌*◌, ◌^◌, ◌<◌, min, max, false, T, ap, ◌∙◌, add-mul, one-mul, arith}
use lib.Ieee.{Float, lt}
use lib.Ieee.Fits.{and_l, and_r, and_i}
use Rattle.base_ieee.proofs.Rank.{unit, unit_pos, rank, ordered, lt_ranks, ranks_lt, rank_whole, whole_ordered}
use Rattle.base_floats.specs.Whole.{whole}
use Rattle.base_floats.proofs.Orders.{larger_rank, smaller_rank}
use Rattle.kurbo_geometry.specs.declared.Rect.{Rect}
use Rattle.kurbo_geometry.specs.Boxes.{union, positive_area}
use Rattle.kurbo_geometry.specs.Pixels.{spans, meets, touches}
use Rattle.kurbo_geometry.proofs.Edges.{Ordered, union_edges}
use Rattle.std.proofs.lemmas.Bool.{and_from}
use Rattle.base_lists.proofs.Bools.{holds, is_false, is_true, not_both}

-- one whole number up is a higher rank
pub whole_step : (n : ℕ) → n < 2 ^ 53 → rank (whole n) < rank (whole (n + 1))
whole_step n l =
    let e : (n + 1) * unit ≡ n * unit + unit = add-mul n 1 unit ∙ ap (λ (t : ℕ). n * unit + t) (one-mul unit) in
    omega (arith, unit_pos, rank_whole n (omega arith), rank_whole (n + 1) (omega arith))

-- ---- along one axis
module _ (low high : Float) (s : T (ordered low)) (t : T (ordered high)) (n : ℕ) (l : n < 2 ^ 53) where
  pub spans_ranks : T (spans low high n) → (rank low < rank (whole (n + 1))) × (rank (whole n) < rank high)
  unfolding spans
  spans_ranks h =
      let a = lt low (whole (n + 1)) in
      let b = lt (whole n) high in
      (lt_ranks low (whole (n + 1)) s (whole_ordered (n + 1) (omega arith)) (is_true a (and_l a b h)), lt_ranks (whole n) high (whole_ordered n (omega arith)) t (is_true b (and_r a b h)))

  pub ranks_spans : rank low < rank (whole (n + 1)) → rank (whole n) < rank high → T (spans low high n)
  unfolding spans
  ranks_spans h k = holds _ (and_from _ _ (ranks_lt low (whole (n + 1)) s (whole_ordered (n + 1) (omega arith)) h) (ranks_lt (whole n) high (whole_ordered n (omega arith)) t k))

-- ---- in the plane: low edges before the far sides of the pixel, high edges past the near ones
pub record Overlaps (b : Rect) (p q : ℕ) : Type 0 where
  pub left : rank b.x0 < rank (whole (p + 1))
  pub right : rank (whole p) < rank b.x1
  pub top : rank b.y0 < rank (whole (q + 1))
  pub bottom : rank (whole q) < rank b.y1

module _ (b : Rect) (o : Ordered b) (p q : ℕ) (pl : p < 2 ^ 53) (ql : q < 2 ^ 53) where
  pub meets_ranks : T (meets b p q) → Overlaps b p q
  unfolding meets
  meets_ranks t =
      let x = spans_ranks b.x0 b.x1 o.x0 o.x1 p pl (and_l (spans b.x0 b.x1 p) (spans b.y0 b.y1 q) t) in
      let y = spans_ranks b.y0 b.y1 o.y0 o.y1 q ql (and_r (spans b.x0 b.x1 p) (spans b.y0 b.y1 q) t) in
      record { left = x.0; right = x.1; top = y.0; bottom = y.1 }

  pub ranks_meets : Overlaps b p q → T (meets b p q)
  unfolding meets
  ranks_meets m = and_i (spans b.x0 b.x1 p) (spans b.y0 b.y1 q) (ranks_spans b.x0 b.x1 o.x0 o.x1 p pl m.left m.right) (ranks_spans b.y0 b.y1 o.y0 o.y1 q ql m.top m.bottom)

-- ---- touched: of positive area, and met
module _ (b : Rect) (p q : ℕ) where
  pub touches_area : T (touches b p q) → T (positive_area b)
  unfolding touches
  touches_area t = and_l (positive_area b) (meets b p q) t

  pub touches_meets : T (touches b p q) → T (meets b p q)
  unfolding touches
  touches_meets t = and_r (positive_area b) (meets b p q) t

  pub area_meets : T (positive_area b) → T (meets b p q) → T (touches b p q)
  unfolding touches
  area_meets s t = and_i (positive_area b) (meets b p q) s t

  -- a pixel that a box does not meet is not touched by it
  pub unmet_untouched : meets b p q ≡ false → touches b p q ≡ false
  unmet_untouched e = is_false (touches b p q) (λ t. not_both (meets b p q) e (touches_meets t))

-- ---- D1
module _ (a b : Rect) (f : Ordered a) (g : Ordered b) (p q : ℕ) (pl : p < 2 ^ 53) (ql : q < 2 ^ 53) where
  abbrev u : Rect
  u = union a b

  -- the edges of the union lie outside those of both boxes
  record Outside : Type 0 where
    x0 : rank u.x0 ≡ min (rank a.x0) (rank b.x0)
    y0 : rank u.y0 ≡ min (rank a.y0) (rank b.y0)
    x1 : rank u.x1 ≡ max (rank a.x1) (rank b.x1)
    y1 : rank u.y1 ≡ max (rank a.y1) (rank b.y1)

  outside : Outside
  outside = record {
    x0 = smaller_rank a.x0 b.x0 f.x0 g.x0;
    y0 = smaller_rank a.y0 b.y0 f.y0 g.y0;
    x1 = larger_rank a.x1 b.x1 f.x1 g.x1;
    y1 = larger_rank a.y1 b.y1 f.y1 g.y1;
  }

  covers : (c : Rect) → (Overlaps c p q → Overlaps u p q) → Ordered c → meets u p q ≡ false → touches c p q ≡ false
  covers c h o e = is_false (touches c p q) (λ t. not_both (meets u p q) e (ranks_meets u (union_edges (λ x. T (ordered x)) a b f g) p q pl ql (h (meets_ranks c o p q pl ql (touches_meets c p q t)))))

  pub unmet_left : meets (union a b) p q ≡ false → touches a p q ≡ false
  unmet_left e = covers a (λ m. let w = outside in omega arith) f e

  pub unmet_right : meets (union a b) p q ≡ false → touches b p q ≡ false
  unmet_right e = covers b (λ m. let w = outside in omega arith) g e
