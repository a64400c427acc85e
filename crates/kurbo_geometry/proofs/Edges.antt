-- Boxes by the ranks of their edges: whatever is said of edges becomes arithmetic. Assumes nothing.
use Rattle.std.proofs.Common.{◌≡◌, ◌<◌, min, max, T, ◌∙◌}
use lib.Ieee.{Float, lt}
use lib.Ieee.Fits.{and_l, and_r}
use Rattle.base_ieee.proofs.Rank.{rank, ordered, lt_ranks, ranks_lt}
use Rattle.base_floats.specs.Order.{larger, smaller}
use Rattle.base_floats.proofs.Orders.{larger_either, smaller_either, larger_rank, smaller_rank, larger_ordered, smaller_ordered}
use Rattle.kurbo_geometry.specs.declared.Rect.{Rect}
use Rattle.kurbo_geometry.specs.Boxes.{intersect, union, positive_area}
use Rattle.std.proofs.lemmas.Bool.{and_from}
use Rattle.base_lists.proofs.Bools.{holds, is_true}

-- a property of each edge
pub record Edges (P : Float → Type 0) (b : Rect) : Type 0 where
  pub x0 : P b.x0
  pub y0 : P b.y0
  pub x1 : P b.x1
  pub y1 : P b.y1

-- what follows of each edge
pub edges_map : (P Q : Float → Type 0) → ((x : Float) → P x → Q x) → (b : Rect) → Edges P b → Edges Q b
edges_map P Q f b e = record { x0 = f b.x0 e.x0; y0 = f b.y0 e.y0; x1 = f b.x1 e.x1; y1 = f b.y1 e.y1 }

-- the edges fit binary64 and none is a NaN
abbrev pub Ordered : Rect → Type 0
Ordered = Edges (λ x. T (ordered x))

-- union and intersection make no new edge: what holds of every edge still does, finiteness among others
module _ (P : Float → Type 0) (a b : Rect) (p : Edges P a) (q : Edges P b) where
  pub union_edges : Edges P (union a b)
  union_edges = record {
    x0 = smaller_either P a.x0 b.x0 p.x0 q.x0;
    y0 = smaller_either P a.y0 b.y0 p.y0 q.y0;
    x1 = larger_either P a.x1 b.x1 p.x1 q.x1;
    y1 = larger_either P a.y1 b.y1 p.y1 q.y1;
  }

  pub intersect_edges : Edges P (intersect a b)
  intersect_edges =
      let x = larger_either P a.x0 b.x0 p.x0 q.x0 in
      let y = larger_either P a.y0 b.y0 p.y0 q.y0 in
      record {
        x0 = x;
        y0 = y;
        x1 = larger_either P (smaller a.x1 b.x1) (larger a.x0 b.x0) (smaller_either P a.x1 b.x1 p.x1 q.x1) x;
        y1 = larger_either P (smaller a.y1 b.y1) (larger a.y0 b.y0) (smaller_either P a.y1 b.y1 p.y1 q.y1) y;
      }

-- ---- positive area, by ranks
module _ (b : Rect) (o : Ordered b) where
  pub area_ranks : T (positive_area b) → (rank b.x0 < rank b.x1) × (rank b.y0 < rank b.y1)
  unfolding positive_area
  area_ranks t =
      let s = lt b.x0 b.x1 in
      let u = lt b.y0 b.y1 in
      (lt_ranks b.x0 b.x1 o.x0 o.x1 (is_true s (and_l s u t)), lt_ranks b.y0 b.y1 o.y0 o.y1 (is_true u (and_r s u t)))

  pub ranks_area : rank b.x0 < rank b.x1 → rank b.y0 < rank b.y1 → T (positive_area b)
  unfolding positive_area
  ranks_area h k = holds _ (and_from _ _ (ranks_lt b.x0 b.x1 o.x0 o.x1 h) (ranks_lt b.y0 b.y1 o.y0 o.y1 k))

-- ---- an intersection along one axis: low edges a, b and high edges c, d
abbrev pub low_of : Float → Float → Float
low_of a b = larger a b

abbrev pub high_of : Float → Float → Float → Float → Float
high_of a b c d = larger (smaller c d) (larger a b)

module _ (a b c d : Float) (p : T (ordered a)) (q : T (ordered b)) (r : T (ordered c)) (s : T (ordered d)) where
  pub low_ordered : T (ordered (low_of a b))
  low_ordered = larger_ordered a b p q

  cut_ordered : T (ordered (smaller c d))
  cut_ordered = smaller_ordered c d r s

  pub high_ordered : T (ordered (high_of a b c d))
  high_ordered = larger_ordered (smaller c d) (larger a b) cut_ordered low_ordered

  pub low_rank : rank (low_of a b) ≡ max (rank a) (rank b)
  low_rank = larger_rank a b p q

  pub high_rank : rank (high_of a b c d) ≡ max (min (rank c) (rank d)) (max (rank a) (rank b))
  high_rank = larger_rank (smaller c d) (larger a b) cut_ordered low_ordered ∙ (λ i. max (smaller_rank c d r s i) (low_rank i))
