-- D2: two boxes, and a pixel that none of the parts meets which one leaves of the other. Then neither touches the pixel, or both cut its square
-- to the same part. Assumes nothing.
use Rattle.std.proofs.Common.{◌≡◌, ℕ, ◌+◌, ◌^◌, ◌<◌, ◌≤◌, min, max, Bool, true, false, ◌&&◌, T, ◌⊎◌, sym, refl, ap, ◌∙◌, inl, inr, ⊎_elim, arith}
use lib.Ieee.{Float, eq}
use lib.Ieee.Fits.{and_l, and_r}
use Rattle.base_lists.proofs.Picks.{le_or_lt}
use Rattle.base_ieee.proofs.Rank.{rank, ordered, eq_ranks, ranks_eq, whole_ordered}
use Rattle.base_floats.specs.Order.{larger, smaller}
use Rattle.base_floats.specs.Whole.{whole}
use Rattle.base_floats.proofs.Orders.{larger_rank, smaller_rank, larger_ordered, smaller_ordered}
use Rattle.kurbo_geometry.specs.declared.Rect.{Rect}
use Rattle.kurbo_geometry.specs.Boxes.{intersect, positive_area, same_edges}
use Rattle.kurbo_geometry.specs.Parts.{top_part, bottom_part, left_part, right_part}
use Rattle.kurbo_geometry.specs.Pixels.{meets, touches, part}
use Rattle.kurbo_geometry.proofs.Edges.{Ordered, intersect_edges, area_ranks, ranks_area, low_rank, high_rank}
use Rattle.kurbo_geometry.proofs.Meets.{Overlaps, whole_step, meets_ranks, ranks_meets, touches_area, touches_meets, area_meets}
use Rattle.base_lists.proofs.Bools.{four_on, holds, is_true, not_both, same_bool}

-- ---- one edge: a low edge a and that of the overlap o, cut at the near side P of the pixel
low_alike : (a o P : ℕ) → a ≤ o → (a < o → P < o → ⊥) → max a P ≡ max o P
low_alike a o P h f = ⊎_elim
    (λ (k : o ≤ P). omega arith)
    (λ (k : P < o). ⊎_elim (λ (l : o ≤ a). omega arith) (λ (l : a < o). absurd (f l k)) (le_or_lt o a))
    (le_or_lt o P)

high_alike : (a o P : ℕ) → o ≤ a → (o < a → o < P → ⊥) → min a P ≡ min o P
high_alike a o P h f = ⊎_elim
    (λ (k : P ≤ o). omega arith)
    (λ (k : o < P). ⊎_elim (λ (l : a ≤ o). omega arith) (λ (l : o < a). absurd (f l k)) (le_or_lt a o))
    (le_or_lt P o)

less_by : (a b : ℕ) → (b ≤ a → ⊥) → a < b
less_by a b f = omega arith

module _ (p q : ℕ) (pl : p < 2 ^ 53) (ql : q < 2 ^ 53) where
  -- ---- the edges of two boxes, cut at the sides of the pixel
  pub record CutAlike (a b : Rect) : Type 0 where
    pub left : max (rank a.x0) (rank (whole p)) ≡ max (rank b.x0) (rank (whole p))
    pub right : min (rank a.x1) (rank (whole (p + 1))) ≡ min (rank b.x1) (rank (whole (p + 1)))
    pub top : max (rank a.y0) (rank (whole q)) ≡ max (rank b.y0) (rank (whole q))
    pub bottom : min (rank a.y1) (rank (whole (q + 1))) ≡ min (rank b.y1) (rank (whole (q + 1)))

  cut_sym : (a b : Rect) → CutAlike a b → CutAlike b a
  cut_sym a b c = record { left = sym c.left; right = sym c.right; top = sym c.top; bottom = sym c.bottom }

  cut_trans : (a b d : Rect) → CutAlike a b → CutAlike b d → CutAlike a d
  cut_trans a b d c e = record { left = c.left ∙ e.left; right = c.right ∙ e.right; top = c.top ∙ e.top; bottom = c.bottom ∙ e.bottom }

  -- ---- a box b around an overlap v: no part of b outside v that has area meets the pixel
  pub record Unmet (b v : Rect) : Type 0 where
    pub top : T (positive_area (top_part b v)) → meets (top_part b v) p q ≡ false
    pub bottom : T (positive_area (bottom_part b v)) → meets (bottom_part b v) p q ≡ false
    pub left : T (positive_area (left_part b v)) → meets (left_part b v) p q ≡ false
    pub right : T (positive_area (right_part b v)) → meets (right_part b v) p q ≡ false

  -- v lies within b
  pub record Within (v b : Rect) : Type 0 where
    pub x0 : rank b.x0 ≤ rank v.x0
    pub y0 : rank b.y0 ≤ rank v.y0
    pub x1 : rank v.x1 ≤ rank b.x1
    pub y1 : rank v.y1 ≤ rank b.y1

  -- a part that would have area and overlap the pixel cannot be
  none : (c : Rect) → Ordered c → (T (positive_area c) → meets c p q ≡ false) → rank c.x0 < rank c.x1 → rank c.y0 < rank c.y1 → Overlaps c p q → ⊥
  none c o h x y m = not_both (meets c p q) (h (ranks_area c o x y)) (ranks_meets c o p q pl ql m)

  module _ (b v : Rect) (o : Ordered b) (u : Ordered v) (w : Within v b) (area : T (positive_area v)) (t : T (touches b p q)) (h : Unmet b v) where
    m : Overlaps b p q
    m = meets_ranks b o p q pl ql (touches_meets b p q t)

    xs : rank v.x0 < rank v.x1
    xs = (area_ranks v u area).0

    ys : rank v.y0 < rank v.y1
    ys = (area_ranks v u area).1

    sp : rank (whole p) < rank (whole (p + 1))
    sp = whole_step p pl

    sq : rank (whole q) < rank (whole (q + 1))
    sq = whole_step q ql

    -- what no part can do
    no_top : rank b.y0 < rank v.y0 → rank (whole q) < rank v.y0 → ⊥
    no_top k l = let n = m in none (top_part b v) (record { x0 = o.x0; y0 = o.y0; x1 = o.x1; y1 = u.y0 }) h.top (omega (arith, xs, w.x0, w.x1)) k (record { left = n.left; right = n.right; top = n.top; bottom = l })

    no_bottom : rank v.y1 < rank b.y1 → rank v.y1 < rank (whole (q + 1)) → ⊥
    no_bottom k l = let n = m in none (bottom_part b v) (record { x0 = o.x0; y0 = u.y1; x1 = o.x1; y1 = o.y1 }) h.bottom (omega (arith, xs, w.x0, w.x1)) k (record { left = n.left; right = n.right; top = l; bottom = n.bottom })

    -- so the overlap meets the pixel's rows
    row_top : rank v.y0 < rank (whole (q + 1))
    row_top = less_by _ _ (λ z. no_top (let n = m.top in omega arith) (let s = sq in omega arith))

    row_bottom : rank (whole q) < rank v.y1
    row_bottom = less_by _ _ (λ z. no_bottom (let n = m.bottom in omega arith) (let s = sq in omega arith))

    no_left : rank b.x0 < rank v.x0 → rank (whole p) < rank v.x0 → ⊥
    no_left k l = none (left_part b v) (record { x0 = o.x0; y0 = u.y0; x1 = u.x0; y1 = u.y1 }) h.left k ys (record { left = m.left; right = l; top = row_top; bottom = row_bottom })

    no_right : rank v.x1 < rank b.x1 → rank v.x1 < rank (whole (p + 1)) → ⊥
    no_right k l = none (right_part b v) (record { x0 = u.x1; y0 = u.y0; x1 = o.x1; y1 = u.y1 }) h.right k ys (record { left = l; right = m.right; top = row_top; bottom = row_bottom })

    -- b and the overlap cut the pixel alike, and the overlap touches it
    pub cut_alike : CutAlike b v
    cut_alike = record {
      left = low_alike (rank b.x0) (rank v.x0) (rank (whole p)) w.x0 no_left;
      right = high_alike (rank b.x1) (rank v.x1) (rank (whole (p + 1))) w.x1 no_right;
      top = low_alike (rank b.y0) (rank v.y0) (rank (whole q)) w.y0 no_top;
      bottom = high_alike (rank b.y1) (rank v.y1) (rank (whole (q + 1))) w.y1 no_bottom;
    }

    pub overlap_meets : Overlaps v p q
    overlap_meets = record {
      left = less_by _ _ (λ z. no_left (let n = m.left in omega arith) (let s = sp in omega arith));
      right = less_by _ _ (λ z. no_right (let n = m.right in omega arith) (let s = sp in omega arith));
      top = row_top;
      bottom = row_bottom;
    }

  -- ---- alike by ranks is alike by value
  low_part : (x y : Float) (n : ℕ) → n ≤ 2 ^ 53 → T (ordered x) → T (ordered y) → max (rank x) (rank (whole n)) ≡ max (rank y) (rank (whole n)) → eq (larger x (whole n)) (larger y (whole n)) ≡ true
  low_part x y n l s t e =
      let k = whole_ordered n l in
      ranks_eq (larger x (whole n)) (larger y (whole n)) (larger_ordered x (whole n) s k) (larger_ordered y (whole n) t k) (larger_rank x (whole n) s k ∙ e ∙ sym (larger_rank y (whole n) t k))

  high_part : (x y : Float) (n : ℕ) → n ≤ 2 ^ 53 → T (ordered x) → T (ordered y) → min (rank x) (rank (whole n)) ≡ min (rank y) (rank (whole n)) → eq (smaller x (whole n)) (smaller y (whole n)) ≡ true
  high_part x y n l s t e =
      let k = whole_ordered n l in
      ranks_eq (smaller x (whole n)) (smaller y (whole n)) (smaller_ordered x (whole n) s k) (smaller_ordered y (whole n) t k) (smaller_rank x (whole n) s k ∙ e ∙ sym (smaller_rank y (whole n) t k))

  pub cut_part : (a b : Rect) → Ordered a → Ordered b → CutAlike a b → same_edges (part a p q) (part b p q) ≡ true
  unfolding same_edges
  cut_part a b f g c =
      sym (four_on _ _ _ _ (low_part a.x0 b.x0 p (omega arith) f.x0 g.x0 c.left) (low_part a.y0 b.y0 q (omega arith) f.y0 g.y0 c.top) (high_part a.x1 b.x1 (p + 1) (omega arith) f.x1 g.x1 c.right))
      ∙ high_part a.y1 b.y1 (q + 1) (omega arith) f.y1 g.y1 c.bottom

  -- ---- an overlap of positive area lies within both boxes, and is the same by rank either way round
  axis_within : (a b c d lo hi : ℕ) → lo ≡ max a b → hi ≡ max (min c d) (max a b) → lo < hi → (a ≤ lo) × (b ≤ lo) × (hi ≤ c) × (hi ≤ d)
  axis_within a b c d lo hi e f h = (omega arith, omega arith, omega arith, omega arith)

  module _ (r s : Rect) (f : Ordered r) (g : Ordered s) (area : T (positive_area (intersect r s))) where
    abbrev v : Rect
    v = intersect r s

    v_ordered : Ordered v
    v_ordered = intersect_edges (λ x. T (ordered x)) r s f g

    across : (rank r.x0 ≤ rank v.x0) × (rank s.x0 ≤ rank v.x0) × (rank v.x1 ≤ rank r.x1) × (rank v.x1 ≤ rank s.x1)
    across = axis_within (rank r.x0) (rank s.x0) (rank r.x1) (rank s.x1) (rank v.x0) (rank v.x1) (low_rank r.x0 s.x0 r.x1 s.x1 f.x0 g.x0 f.x1 g.x1) (high_rank r.x0 s.x0 r.x1 s.x1 f.x0 g.x0 f.x1 g.x1) (area_ranks v v_ordered area).0

    along : (rank r.y0 ≤ rank v.y0) × (rank s.y0 ≤ rank v.y0) × (rank v.y1 ≤ rank r.y1) × (rank v.y1 ≤ rank s.y1)
    along = axis_within (rank r.y0) (rank s.y0) (rank r.y1) (rank s.y1) (rank v.y0) (rank v.y1) (low_rank r.y0 s.y0 r.y1 s.y1 f.y0 g.y0 f.y1 g.y1) (high_rank r.y0 s.y0 r.y1 s.y1 f.y0 g.y0 f.y1 g.y1) (area_ranks v v_ordered area).1

    pub within_first : Within v r
    within_first = record { x0 = across.0; y0 = along.0; x1 = across.2; y1 = along.2 }

    -- where the first box touches the pixel, the second does
    pub second_touches : T (touches r p q) → Unmet r v → T (touches s p q)
    second_touches t h =
        let m = overlap_meets r v f v_ordered within_first area t h in
        let a = area_ranks v v_ordered area in
        let x = across in
        let y = along in
        area_meets s p q (ranks_area s g (omega arith) (omega arith)) (ranks_meets s g p q pl ql (omega arith))

    pub first_alike : T (touches r p q) → Unmet r v → CutAlike r v
    first_alike t h = cut_alike r v f v_ordered within_first area t h

  -- the two overlaps cut the pixel alike
  axis_swap : (a b c d : ℕ) → (max a b ≡ max b a) × (max (min c d) (max a b) ≡ max (min d c) (max b a))
  axis_swap a b c d = (omega arith, omega arith)

  module _ (r s : Rect) (f : Ordered r) (g : Ordered s) where
    across_swap : (rank (intersect r s).x0 ≡ rank (intersect s r).x0) × (rank (intersect r s).x1 ≡ rank (intersect s r).x1)
    across_swap =
        let k = axis_swap (rank r.x0) (rank s.x0) (rank r.x1) (rank s.x1) in
        (low_rank r.x0 s.x0 r.x1 s.x1 f.x0 g.x0 f.x1 g.x1 ∙ k.0 ∙ sym (low_rank s.x0 r.x0 s.x1 r.x1 g.x0 f.x0 g.x1 f.x1), high_rank r.x0 s.x0 r.x1 s.x1 f.x0 g.x0 f.x1 g.x1 ∙ k.1 ∙ sym (high_rank s.x0 r.x0 s.x1 r.x1 g.x0 f.x0 g.x1 f.x1))

    along_swap : (rank (intersect r s).y0 ≡ rank (intersect s r).y0) × (rank (intersect r s).y1 ≡ rank (intersect s r).y1)
    along_swap =
        let k = axis_swap (rank r.y0) (rank s.y0) (rank r.y1) (rank s.y1) in
        (low_rank r.y0 s.y0 r.y1 s.y1 f.y0 g.y0 f.y1 g.y1 ∙ k.0 ∙ sym (low_rank s.y0 r.y0 s.y1 r.y1 g.y0 f.y0 g.y1 f.y1), high_rank r.y0 s.y0 r.y1 s.y1 f.y0 g.y0 f.y1 g.y1 ∙ k.1 ∙ sym (high_rank s.y0 r.y0 s.y1 r.y1 g.y0 f.y0 g.y1 f.y1))

    overlaps_alike : CutAlike (intersect r s) (intersect s r)
    overlaps_alike = record {
      left = ap (λ (z : ℕ). max z (rank (whole p))) across_swap.0;
      right = ap (λ (z : ℕ). min z (rank (whole (p + 1)))) across_swap.1;
      top = ap (λ (z : ℕ). max z (rank (whole q))) along_swap.0;
      bottom = ap (λ (z : ℕ). min z (rank (whole (q + 1)))) along_swap.1;
    }

    pub swap_area : T (positive_area (intersect r s)) → T (positive_area (intersect s r))
    swap_area t =
        let o = intersect_edges (λ x. T (ordered x)) r s f g in
        let u = intersect_edges (λ x. T (ordered x)) s r g f in
        let a = area_ranks (intersect r s) o t in
        let x = across_swap in
        let y = along_swap in
        ranks_area (intersect s r) u (omega arith) (omega arith)

  -- D2, for two boxes that overlap
  pub cut_both : (r s : Rect) → Ordered r → Ordered s → T (positive_area (intersect r s)) → Unmet r (intersect r s) → Unmet s (intersect s r) → ((touches r p q ≡ false) × (touches s p q ≡ false)) ⊎ (same_edges (part r p q) (part s p q) ≡ true)
  cut_both r s f g a h k = go (touches r p q) (touches s p q) refl refl
    where
      b : T (positive_area (intersect s r))
      b = swap_area r s f g a

      go : (x y : Bool) → touches r p q ≡ x → touches s p q ≡ y → ((touches r p q ≡ false) × (touches s p q ≡ false)) ⊎ (same_edges (part r p q) (part s p q) ≡ true)
      go false false d e = inl (d, e)
      go true false d e = absurd (not_both (touches s p q) e (second_touches r s f g a (holds _ d) h))
      go false true d e = absurd (not_both (touches r p q) d (second_touches s r g f b (holds _ e) k))
      go true true d e = inr (cut_part r s f g (cut_trans r (intersect r s) s (first_alike r s f g a (holds _ d) h) (cut_trans (intersect r s) (intersect s r) s (overlaps_alike r s f g) (cut_sym s (intersect s r) (first_alike s r g f b (holds _ e) k)))))

  -- ---- boxes that cut the pixel's square to the same part touch it alike
  part_cut : (a b : Rect) → Ordered a → Ordered b → same_edges (part a p q) (part b p q) ≡ true → CutAlike a b
  unfolding same_edges
  part_cut a b f g e =
      let t = holds _ e in
      let x0 = eq (larger a.x0 (whole p)) (larger b.x0 (whole p)) in
      let y0 = eq (larger a.y0 (whole q)) (larger b.y0 (whole q)) in
      let x1 = eq (smaller a.x1 (whole (p + 1))) (smaller b.x1 (whole (p + 1))) in
      let y1 = eq (smaller a.y1 (whole (q + 1))) (smaller b.y1 (whole (q + 1))) in
      record {
        left = low_ranks a.x0 b.x0 p (omega arith) f.x0 g.x0 (is_true x0 (and_l x0 y0 (and_l (x0 && y0) x1 (and_l (x0 && y0 && x1) y1 t))));
        right = high_ranks a.x1 b.x1 (p + 1) (omega arith) f.x1 g.x1 (is_true x1 (and_r (x0 && y0) x1 (and_l (x0 && y0 && x1) y1 t)));
        top = low_ranks a.y0 b.y0 q (omega arith) f.y0 g.y0 (is_true y0 (and_r x0 y0 (and_l (x0 && y0) x1 (and_l (x0 && y0 && x1) y1 t))));
        bottom = high_ranks a.y1 b.y1 (q + 1) (omega arith) f.y1 g.y1 (is_true y1 (and_r (x0 && y0 && x1) y1 t));
      }
    where
      low_ranks : (x y : Float) (n : ℕ) → n ≤ 2 ^ 53 → T (ordered x) → T (ordered y) → eq (larger x (whole n)) (larger y (whole n)) ≡ true → max (rank x) (rank (whole n)) ≡ max (rank y) (rank (whole n))
      low_ranks x y n l s t e =
          let k = whole_ordered n l in
          sym (larger_rank x (whole n) s k) ∙ eq_ranks (larger x (whole n)) (larger y (whole n)) (larger_ordered x (whole n) s k) (larger_ordered y (whole n) t k) e ∙ larger_rank y (whole n) t k

      high_ranks : (x y : Float) (n : ℕ) → n ≤ 2 ^ 53 → T (ordered x) → T (ordered y) → eq (smaller x (whole n)) (smaller y (whole n)) ≡ true → min (rank x) (rank (whole n)) ≡ min (rank y) (rank (whole n))
      high_ranks x y n l s t e =
          let k = whole_ordered n l in
          sym (smaller_rank x (whole n) s k) ∙ eq_ranks (smaller x (whole n)) (smaller y (whole n)) (smaller_ordered x (whole n) s k) (smaller_ordered y (whole n) t k) e ∙ smaller_rank y (whole n) t k

  -- along one axis: a part of positive length between P and Q
  side : (a b c d P Q : ℕ) → P < Q → max a P ≡ max c P → min b Q ≡ min d Q → a < b → a < Q → P < b → (c < d) × (c < Q) × (P < d)
  side a b c d P Q l e f g h k = (omega arith, omega arith, omega arith)

  cut_touches : (a b : Rect) → Ordered a → Ordered b → CutAlike a b → T (touches a p q) → T (touches b p q)
  cut_touches a b f g k t =
      let m = meets_ranks a f p q pl ql (touches_meets a p q t) in
      let n = area_ranks a f (touches_area a p q t) in
      let x = side (rank a.x0) (rank a.x1) (rank b.x0) (rank b.x1) (rank (whole p)) (rank (whole (p + 1))) (whole_step p pl) k.left k.right n.0 m.left m.right in
      let y = side (rank a.y0) (rank a.y1) (rank b.y0) (rank b.y1) (rank (whole q)) (rank (whole (q + 1))) (whole_step q ql) k.top k.bottom n.1 m.top m.bottom in
      area_meets b p q (ranks_area b g x.0 y.0) (ranks_meets b g p q pl ql (record { left = x.1; right = x.2; top = y.1; bottom = y.2 }))

  pub part_touches : (a b : Rect) → Ordered a → Ordered b → same_edges (part a p q) (part b p q) ≡ true → touches a p q ≡ touches b p q
  part_touches a b f g e = let k = part_cut a b f g e in same_bool (touches a p q) (touches b p q) (cut_touches a b f g k) (cut_touches b a g f (cut_sym a b k))
