-- A command whose corners are finite: its box and its glyphs' boxes have finite edges, and are never reversed. Assumes nothing.
use mathlib.Core.Path.{◌≡◌, sym, ap, subst}
use mathlib.Core.Bool.{Bool, true, false, ◌&&◌}
use Prim.Native.Nat.{ℕ, ◌≤◌}
use native.Mathlib.Omega.{arith}
use lib.Dec.{T}
use lib.Ieee.{Float, binary64, fits}
use lib.Ieee.Fits.{and_i, and_l, and_r, add-fits}
use lib.Ieee.Scale.{finite}
use Rattle.base_lists.specs.Pick.{pick}
use Rattle.base_lists.specs.Members.{All}
use Rattle.base_lists.proofs.Members.{all_map}
use Rattle.base_ieee.proofs.Rank.{rank, ordered, not_nan, finite_not_nan}
use Rattle.base_floats.specs.Order.{larger, smaller}
use Rattle.base_floats.proofs.Orders.{larger_rank, smaller_rank, larger_ordered, smaller_ordered}
use Rattle.kurbo_geometry.specs.declared.Rect.{Rect}
use Rattle.kurbo_geometry.proofs.Edges.{Edges, Ordered}
use Rattle.kurbo_affine.specs.declared.Affine.{Affine}
use Rattle.kurbo_affine.specs.Affines.{◌⊕◌, ◌⊗◌, least, greatest, transform_point, bounding_box, transform_rect_bbox, finite_point, all_finite, bound_finite, try_transform}
use Rattle.kurbo_affine.proofs.Corners.{bound_edges, try_is, try_finite}
use Rattle.display_list_commands.specs.declared.Glyph.{Glyph}
use Rattle.display_list_commands.specs.Bounds.{Command, transform_of, local_bounds, clipped, bounds, glyph_bounds}
use Rattle.display_list_commands.proofs.Clips.{Upright, clipped_edges, clipped_upright}
use Rattle.std.specs.Prelude.{Some, None}

-- a number that is finite, and an f64
abbrev pub Number : Float → Type 0
Number x = T (finite x) × T (fits binary64 x)

pub number_ordered : (x : Float) → Number x → T (ordered x)
number_ordered x e = and_i (fits binary64 x) (not_nan x) e.1 (finite_not_nan x e.0)

pub numbers_ordered : (b : Rect) → Edges Number b → Ordered b
numbers_ordered b e = record { x0 = number_ordered b.x0 e.x0; y0 = number_ordered b.y0 e.y0; x1 = number_ordered b.x1 e.x1; y1 = number_ordered b.y1 e.y1 }

-- ---- the least of four numbers is at most the greatest
module _ (p q r s : Float) (a : T (ordered p)) (b : T (ordered q)) (c : T (ordered r)) (d : T (ordered s)) where
  least_low : rank (least p q r s) ≤ rank p
  least_low =
      let o = smaller_ordered p q a b in
      let u = smaller_ordered (smaller p q) r o c in
      omega (arith, smaller_rank p q a b, smaller_rank (smaller p q) r o c, smaller_rank (smaller (smaller p q) r) s u d)

  greatest_high : rank p ≤ rank (greatest p q r s)
  greatest_high =
      let o = larger_ordered p q a b in
      let u = larger_ordered (larger p q) r o c in
      omega (arith, larger_rank p q a b, larger_rank (larger p q) r o c, larger_rank (larger (larger p q) r) s u d)

  least_greatest : rank (least p q r s) ≤ rank (greatest p q r s)
  least_greatest = let l = least_low in let g = greatest_high in omega arith

-- ---- the corners of a box that was transformed are finite
all_four : (a b c d : Bool) (x y : Rect) → pick (a && b && c && d) (Some x) None ≡ Some y → T a × T b × T c × T d
all_four true true true true x y e = (tt, tt, tt, tt)
all_four false b c d x y e = let z : ◌≡◌ {A = ℕ} 0 1 = cc in absurd (omega arith)
all_four true false c d x y e = let z : ◌≡◌ {A = ℕ} 0 1 = cc in absurd (omega arith)
all_four true true false d x y e = let z : ◌≡◌ {A = ℕ} 0 1 = cc in absurd (omega arith)
all_four true true true false x y e = let z : ◌≡◌ {A = ℕ} 0 1 = cc in absurd (omega arith)

-- a sum fits, so a finite one is a number
point_ordered : (t : Affine) (x y : Float) → T (finite_point (transform_point t x y)) → T (ordered (transform_point t x y).x) × T (ordered (transform_point t x y).y)
unfolding finite_point
point_ordered t x y h =
    let p = transform_point t x y in
    (number_ordered p.x (and_l (finite p.x) (finite p.y) h, add-fits binary64 (t.a ⊗ x ⊕ t.c ⊗ y) t.e), number_ordered p.y (and_r (finite p.x) (finite p.y) h, add-fits binary64 (t.b ⊗ x ⊕ t.d ⊗ y) t.f))

transform_fits : (t : Affine) (b : Rect) → Edges (λ x. T (fits binary64 x)) (transform_rect_bbox t b)
unfolding transform_rect_bbox
transform_fits t b = bound_edges (λ x. T (fits binary64 x)) (transform_point t b.x0 b.y0) (transform_point t b.x1 b.y0) (transform_point t b.x0 b.y1) (transform_point t b.x1 b.y1)
    (across b.x0 b.y0) (along b.x0 b.y0) (across b.x1 b.y0) (along b.x1 b.y0) (across b.x0 b.y1) (along b.x0 b.y1) (across b.x1 b.y1) (along b.x1 b.y1)
  where
    across : (x y : Float) → T (fits binary64 (transform_point t x y).x)
    across x y = add-fits binary64 (t.a ⊗ x ⊕ t.c ⊗ y) t.e

    along : (x y : Float) → T (fits binary64 (transform_point t x y).y)
    along x y = add-fits binary64 (t.b ⊗ x ⊕ t.d ⊗ y) t.f

-- ---- so the transformed box has numbers for edges, and is not reversed
module _ (t : Affine) (a b : Rect) (e : try_transform t a ≡ Some b) where
  pub transform_numbers : Edges Number b
  transform_numbers =
      let f = try_finite t a b e in
      let g = subst (Edges (λ x. T (fits binary64 x))) (sym (try_is t a b e)) (transform_fits t a) in
      record { x0 = (f.x0, g.x0); y0 = (f.y0, g.y0); x1 = (f.x1, g.x1); y1 = (f.y1, g.y1) }

  transformed_upright : Upright (transform_rect_bbox t a)
  unfolding try_transform bound_finite transform_rect_bbox bounding_box all_finite
  transformed_upright =
      let h = all_four (finite_point (transform_point t a.x0 a.y0)) (finite_point (transform_point t a.x1 a.y0)) (finite_point (transform_point t a.x0 a.y1)) (finite_point (transform_point t a.x1 a.y1)) _ b e in
      let p = point_ordered t a.x0 a.y0 h.0 in
      let q = point_ordered t a.x1 a.y0 h.1 in
      let r = point_ordered t a.x0 a.y1 h.2 in
      let s = point_ordered t a.x1 a.y1 h.3 in
      record { across = least_greatest _ _ _ _ p.0 q.0 r.0 s.0; along = least_greatest _ _ _ _ p.1 q.1 r.1 s.1 }

  pub transform_upright : Upright b
  transform_upright = subst Upright (sym (try_is t a b e)) transformed_upright

-- ---- the box of a command, and that of a glyph of it
module _ (c : Command) (k : All (Edges Number) c.clips) where
  clips_ordered : All Ordered c.clips
  clips_ordered = all_map (Edges Number) Ordered numbers_ordered c.clips k

  module _ (b : Rect) (e : try_transform (transform_of c.draw) (local_bounds c.draw c.glyphs) ≡ Some b) where
    pub bounds_is : bounds c ≡ clipped c.clips b
    unfolding bounds
    bounds_is = ap (clipped c.clips) (sym (try_is (transform_of c.draw) (local_bounds c.draw c.glyphs) b e))

    pub bounds_numbers : Edges Number (bounds c)
    bounds_numbers = subst (Edges Number) (sym bounds_is) (clipped_edges Number c.clips b k (transform_numbers _ _ b e))

    pub bounds_upright : Upright (bounds c)
    bounds_upright = subst Upright (sym bounds_is) (clipped_upright c.clips b clips_ordered (numbers_ordered b (transform_numbers _ _ b e)) (transform_upright _ _ b e))

  module _ (g : Glyph) (b : Rect) (e : try_transform (transform_of c.draw) g.bounds ≡ Some b) where
    pub glyph_is : glyph_bounds c g ≡ clipped c.clips b
    unfolding glyph_bounds
    glyph_is = ap (clipped c.clips) (sym (try_is (transform_of c.draw) g.bounds b e))

    pub glyph_numbers : Edges Number (glyph_bounds c g)
    glyph_numbers = subst (Edges Number) (sym glyph_is) (clipped_edges Number c.clips b k (transform_numbers _ _ b e))

    pub glyph_upright : Upright (glyph_bounds c g)
    glyph_upright = subst Upright (sym glyph_is) (clipped_upright c.clips b clips_ordered (numbers_ordered b (transform_numbers _ _ b e)) (transform_upright _ _ b e))
