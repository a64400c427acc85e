-- The rows of a converted box lie between its rounded edges, and an edge against a whole number is its rounding against it. Assumes nothing.
use Rattle.std.proofs.Common.{◌≡◌, ℕ, ◌-◌, ◌^◌, ◌<◌, ◌≤◌, min, max, Bool, true, false, true≢false, not, ◌&&◌, T, ltb, sym, refl, ap, ◌∙◌, subst, le_trans, le_of_eq, arith, ltb→lt, ltb-false, Option, Some, None}
use lib.Ieee.Fits.{and_r}
use lib.Ieee.{Float, nan, inf, fin, binary64, fits, lt, le}
use Rattle.base_lists.specs.Pick.{pick}
use Rattle.base_ieee.proofs.Rank.{rank, ordered_of, le_not_nan, le_rank, whole_ordered, rank_whole}
use Rattle.base_floats.specs.Whole.{whole, floor, ceil}
use Rattle.base_floats.proofs.Wholes.{whole_ceil, floor_at_least}
use Rattle.kurbo_geometry.specs.declared.Rect.{Rect}
use Rattle.compositor_device.specs.declared.DeviceRegion.{DeviceRegion}
use Rattle.compositor_device.specs.Region.{between, bottom, from_logical, intersect}
use Rattle.compositor_device.proofs.Overlaps.{above_nothing}
use Rattle.compositor_band_misses.specs.Misses.{Misses}

-- ---- edges
ceil_not_above : (x : Float) (p : ℕ) → fits binary64 x ≡ true → p ≤ 2 ^ 53 → lt (whole p) x ≡ false → ceil x ≤ p
ceil_not_above nan p f b e = unfold ceil in omega arith
ceil_not_above (inf s) p f b e = ltb-false p (ceil (inf s)) (whole_ceil (inf s) p (ordered_of (inf s) f tt) b ∙ e)
ceil_not_above (fin s m d) p f b e = ltb-false p (ceil (fin s m d)) (whole_ceil (fin s m d) p (ordered_of (fin s m d) f tt) b ∙ e)

floor_from : (x : Float) (p : ℕ) → fits binary64 x ≡ true → p ≤ 2 ^ 53 → T (le (whole p) x) → p ≤ floor x
floor_from x p f b t =
    let o = ordered_of x f (le_not_nan (whole p) x t) in
    let k : rank (whole p) ≤ rank x = le_rank (whole p) x (whole_ordered p b) o t in
    floor_at_least x p o (le_trans (le_of_eq (sym (rank_whole p b))) k)

-- ---- rows: from the first edge up to the second
abbrev Rows : Option DeviceRegion → ℕ → ℕ → Type 0
Rows (Some r) low high = (r.y ≡ low) × (bottom r ≡ high)
Rows None low high = Unit {0}

rows : (x y right high : ℕ) → Rows (between x y right high) y high
rows x y right high = unfold between in go (ltb x right && ltb y high) (λ t. ltb→lt y high (and_r (ltb x right) (ltb y high) t))
  where
    go : (t : Bool) → (T t → y < high) → Rows (pick t (Some (record { x = x; y = y; width = right - x; height = high - y })) None) y high
    go true f = let k = f tt in (refl, omega arith)
    go false f = tt

module _ (b : Rect) (band : DeviceRegion) where
  rows_of : (w h : ℕ) (r : DeviceRegion) → from_logical b w h ≡ Some r → (r.y ≡ floor b.y0) × (bottom r ≡ min (ceil b.y1) h)
  rows_of w h r e = subst (λ (c : Option DeviceRegion). Rows c (floor b.y0) (min (ceil b.y1) h)) e (rows (floor b.x0) (floor b.y0) (min (ceil b.x1) w) (min (ceil b.y1) h))

  flat : (r : DeviceRegion) → min (bottom r) (bottom band) ≤ max r.y band.y → intersect r band ≡ None
  flat r k = above_nothing r band k

  pub misses_above : (top : Float) → top ≡ whole band.y → fits binary64 b.y1 ≡ true → band.y ≤ 2 ^ 53 → lt top b.y1 ≡ false → Misses b band
  misses_above top is f small e w h r region =
      let k = ceil_not_above b.y1 band.y f small (ap (λ (t : Float). lt t b.y1) (sym is) ∙ e) in
      let q = rows_of w h r region in
      flat r (omega (arith, k, q.0, q.1))

  pub misses_below : (end : ℕ) → end ≡ bottom band → (low : Float) → low ≡ whole end → fits binary64 b.y0 ≡ true → end ≤ 2 ^ 53 → le low b.y0 ≡ true → Misses b band
  misses_below end ends low is f small e w h r region =
      let k = floor_from b.y0 end f small (subst T (sym (ap (λ (t : Float). le t b.y0) (sym is) ∙ e)) tt) in
      let q = rows_of w h r region in
      flat r (omega (arith, ends, k, q.0, q.1))

-- ---- where the tests do not both say that rows may be shared, one of them says that none is
pub either_misses : {M : Type 0} (reaches below : Bool) → (reaches ≡ false → M) → (below ≡ true → M) → (reaches && not below) ≡ false → M
either_misses false below f g e = f refl
either_misses true true f g e = g refl
either_misses true false f g e = absurd (true≢false e)
