-- C1: on the screen, a converted region has exactly the pixels that the box meets. Assumes nothing.
use Rattle.std.proofs.Common.{Option, Some, None}
use mathlib.Core.Path.{◌≡◌, sym, ◌∙◌}
use mathlib.Core.Bool.{Bool, true, false, ◌&&◌}
use Prim.Native.Nat.{ℕ, ◌+◌, ◌-◌, ◌^◌, ◌≤◌, ◌<◌, min}
use native.Mathlib.Omega.{arith}
use lib.Dec.{T, leb, ltb, leb→le, ltb→lt, lt→ltb}
use lib.Ieee.{Float}
use lib.Ieee.Fits.{and_i, and_l, and_r}
use borrow.Author.Tests.{lt-ltb, le-ltb}
use Rattle.base_lists.specs.Pick.{pick}
use Rattle.base_lists.proofs.Picks.{pick_true, pick_false, by_le}
use Rattle.base_ieee.proofs.Rank.{ordered}
use Rattle.base_floats.specs.Whole.{floor, ceil}
use Rattle.base_floats.proofs.Wholes.{floor_whole, whole_ceil, floor_same, ceil_same}
use Rattle.kurbo_geometry.specs.declared.Rect.{Rect}
use Rattle.kurbo_geometry.specs.Pixels.{spans, meets}
use Rattle.kurbo_geometry.proofs.Edges.{Ordered}
use Rattle.kurbo_geometry.proofs.Values.{SameBox}
use Rattle.compositor_device.specs.declared.DeviceRegion.{DeviceRegion}
use Rattle.compositor_device.specs.Region.{between, from_logical, has}
use Rattle.std.proofs.lemmas.Bool.{and_right, and_from}
use Rattle.base_lists.proofs.Bools.{and_off, same_bool}

-- ---- the answers, by the sides
module _ (x y r d : ℕ) where
  pub between_yes : x < r → y < d → Some (record { x = x; y = y; width = r - x; height = d - y }) ≡ between x y r d
  unfolding between
  between_yes h k = sym (pick_true (ltb x r && ltb y d) (Some (record { x = x; y = y; width = r - x; height = d - y })) None (and_from (ltb x r) (ltb y d) (lt-ltb x r h) (lt-ltb y d k)))

  between_no : (ltb x r && ltb y d) ≡ false → None ≡ between x y r d
  unfolding between
  between_no e = sym (pick_false (ltb x r && ltb y d) (Some (record { x = x; y = y; width = r - x; height = d - y })) None e)

  pub between_narrow : r ≤ x → None ≡ between x y r d
  between_narrow h = between_no (sym (and_off (ltb x r) (ltb y d) (le-ltb x r h)))

  pub between_flat : d ≤ y → None ≡ between x y r d
  between_flat h = between_no (and_right (ltb x r) (ltb y d) (le-ltb y d h))

-- a low edge may be cut at the screen or not
pub low_cut : (a b u v w h : ℕ) → between (min a w) (min b h) (min u w) (min v h) ≡ between a b (min u w) (min v h)
low_cut a b u v w h = by_le (min u w) (min a w)
    (λ k. sym (between_narrow (min a w) (min b h) (min u w) (min v h) k) ∙ between_narrow a b (min u w) (min v h) (omega arith))
    (λ k. by_le (min v h) (min b h)
    (λ l. sym (between_flat (min a w) (min b h) (min u w) (min v h) l) ∙ between_flat a b (min u w) (min v h) (omega arith))
    (λ l. let e : min a w ≡ a = omega arith in let f : min b h ≡ b = omega arith in λ i. between (e i) (f i) (min u w) (min v h)))

-- ---- the pixels of a region
Inside : ℕ → ℕ → ℕ → Bool
Inside low high n = leb low n && ltb n high

inside_lt : (low high n : ℕ) → T (Inside low high n) → low < high
unfolding Inside
inside_lt low high n t = let a = leb→le low n (and_l (leb low n) (ltb n high) t) in let b = ltb→lt n high (and_r (leb low n) (ltb n high) t) in omega arith

has_between : (a b r d p q : ℕ) → has (between a b r d) p q ≡ ((leb a p && ltb p r) && (leb b q && ltb q d))
unfolding between Inside
has_between a b r d p q = go (ltb a r && ltb b d) (λ t. (ltb→lt a r (and_l (ltb a r) (ltb b d) t), ltb→lt b d (and_r (ltb a r) (ltb b d) t))) (λ h k. and_i (ltb a r) (ltb b d) (lt→ltb a r h) (lt→ltb b d k))
  where
    go : (z : Bool) → (T z → (a < r) × (b < d)) → (a < r → b < d → T z) → has (pick z (Some (record { x = a; y = b; width = r - a; height = d - b })) None) p q ≡ (Inside a r p && Inside b d q)
    go true f g =
        let h = f tt in
        let e : a + (r - a) ≡ r = omega arith in
        let k : b + (d - b) ≡ d = omega arith in
        λ i. (leb a p && ltb p (e i)) && (leb b q && ltb q (k i))
    go false f g = same_bool false (Inside a r p && Inside b d q) (λ t. absurd t) (λ t. g (inside_lt a r p (and_l (Inside a r p) (Inside b d q) t)) (inside_lt b d q (and_r (Inside a r p) (Inside b d q) t)))

-- along one axis: a pixel between the rounded edges is one that the edges span
rounded : (low high : Float) (n w : ℕ) → T (ordered low) → T (ordered high) → n < w → w ≤ 2 ^ 53 → (leb (floor low) n && ltb n (min (ceil high) w)) ≡ spans low high n
unfolding spans
rounded low high n w s t l b = λ i. floor_whole low n s (omega arith) i && (uncut ∙ whole_ceil high n t (omega arith)) i
  where
    uncut : ltb n (min (ceil high) w) ≡ ltb n (ceil high)
    uncut = same_bool (ltb n (min (ceil high) w)) (ltb n (ceil high)) (λ u. let k = ltb→lt n (min (ceil high) w) u in lt→ltb n (ceil high) (omega arith)) (λ u. let k = ltb→lt n (ceil high) u in lt→ltb n (min (ceil high) w) (omega arith))

-- C1
pub has_meets : (b : Rect) (w h p q : ℕ) → Ordered b → w ≤ 2 ^ 53 → h ≤ 2 ^ 53 → p < w → q < h → has (from_logical b w h) p q ≡ meets b p q
unfolding meets
has_meets b w h p q o wb hb pw qh =
    has_between (floor b.x0) (floor b.y0) (min (ceil b.x1) w) (min (ceil b.y1) h) p q
    ∙ (λ i. rounded b.x0 b.x1 p w o.x0 o.x1 pw wb i && rounded b.y0 b.y1 q h o.y0 o.y1 qh hb i)

-- ---- a region lies on the screen, and has pixels
abbrev pub OnScreen : Option DeviceRegion → ℕ → ℕ → Type 0
OnScreen (Some r) w h = (0 < r.width) × (0 < r.height) × (r.x + r.width ≤ w) × (r.y + r.height ≤ h)
OnScreen None w h = Unit {0}

pub on_screen : (b : Rect) (w h : ℕ) → OnScreen (from_logical b w h) w h
on_screen b w h = cut (floor b.x0) (floor b.y0) (min (ceil b.x1) w) (min (ceil b.y1) h) (omega arith) (omega arith)
  where
    cut : (x y r d : ℕ) → r ≤ w → d ≤ h → OnScreen (between x y r d) w h
    cut x y r d k l = unfold between in go (ltb x r && ltb y d) (λ t. ltb→lt x r (and_l (ltb x r) (ltb y d) t)) (λ t. ltb→lt y d (and_r (ltb x r) (ltb y d) t))
      where
        go : (t : Bool) → (T t → x < r) → (T t → y < d) → OnScreen (pick t (Some (record { x = x; y = y; width = r - x; height = d - y })) None) w h
        go true f g = let p = f tt in let q = g tt in (omega arith, omega arith, omega arith, omega arith)
        go false f g = tt

-- ---- equal boxes convert alike
pub from_logical_same : (a b : Rect) (w h : ℕ) → Ordered a → Ordered b → SameBox a b → from_logical a w h ≡ from_logical b w h
from_logical_same a b w h f g k = λ i. between (floor_same a.x0 b.x0 f.x0 g.x0 k.x0 i) (floor_same a.y0 b.y0 f.y0 g.y0 k.y0 i) (min (ceil_same a.x1 b.x1 f.x1 g.x1 k.x1 i) w) (min (ceil_same a.y1 b.y1 f.y1 g.y1 k.y1 i) h)
