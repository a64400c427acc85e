-- What two regions have in common, and the least region over two, as laws. Assumes nothing.
use Rattle.std.proofs.Common.{Some, None}
use mathlib.Core.Path.{◌≡◌, sym, ap, ◌∙◌}
use Prim.Native.Nat.{ℕ, ◌+◌, ◌-◌, ◌≤◌, ◌<◌, min, max}
use native.Mathlib.Omega.{arith}
use Rattle.base_lists.proofs.Picks.{by_le}
use Rattle.compositor_device.specs.declared.DeviceRegion.{DeviceRegion}
use Rattle.compositor_device.specs.Region.{right, bottom, Fit, intersect, union}
use Rattle.compositor_device.proofs.Regions.{between_yes, between_narrow, between_flat}

-- ---- what two regions have in common

-- the two have a column and a row in common
pub record Overlap (a b : DeviceRegion) : Type 0 where
  pub across : max a.x b.x < min (right a) (right b)
  pub down : max a.y b.y < min (bottom a) (bottom b)

-- what that is
abbrev pub part : DeviceRegion → DeviceRegion → DeviceRegion
part a b = record {
  x = max a.x b.x;
  y = max a.y b.y;
  width = min (right a) (right b) - max a.x b.x;
  height = min (bottom a) (bottom b) - max a.y b.y;
}

module _ (a b : DeviceRegion) where
  pub overlap_part : Overlap a b → intersect a b ≡ Some (part a b)
  unfolding intersect
  overlap_part o = sym (between_yes _ _ _ _ o.across o.down)

  -- no column in common
  pub beside_nothing : min (right a) (right b) ≤ max a.x b.x → intersect a b ≡ None
  unfolding intersect
  beside_nothing h = sym (between_narrow _ _ _ _ h)

  -- no row in common
  pub above_nothing : min (bottom a) (bottom b) ≤ max a.y b.y → intersect a b ≡ None
  unfolding intersect
  above_nothing h = sym (between_flat _ _ _ _ h)

  -- what holds where the two overlap and where they do not holds
  pub by_overlap : {P : Type 0} → (Overlap a b → intersect a b ≡ Some (part a b) → P) → (intersect a b ≡ None → P) → P
  by_overlap f g = by_le (min (right a) (right b)) (max a.x b.x)
      (λ h. g (beside_nothing h))
      (λ h. by_le (min (bottom a) (bottom b)) (max a.y b.y)
      (λ k. g (above_nothing k))
      (λ k. let o : Overlap a b = record { across = h; down = k } in f o (overlap_part o)))

  pub part_fit : Fit a → Overlap a b → Fit (part a b)
  part_fit f o = record { wide = omega (arith, f.wide, o.across); high = omega (arith, f.high, o.down) }

  -- a part that an intersection gives
  pub common_fit : (p : DeviceRegion) → Fit a → intersect a b ≡ Some p → Fit p
  common_fit p f e = by_overlap
      (λ o q. let z : part a b ≡ p = cc in rw (← z) (part_fit f o))
      (λ q. let z : ◌≡◌ {A = ℕ} 0 1 = cc in absurd (omega arith))

-- ---- the least region over two

module _ (o r : DeviceRegion) where
  pub union_fit : Fit o → Fit r → Fit (union o r)
  unfolding union
  union_fit f g = record { wide = omega (arith, f.wide, g.wide); high = omega (arith, f.high, g.high) }

  -- it ends no further to the left than the first of the two
  pub union_right : right o ≤ right (union o r)
  unfolding union
  union_right = omega arith

  -- the second of the two starts within its reach
  pub union_reaches : r.x ≤ right (union o r)
  unfolding union
  union_reaches = omega arith

  pub union_comm : union o r ≡ union r o
  unfolding union
  union_comm = λ k. record { x = low o.x r.x k; y = low o.y r.y k; width = side o.x (right o) r.x (right r) k; height = side o.y (bottom o) r.y (bottom r) k }
    where
      low : (a c : ℕ) → min a c ≡ min c a
      low a c = omega arith

      side : (a b c d : ℕ) → max b d - min a c ≡ max d b - min c a
      side a b c d = omega arith

-- along one axis, from a to b and from c to d: the union ends where the further of the two ends
reach : (a b c d : ℕ) → a ≤ b → c ≤ d → min a c + (max b d - min a c) ≡ max b d
reach a b c d h g = omega arith

-- a region that is joined again changes nothing
pub union_self : (r : DeviceRegion) → union r r ≡ r
unfolding union
union_self r = λ k. record { x = low r.x k; y = low r.y k; width = side r.x r.width k; height = side r.y r.height k }
  where
    low : (a : ℕ) → min a a ≡ a
    low a = omega arith

    side : (a b : ℕ) → max (a + b) (a + b) - min a a ≡ b
    side a b = omega arith

pub union_again : (o r : DeviceRegion) → union (union o r) r ≡ union o r
unfolding union
union_again o r = λ k. record { x = low o.x r.x k; y = low o.y r.y k; width = side o.x o.width r.x r.width k; height = side o.y o.height r.y r.height k }
  where
    low : (a c : ℕ) → min (min a c) c ≡ min a c
    low a c = omega arith

    most : (a c : ℕ) → max (max a c) c ≡ max a c
    most a c = omega arith

    side : (a b c d : ℕ) → max (min a c + (max (a + b) (c + d) - min a c)) (c + d) - min (min a c) c ≡ max (a + b) (c + d) - min a c
    side a b c d = λ k. (ap (λ (t : ℕ). max t (c + d)) (reach a (a + b) c (c + d) (omega arith) (omega arith)) ∙ most (a + b) (c + d)) k - low a c k

-- two regions may join a third in either order
pub union_swap : (o q r : DeviceRegion) → union (union o q) r ≡ union (union o r) q
unfolding union
union_swap o q r = λ k. record { x = low o.x q.x r.x k; y = low o.y q.y r.y k; width = side o.x o.width q.x q.width r.x r.width k; height = side o.y o.height q.y q.height r.y r.height k }
  where
    low : (a c e : ℕ) → min (min a c) e ≡ min (min a e) c
    low a c e = omega arith

    most : (a c e : ℕ) → max (max a c) e ≡ max (max a e) c
    most a c e = omega arith

    side : (a b c d e f : ℕ) → max (min a c + (max (a + b) (c + d) - min a c)) (e + f) - min (min a c) e ≡ max (min a e + (max (a + b) (e + f) - min a e)) (c + d) - min (min a e) c
    side a b c d e f = λ k. (ap (λ (t : ℕ). max t (e + f)) (reach a (a + b) c (c + d) (omega arith) (omega arith)) ∙ most (a + b) (c + d) (e + f) ∙ ap (λ (t : ℕ). max t (c + d)) (sym (reach a (a + b) e (e + f) (omega arith) (omega arith)))) k - low a c e k
