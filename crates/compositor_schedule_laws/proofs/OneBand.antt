-- What holds of the regions of one band. Assumes nothing.
use mathlib.Core.Logic.{◌⊎◌, inl, inr, ⊎_elim}
use mathlib.Core.List.{List}
use Prim.Native.Nat.{ℕ, ◌≤◌, ◌<◌}
use native.Mathlib.Omega.{arith}
use Rattle.base_lists.specs.Members.{All, Any, Pairs}
use Rattle.base_lists.proofs.Members.{all_map, all_of, pairs_with, pairs_both, pairs_map}
use Rattle.compositor_device.specs.declared.DeviceRegion.{DeviceRegion}
use Rattle.compositor_device.specs.Region.{right, bottom, Fit, union}
use Rattle.compositor_device.proofs.Overlaps.{Overlap, part}
use Rattle.compositor_bands.specs.Bands.{cut_to, xy, yx, merge_overlapping, band_regions, Gap}
use Rattle.compositor_bands.proofs.Sorted.{all_sort, any_sort, pairs_sort, rises_sort, Rises}
use Rattle.compositor_bands.proofs.Joins.{all_join, any_join, join_gap, sort_by_x, xy_leftward}
use Rattle.compositor_bands.proofs.Cuts.{all_cut, any_cut}
use Rattle.compositor_schedule_laws.specs.Placed.{Covers, Before}

-- the region has pixels, and all of them are the band's
pub record InBand (band r : DeviceRegion) : Type 0 where
  pub some_width : 0 < r.width
  pub some_height : 0 < r.height
  pub left_in : band.x ≤ r.x
  pub right_in : right r ≤ right band
  pub top_in : band.y ≤ r.y
  pub bottom_in : bottom r ≤ bottom band

-- a column between the two, on either side
abbrev pub Sides : DeviceRegion → DeviceRegion → Type 0
Sides r s = Gap r s ⊎ Gap s r

pub sides_flip : (r s : DeviceRegion) → Sides r s → Sides s r
sides_flip r s e = ⊎_elim (λ a. inr a) (λ a. inl a) e

-- ---- cut and united

part_in : (band r : DeviceRegion) → Overlap r band → InBand band (part r band)
part_in band r o = record { some_width = omega (arith, o.across); some_height = omega (arith, o.down); left_in = omega arith; right_in = omega (arith, o.across); top_in = omega arith; bottom_in = omega (arith, o.down) }

union_in : (band o r : DeviceRegion) → InBand band o → InBand band r → InBand band (union o r)
unfolding union
union_in band o r f g = record { some_width = omega (arith, f.some_width); some_height = omega (arith, f.some_height); left_in = omega (arith, f.left_in, g.left_in); right_in = omega (arith, f.right_in, g.right_in); top_in = omega (arith, f.top_in, g.top_in); bottom_in = omega (arith, f.bottom_in, g.bottom_in) }

covers_overlap : (p q : ℕ) (band : DeviceRegion) → Covers p q band → (r : DeviceRegion) → Covers p q r → Overlap r band
covers_overlap p q band b r c = record { across = omega (arith, b.from_left, b.to_right, c.from_left, c.to_right); down = omega (arith, b.from_top, b.to_bottom, c.from_top, c.to_bottom) }

covers_part : (p q : ℕ) (band : DeviceRegion) → Covers p q band → (r : DeviceRegion) → Covers p q r → Covers p q (part r band)
covers_part p q band b r c = record { from_left = omega (arith, b.from_left, c.from_left); to_right = omega (arith, b.from_left, b.to_right, c.from_left, c.to_right); from_top = omega (arith, b.from_top, c.from_top); to_bottom = omega (arith, b.from_top, b.to_bottom, c.from_top, c.to_bottom) }

covers_first : (p q : ℕ) (o r : DeviceRegion) → Covers p q o → Covers p q (union o r)
unfolding union
covers_first p q o r c = record { from_left = omega (arith, c.from_left); to_right = omega (arith, c.to_right); from_top = omega (arith, c.from_top); to_bottom = omega (arith, c.to_bottom) }

covers_second : (p q : ℕ) (o r : DeviceRegion) → Covers p q r → Covers p q (union o r)
unfolding union
covers_second p q o r c = record { from_left = omega (arith, c.from_left); to_right = omega (arith, c.to_right); from_top = omega (arith, c.from_top); to_bottom = omega (arith, c.to_bottom) }

-- ---- one band

-- S1 for a band: a pixel of the band that some region covers is covered by some region of the band
pub band_covers : (p q : ℕ) (band : DeviceRegion) (l : List DeviceRegion) → Covers p q band → Any (Covers p q) l → Any (Covers p q) (band_regions band l)
unfolding merge_overlapping
band_covers p q band l b a =
    any_sort yx (Covers p q) _ (any_join (Covers p q) (covers_first p q) (covers_second p q) _ (any_sort xy (Covers p q) _ (any_cut band (Covers p q) (Covers p q) (covers_overlap p q band b) (covers_part p q band b) l a)))

module _ (band : DeviceRegion) (l : List DeviceRegion) where
  pub cut_in_band : All (InBand band) (cut_to band l)
  cut_in_band = all_cut band (λ r. Unit {0}) (InBand band) (λ r u. part_in band r) l (all_of (λ r. Unit {0}) l (λ r i. tt))

  -- S3 for a band
  pub all_in_band : All (InBand band) (band_regions band l)
  unfolding merge_overlapping
  all_in_band = all_sort yx (InBand band) _ (all_join (InBand band) (union_in band) _ (all_sort xy (InBand band) _ cut_in_band))

  -- for a band within 16 bits
  module _ (fit : (r : DeviceRegion) → InBand band r → Fit r) where
    pub cut_fits : All Fit (cut_to band l)
    cut_fits = all_map (InBand band) Fit fit _ cut_in_band

    -- S2 for a band
    pub band_sides : Pairs Sides (band_regions band l)
    unfolding merge_overlapping
    band_sides = pairs_sort yx Sides sides_flip _ (pairs_map Gap Sides (λ r s a. inl a) _ (join_gap _ (sort_by_x xy xy_leftward _ cut_fits)))

    -- the order within a band: its regions start in different columns
    pub band_before : Pairs Before (band_regions band l)
    unfolding merge_overlapping
    band_before =
        pairs_with Fit (λ r s. Sides r s × Rises yx r s) Before
        (λ r s f g h. ⊎_elim (λ k. omega (arith, f.wide, g.wide, h.1, k)) (λ k. omega (arith, f.wide, g.wide, h.1, k)) h.0) _
        (all_map (InBand band) Fit fit _ all_in_band)
        (pairs_both Sides (Rises yx) (λ r s. Sides r s × Rises yx r s) (λ r s a b. (a, b)) _ band_sides (rises_sort yx _))
