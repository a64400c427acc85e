-- What holds of every schedule: S1, S2, S3 and the order. Assumes nothing.
use mathlib.Core.Path.{◌≡◌, sym, ◌∙◌, subst}
use mathlib.Core.Logic.{⊎_elim}
use mathlib.Core.List.{List}
use Prim.Native.Nat.{ℕ, zero, suc, ◌+◌, ◌*◌, ◌/◌, ◌≤◌, ◌<◌}
use native.Mathlib.Omega.{arith}
use native.Mathlib.Nat.{suc-mul, le-div_iff_mul-le, div-eq_of_lt-le, div-mul-le_self, lt-div-mul-add, not-suc-le-zero}
use Rattle.base_lists.specs.Members.{All, Any, Pairs}
use Rattle.base_lists.proofs.Picks.{by_le}
use Rattle.base_lists.proofs.Members.{all_none, all_map, all_both, all_append, any_left, any_right, pairs_none, pairs_append, pairs_map}
use Rattle.compositor_device.specs.declared.DeviceRegion.{DeviceRegion}
use Rattle.compositor_device.specs.Region.{right, bottom, Fit}
use Rattle.compositor_rows.specs.Rows.{row_count}
use Rattle.compositor_bands.specs.Bands.{band_regions}
use Rattle.compositor_scheduler.specs.Schedule.{band_from, bands_to, schedule_of}
use Rattle.compositor_scheduler.proofs.Rows.{band_of_row, next_row}
use Rattle.compositor_schedule_laws.specs.Placed.{Covers, Placed, Clear, Before, Schedulable}
use Rattle.compositor_schedule_laws.proofs.OneBand.{InBand, Sides, all_in_band, band_sides, band_before, band_covers}
use Rattle.compositor_screen.specs.declared.Screen.{Screen}
use Rattle.compositor_screen.proofs.Laws.{Fits}

-- ---- rows and bands

pub div_is : (b j y : ℕ) → j * b ≤ y → y < j * b + b → y / b ≡ j
div_is b j y h g = let k : y < (j + 1) * b = rw (next_row b j) g in div-eq_of_lt-le {k = j} b {m = y} h (omega (arith, k, suc-mul j b, next_row b j))

-- every row of a region has the band of its first row
pub row_band : (screen : Screen) (q : ℕ) (r : DeviceRegion) → Placed screen r → r.y ≤ q → q < bottom r → q / screen.band_height ≡ r.y / screen.band_height
row_band screen q r p f g = div_is screen.band_height (r.y / screen.band_height) q (omega (arith, div-mul-le_self r.y screen.band_height)) (omega (arith, p.one_band))

-- a row of the screen is in one of its bands
pub row_count_lem : (h b q : ℕ) → 0 < b → q < h → q / b < row_count h b
row_count_lem h b q p g = band_of_row h b (q / b) p (omega (arith, div-mul-le_self q b))

-- ---- the bands together

-- the region has pixels, and all of them are above row n
Above : ℕ → DeviceRegion → Type 0
Above n r = (0 < r.height) × (bottom r ≤ n)

across : {A : Type 0} (P Q : A → Type 0) (R : A → A → Type 0) → ((a b : A) → P a → Q b → R a b) → (l m : List A) → All P l → All Q m → All (λ a. All (R a) m) l
across P Q R f l m h g = all_map P (λ a. All (R a) m) (λ a p. all_map Q (R a) (λ b q. f a b p q) m g) l h

above_clear : (screen : Screen) (j : ℕ) → 0 < screen.band_height → (r s : DeviceRegion) → Above (j * screen.band_height) r → InBand (band_from screen (j * screen.band_height)) s → Clear screen.band_height r s
unfolding Above Clear
above_clear screen j p r s f i e =
    let a : j ≤ s.y / screen.band_height = (le-div_iff_mul-le {k = screen.band_height} {x = j} {y = s.y} p).1 i.top_in in
    let c : j ≤ r.y / screen.band_height = rw e a in
    let d : j * screen.band_height ≤ r.y = (le-div_iff_mul-le {k = screen.band_height} {x = j} {y = r.y} p).0 c in
    absurd (omega (arith, f.0, f.1))

sides_clear : (b : ℕ) (r s : DeviceRegion) → Sides r s → Clear b r s
unfolding Clear
sides_clear b r s g e = g

above_before : (screen : Screen) (j : ℕ) → screen.width ≤ 32768 → (r s : DeviceRegion) → Above (j * screen.band_height) r × (right r ≤ screen.width) → InBand (band_from screen (j * screen.band_height)) s → Before r s
unfolding Above
above_before screen j wh r s f i = omega (arith, f.0.0, f.0.1, f.1, i.top_in)

module _ {screen : Screen} (s : Fits screen) where
  -- a region of a band is on the screen and in one band
  band_placed : (j : ℕ) (r : DeviceRegion) → InBand (band_from screen (j * screen.band_height)) r → Placed screen r
  band_placed j r i =
      let e : r.y / screen.band_height ≡ j = div_is screen.band_height j r.y i.top_in (omega (arith, i.bottom_in, i.some_height)) in
      record {
        on = record { some_width = i.some_width; some_height = i.some_height; across = omega (arith, i.right_in); down = omega (arith, i.bottom_in, i.some_height, i.top_in) };
        one_band = rw e (omega (arith, i.bottom_in));
      }

  pub placed_fits : (r : DeviceRegion) → Placed screen r → Fit r
  placed_fits r p = record { wide = omega (arith, p.on.across, s.width_most); high = omega (arith, p.on.down, s.height_most) }

  pub band_fits : (j : ℕ) (r : DeviceRegion) → InBand (band_from screen (j * screen.band_height)) r → Fit r
  band_fits j r i = placed_fits r (band_placed j r i)

  module _ (l : List DeviceRegion) where
    above : (j : ℕ) → All (Above (j * screen.band_height)) (bands_to screen l j)
    unfolding bands_to Above
    above zero = all_none (Above (zero * screen.band_height))
    above (suc j) = all_append (Above (suc j * screen.band_height)) _ _
        (all_map (Above (j * screen.band_height)) (Above (suc j * screen.band_height)) (λ r f. (f.0, omega (arith, f.1, suc-mul j screen.band_height))) _ (above j))
        (all_map (InBand (band_from screen (j * screen.band_height))) (Above (suc j * screen.band_height)) (λ r i. (i.some_height, omega (arith, i.bottom_in, suc-mul j screen.band_height))) _ (all_in_band (band_from screen (j * screen.band_height)) l))

    placed_to : (j : ℕ) → All (Placed screen) (bands_to screen l j)
    unfolding bands_to
    placed_to zero = all_none (Placed screen)
    placed_to (suc j) = all_append (Placed screen) _ _ (placed_to j) (all_map (InBand (band_from screen (j * screen.band_height))) (Placed screen) (band_placed j) _ (all_in_band (band_from screen (j * screen.band_height)) l))

    clear_to : (j : ℕ) → Pairs (Clear screen.band_height) (bands_to screen l j)
    unfolding bands_to
    clear_to zero = pairs_none (Clear screen.band_height)
    clear_to (suc j) = pairs_append (Clear screen.band_height) _ _ (clear_to j)
        (pairs_map Sides (Clear screen.band_height) (sides_clear screen.band_height) _ (band_sides (band_from screen (j * screen.band_height)) l (band_fits j)))
        (across (Above (j * screen.band_height)) (InBand (band_from screen (j * screen.band_height))) (Clear screen.band_height) (above_clear screen j s.some_band) _ _ (above j) (all_in_band (band_from screen (j * screen.band_height)) l))

    before_to : (j : ℕ) → Pairs Before (bands_to screen l j)
    unfolding bands_to
    before_to zero = pairs_none Before
    before_to (suc j) = pairs_append Before _ _ (before_to j)
        (band_before (band_from screen (j * screen.band_height)) l (band_fits j))
        (across (λ r. Above (j * screen.band_height) r × (right r ≤ screen.width)) (InBand (band_from screen (j * screen.band_height))) Before (above_before screen j s.width_most) _ _
        (all_both (Above (j * screen.band_height)) (Placed screen) (λ r. Above (j * screen.band_height) r × (right r ≤ screen.width)) (λ r e p. (e, p.on.across)) _ (above j) (placed_to j)) (all_in_band (band_from screen (j * screen.band_height)) l))

    -- S2, S3 and the order: whatever the regions are, their schedule is schedulable
    pub schedulable : Schedulable screen (schedule_of screen l)
    schedulable = record { placed = placed_to (row_count screen.height screen.band_height); clear = clear_to (row_count screen.height screen.band_height); ascends = before_to (row_count screen.height screen.band_height) }

  -- ---- S1

  any_to : (P : DeviceRegion → Type 0) (l : List DeviceRegion) (j n : ℕ) → j < n → Any P (band_regions (band_from screen (j * screen.band_height)) l) → Any P (bands_to screen l n)
  unfolding bands_to
  any_to P l j zero g a = absurd (not-suc-le-zero g)
  any_to P l j (suc n) g a = by_le n j
      (λ k. let e : j ≡ n = omega arith in any_right P (bands_to screen l n) _ (subst (λ t. Any P (band_regions (band_from screen (t * screen.band_height)) l)) e a))
      (λ k. any_left P (bands_to screen l n) _ (any_to P l j n k a))

  -- a pixel of the screen that some region covers is covered by some scheduled region
  pub schedule_covers : (p q : ℕ) (l : List DeviceRegion) → p < screen.width → q < screen.height → Any (Covers p q) l → Any (Covers p q) (schedule_of screen l)
  schedule_covers p q l pw qh a =
      let d : q / screen.band_height * screen.band_height ≤ q = div-mul-le_self q screen.band_height in
      let u : q < q / screen.band_height * screen.band_height + screen.band_height = lt-div-mul-add s.some_band in
      any_to (Covers p q) l (q / screen.band_height) (row_count screen.height screen.band_height) (row_count_lem screen.height screen.band_height q s.some_band qh)
      (band_covers p q (band_from screen (q / screen.band_height * screen.band_height)) l (record { from_left = omega arith; to_right = omega arith; from_top = d; to_bottom = omega arith }) a)

-- ---- as a caller has it

-- two regions that are clear of each other share no pixel
pub no_share : (screen : Screen) (p q : ℕ) (r s : DeviceRegion) → Placed screen r → Placed screen s → Clear screen.band_height r s → Covers p q r → Covers p q s → ⊥
unfolding Clear
no_share screen p q r s f g c x y =
    let e : r.y / screen.band_height ≡ s.y / screen.band_height = sym (row_band screen q r f x.from_top x.to_bottom) ∙ row_band screen q s g y.from_top y.to_bottom in
    ⊎_elim (λ k. omega (arith, x.to_right, y.from_left, k)) (λ k. omega (arith, x.from_left, y.to_right, k)) (c e)
