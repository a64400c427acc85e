-- S5: a schedulable list is its own schedule, and so every schedule is. Assumes nothing.
use mathlib.Core.Path.{◌≡◌, refl, sym, ap, ◌∙◌, subst}
use mathlib.Core.Logic.{⊎_elim}
use mathlib.Core.Bool.{Bool, true, false}
use mathlib.Core.List.{List, [], ◌∷◌, ◌++◌}
use Prim.Native.Nat.{ℕ, zero, suc, ◌+◌, ◌-◌, ◌*◌, ◌/◌, ◌≤◌, ◌<◌, min, max}
use native.Mathlib.Omega.{arith}
use native.Mathlib.Nat.{suc-mul, mul-le-mul_right, le-div_iff_mul-le, div-mul-le_self}
use borrow.Author.Tests.{lt-ltb, le-ltb, eq-eqb, ne_eqb, eqb-true, lt-leb}
use lib.Dec.{ltb, eqb}
use lib.ListN.{take, drop}
use Rattle.base_lists.specs.Members.{All, Pairs}
use Rattle.base_lists.proofs.Picks.{by_le}
use Rattle.base_lists.proofs.Members.{all_map, pairs_with, pairs_both, all_take, all_drop, pairs_take, pairs_drop}
use Rattle.compositor_device.specs.declared.DeviceRegion.{DeviceRegion}
use Rattle.compositor_device.specs.Region.{right, bottom, Fit}
use Rattle.compositor_device.proofs.Overlaps.{part, above_nothing}
use Rattle.compositor_rows.specs.Rows.{row_count}
use Rattle.compositor_bands.specs.Bands.{cut_to, insert_by, sort_by, join_to, join, merge_overlapping, band_regions, Gap}
use Rattle.compositor_bands.specs.Keys.{pack, xy_key, yx_key, from_yx}
use Rattle.compositor_bands.proofs.Sorted.{insert_le, pairs_sort, Rises}
use Rattle.compositor_bands.proofs.Keyed.{from_yx_lem, sort_over}
use Rattle.compositor_bands.proofs.Joins.{ByX, sort_by_x, xy_key_leftward, merge_by_keys}
use Rattle.compositor_bands.proofs.Cuts.{cut_none, cut_in, cut_out}
use Rattle.compositor_scheduler.specs.Schedule.{band_from, bands_to, schedule_of}
use Rattle.compositor_schedule_laws.specs.Placed.{Placed, Clear, Before, Schedulable}
use Rattle.compositor_schedule_laws.proofs.OneBand.{Sides, sides_flip}
use Rattle.compositor_schedule_laws.proofs.AllBands.{row_count_lem, placed_fits, schedulable}
use Rattle.compositor_schedule_laws.proofs.Sifts.{sift, sift_empty, sift_yes, sift_no, sift_all, sift_none, all_sift, pairs_sift, sift_next}
use Rattle.compositor_screen.specs.declared.Screen.{Screen}
use Rattle.compositor_screen.proofs.Laws.{Fits}

-- ---- regions with a column between each two join to themselves

apart_to : (o : DeviceRegion) (l : List DeviceRegion) → All (Gap o) l → Pairs Gap l → join_to o l ≡ o ∷ l
unfolding All Pairs join_to
apart_to o [] f g = refl
apart_to o (r ∷ l) f g = rw (lt-leb r.x (right o) f.0) (ap (λ t. o ∷ t) (apart_to r l g.0 g.1))

apart : (l : List DeviceRegion) → Pairs Gap l → join l ≡ l
unfolding Pairs join
apart [] g = refl
apart (r ∷ l) g = apart_to r l g.0 g.1

-- ---- a list that ascends is its own sort

insert_first : {A : Type 0} (key : A → ℕ) (a : A) (l : List A) → All (Rises key a) l → insert_by key a l ≡ a ∷ l
unfolding All insert_by
insert_first key a [] h = refl
insert_first key a (b ∷ l) h = insert_le key a b l h.0

own_sort : {A : Type 0} (key : A → ℕ) (l : List A) → Pairs (Rises key) l → sort_by key l ≡ l
unfolding Pairs sort_by
own_sort key [] h = refl
own_sort key (a ∷ l) h = ap (insert_by key a) (own_sort key l h.1) ∙ insert_first key a l h.0

before_key : (r s : DeviceRegion) → Fit r → Fit s → Before r s → Rises yx_key r s
unfolding pack
before_key r s f g h = omega (arith, f.wide, f.high, g.wide, g.high)

-- ---- regions of one band

sides_gap : (r s : DeviceRegion) → Sides r s → ByX r s → Gap r s
sides_gap r s e x = ⊎_elim (λ k. k) (λ k. absurd (omega (arith, k, x))) e

merge_own : (m : List DeviceRegion) → All Fit m → Pairs Sides m → Pairs Before m → merge_overlapping m ≡ m
merge_own m f g o =
    let p : Pairs Gap (sort_by xy_key m) = pairs_both Sides ByX Gap sides_gap _ (pairs_sort xy_key Sides sides_flip m g) (sort_by_x xy_key xy_key_leftward m f) in
    merge_by_keys m f ∙ ap (sort_by yx_key) (apart (sort_by xy_key m) p) ∙ sort_over yx_key from_yx from_yx_lem xy_key m f
    ∙ own_sort yx_key m (pairs_with Fit Before (Rises yx_key) before_key m f o)

-- ---- the cut of a schedulable list

part_whole : (band r : DeviceRegion) → band.x ≤ r.x → right r ≤ right band → band.y ≤ r.y → bottom r ≤ bottom band → part r band ≡ r
part_whole band r a b c d = λ k. record { x = low r.x band.x a k; y = low r.y band.y c k; width = side r.x r.width band.x (right band) a b k; height = side r.y r.height band.y (bottom band) c d k }
  where
    low : (x y : ℕ) → y ≤ x → max x y ≡ x
    low x y h = omega arith

    side : (x n y e : ℕ) → y ≤ x → x + n ≤ e → min (x + n) e - max x y ≡ n
    side x n y e h g = omega arith

module _ {screen : Screen} (s : Fits screen) where
  abbrev in_band : ℕ → DeviceRegion → Bool
  in_band j r = eqb (r.y / screen.band_height) j

  -- the regions of band j are those whose first row it has, as they are
  cut_sift : (j : ℕ) (l : List DeviceRegion) → All (Placed screen) l → cut_to (band_from screen (j * screen.band_height)) l ≡ sift (in_band j) l
  unfolding All
  cut_sift j [] p = cut_none (band_from screen (j * screen.band_height)) ∙ sym (sift_empty (in_band j))
  cut_sift j (r ∷ l) p = by_le (r.y / screen.band_height) j
      (λ g. by_le j (r.y / screen.band_height)
      (λ k. let e : r.y / screen.band_height ≡ j = omega arith in
      let u : j * screen.band_height ≤ r.y = subst (λ t. t * screen.band_height ≤ r.y) e (div-mul-le_self r.y screen.band_height) in
      let v : bottom r ≤ j * screen.band_height + screen.band_height = subst (λ t. bottom r ≤ t * screen.band_height + screen.band_height) e p.0.one_band in
      let d : bottom r ≤ screen.height = p.0.on.down in
      let n : 0 < r.height = p.0.on.some_height in
      let c : right r ≤ screen.width = p.0.on.across in
      let m : 0 < r.width = p.0.on.some_width in
      cut_in (band_from screen (j * screen.band_height)) r l (record { across = omega arith; down = omega arith })
      ∙ (λ i. part_whole (band_from screen (j * screen.band_height)) r (omega arith) (omega arith) u (omega arith) i ∷ cut_sift j l p.1 i)
      ∙ sym (sift_yes (in_band j) r l (eq-eqb (r.y / screen.band_height) j e)))
      (λ k. let m : suc (r.y / screen.band_height) * screen.band_height ≤ j * screen.band_height = mul-le-mul_right screen.band_height k in
      cut_out (band_from screen (j * screen.band_height)) r l (above_nothing r (band_from screen (j * screen.band_height)) (omega (arith, p.0.one_band, suc-mul (r.y / screen.band_height) screen.band_height)))
      ∙ cut_sift j l p.1
      ∙ sym (sift_no (in_band j) r l (ne_eqb (r.y / screen.band_height) j (λ z. omega arith)))))
      (λ g. let m : suc j * screen.band_height ≤ r.y / screen.band_height * screen.band_height = mul-le-mul_right screen.band_height g in
      cut_out (band_from screen (j * screen.band_height)) r l (above_nothing r (band_from screen (j * screen.band_height)) (omega (arith, div-mul-le_self r.y screen.band_height, suc-mul j screen.band_height)))
      ∙ cut_sift j l p.1
      ∙ sym (sift_no (in_band j) r l (ne_eqb (r.y / screen.band_height) j (λ z. omega arith))))

  -- what comes before by (y, x) is in no later band
  pub before_band : (r q : DeviceRegion) → Fit r → Fit q → Before r q → r.y / screen.band_height ≤ q.y / screen.band_height
  before_band r q f g o = (le-div_iff_mul-le {k = screen.band_height} {x = r.y / screen.band_height} {y = q.y} s.some_band).1 (omega (arith, div-mul-le_self r.y screen.band_height, f.wide, g.wide, o))

  module _ (l : List DeviceRegion) (S : Schedulable screen l) where
    all_fit : All Fit l
    all_fit = all_map (Placed screen) Fit (placed_fits s) l S.placed

    sides_in : (j : ℕ) → Pairs Sides (sift (in_band j) l)
    unfolding Clear
    sides_in j = pairs_with (λ r. r.y / screen.band_height ≡ j) (Clear screen.band_height) Sides (λ r q e f c. c (e ∙ sym f)) _
        (all_sift (in_band j) Fit (λ r. r.y / screen.band_height ≡ j) (λ r f e. eqb-true (r.y / screen.band_height) j e) l all_fit) (pairs_sift (in_band j) (Clear screen.band_height) l S.clear)

    band_own : (j : ℕ) → band_regions (band_from screen (j * screen.band_height)) l ≡ sift (in_band j) l
    band_own j = ap merge_overlapping (cut_sift j l S.placed)
        ∙ merge_own _ (all_sift (in_band j) Fit Fit (λ r f e. f) l all_fit) (sides_in j) (pairs_sift (in_band j) Before l S.ascends)

    own_to : (j : ℕ) → bands_to screen l j ≡ sift (λ r. ltb (r.y / screen.band_height) j) l
    unfolding bands_to
    own_to zero = sym (sift_none (λ r. ltb (r.y / screen.band_height) 0) l (all_map Fit (λ r. ltb (r.y / screen.band_height) 0 ≡ false) (λ r f. le-ltb (r.y / screen.band_height) 0 (omega arith)) l all_fit))
    own_to (suc j) = (λ k. own_to j k ++ band_own j k) ∙ sift_next (λ r. r.y / screen.band_height) j l (pairs_with Fit Before (λ r q. r.y / screen.band_height ≤ q.y / screen.band_height) before_band l all_fit S.ascends)

    -- S5
    pub own : schedule_of screen l ≡ l
    own = own_to (row_count screen.height screen.band_height)
        ∙ sift_all (λ r. ltb (r.y / screen.band_height) (row_count screen.height screen.band_height)) l
        (all_map (Placed screen) (λ r. ltb (r.y / screen.band_height) (row_count screen.height screen.band_height) ≡ true) (λ r p. lt-ltb (r.y / screen.band_height) (row_count screen.height screen.band_height) (row_count_lem screen.height screen.band_height r.y s.some_band (omega (arith, p.on.down, p.on.some_height)))) l S.placed)

  -- scheduling a schedule gives it back
  pub twice : (l : List DeviceRegion) → schedule_of screen (schedule_of screen l) ≡ schedule_of screen l
  twice l = own (schedule_of screen l) (schedulable s l)

  -- a list that is its own schedule is schedulable: with `own`, the two say the same
  pub own_back : (l : List DeviceRegion) → schedule_of screen l ≡ l → Schedulable screen l
  own_back l e = subst (Schedulable screen) e (schedulable s l)

-- ---- parts of a schedulable list

module _ {screen : Screen} (l : List DeviceRegion) (S : Schedulable screen l) where
  -- the regions that pass a test
  pub sift_schedulable : (t : DeviceRegion → Bool) → Schedulable screen (sift t l)
  sift_schedulable t = record { placed = all_sift t (Placed screen) (Placed screen) (λ r p e. p) l S.placed; clear = pairs_sift t (Clear screen.band_height) l S.clear; ascends = pairs_sift t Before l S.ascends }

  -- the first n, and what is left behind them
  pub take_schedulable : (n : ℕ) → Schedulable screen (take n l)
  take_schedulable n = record { placed = all_take (Placed screen) n l S.placed; clear = pairs_take (Clear screen.band_height) n l S.clear; ascends = pairs_take Before n l S.ascends }

  pub drop_schedulable : (n : ℕ) → Schedulable screen (drop n l)
  drop_schedulable n = record { placed = all_drop (Placed screen) n l S.placed; clear = pairs_drop (Clear screen.band_height) n l S.clear; ascends = pairs_drop Before n l S.ascends }
