-- S4: a schedule hangs on the set of the regions alone, not on their order and not on how often each is there (W-214). Assumes nothing.
use mathlib.Core.Path.{◌≡◌, refl, sym, ap, ◌∙◌, subst}
use mathlib.Core.Logic.{⊎_elim}
use mathlib.Core.List.{List, [], ◌∷◌, ◌++◌, map, map-append}
use Prim.Native.Nat.{ℕ, zero, suc, ◌*◌, ◌≤◌, ◌<◌}
use native.Mathlib.Omega.{arith}
use lib.Dec.{leb}
use Rattle.base_lists.specs.Pick.{pick}
use Rattle.base_lists.specs.Members.{All, Any, In}
use Rattle.base_lists.proofs.Picks.{by_le}
use Rattle.base_lists.proofs.Members.{any_right, in_mapped}
use Rattle.base_sorting.specs.Sort.{insert, sort, Ascending}
use Rattle.base_sorting.proofs.Sorts.{insert_le, insert_gt, sort_append_comm, any_sort}
use Rattle.base_sorting.proofs.Ascents.{asc_least, asc_rest, least_in, sort_asc}
use Rattle.compositor_device.specs.declared.DeviceRegion.{DeviceRegion}
use Rattle.compositor_device.specs.Region.{right, Fit, union}
use Rattle.compositor_device.proofs.Overlaps.{Overlap, part, by_overlap, union_self, union_again, union_reaches}
use Rattle.compositor_rows.specs.Rows.{row_count}
use Rattle.compositor_bands.specs.Bands.{cut_to, join_to, join, sort_by, merge_overlapping, band_regions}
use Rattle.compositor_bands.specs.Keys.{xy_key, yx_key, from_xy}
use Rattle.compositor_bands.proofs.Keyed.{from_xy_lem, sort_numbers}
use Rattle.compositor_bands.proofs.Joins.{join_in, join_out, merge_by_keys}
use Rattle.compositor_bands.proofs.Cuts.{cut_append, cut_in, cut_out, any_cut}
use Rattle.compositor_scheduler.specs.Schedule.{band_from, bands_to, schedule_of}
use Rattle.compositor_schedule_laws.proofs.OneBand.{InBand, cut_fits}
use Rattle.compositor_schedule_laws.proofs.AllBands.{band_fits}
use Rattle.compositor_screen.specs.declared.Screen.{Screen}
use Rattle.compositor_screen.proofs.Laws.{Fits}

-- ---- a region that joins twice

self_twice : (r : DeviceRegion) (l : List DeviceRegion) → join_to r (r ∷ l) ≡ join_to r l
self_twice r l = join_in r r l (omega arith) ∙ ap (λ t. join_to t l) (union_self r)

join_twice : (o r : DeviceRegion) (l : List DeviceRegion) → join_to o (r ∷ r ∷ l) ≡ join_to o (r ∷ l)
join_twice o r l = by_le r.x (right o)
    (λ h. join_in o r (r ∷ l) h ∙ join_in (union o r) r l (union_reaches o r) ∙ ap (λ t. join_to t l) (union_again o r) ∙ sym (join_in o r l h))
    (λ h. join_out o r (r ∷ l) h ∙ ap (λ t. o ∷ t) (self_twice r l) ∙ sym (join_out o r l h))

-- lists that join alike behind every open region join alike behind one more
join_behind : (o r : DeviceRegion) (l m : List DeviceRegion) → ((u : DeviceRegion) → join_to u l ≡ join_to u m) → join_to o (r ∷ l) ≡ join_to o (r ∷ m)
unfolding join_to
join_behind o r l m f = λ k. pick (leb r.x (right o)) (f (union o r) k) (o ∷ f r k)

-- ---- a number of an ascending list, put in once more

-- it goes to the front only where it is the first, and else it is one of the rest
first_is : (n m : ℕ) (l : List ℕ) → Ascending (m ∷ l) → In n (m ∷ l) → n ≤ m → n ≡ m
unfolding Any
first_is n m l s i g = ⊎_elim (λ e. e) (λ j. let k : m ≤ n = least_in m n l (asc_least m l s) j in omega arith) i

later_is : (n m : ℕ) (l : List ℕ) → In n (m ∷ l) → m < n → In n l
unfolding Any
later_is n m l i g = ⊎_elim (λ e. absurd (omega (arith, e))) (λ j. j) i

again_to : (o : DeviceRegion) (n : ℕ) (l : List ℕ) → Ascending l → In n l → join_to o (map from_xy (insert n l)) ≡ join_to o (map from_xy l)
unfolding Any
again_to o n [] s i = absurd i
again_to o n (m ∷ l) s i = by_le n m
    (λ g. ap (λ t. join_to o (map from_xy t)) (insert_le n m l g) ∙ ap (λ t. join_to o (from_xy t ∷ from_xy m ∷ map from_xy l)) (first_is n m l s i g) ∙ join_twice o (from_xy m) (map from_xy l))
    (λ g. ap (λ t. join_to o (map from_xy t)) (insert_gt n m l g) ∙ join_behind o (from_xy m) (map from_xy (insert n l)) (map from_xy l) (λ u. again_to u n l (asc_rest m l s) (later_is n m l i g)))

again : (n : ℕ) (l : List ℕ) → Ascending l → In n l → join (map from_xy (insert n l)) ≡ join (map from_xy l)
unfolding Any join
again n [] s i = absurd i
again n (m ∷ l) s i = by_le n m
    (λ g. ap (λ t. join (map from_xy t)) (insert_le n m l g) ∙ ap (λ t. join_to (from_xy t) (from_xy m ∷ map from_xy l)) (first_is n m l s i g) ∙ self_twice (from_xy m) (map from_xy l))
    (λ g. ap (λ t. join (map from_xy t)) (insert_gt n m l g) ∙ again_to (from_xy m) n l (asc_rest m l s) (later_is n m l i g))

sort_cons : (x : ℕ) (l : List ℕ) → sort (x ∷ l) ≡ insert x (sort l)
unfolding sort
sort_cons x l = refl

-- ---- regions, merged

-- merged by the sort of their numbers
merge_numbers : (l : List DeviceRegion) → All Fit l → merge_overlapping l ≡ sort_by yx_key (join (map from_xy (sort (map xy_key l))))
merge_numbers l f = merge_by_keys l f ∙ ap (λ t. sort_by yx_key (join t)) (sort_numbers xy_key from_xy from_xy_lem l f)

-- one that is there already changes nothing
merge_again : (r : DeviceRegion) (l : List DeviceRegion) → All Fit (r ∷ l) → All Fit l → In r l → merge_overlapping (r ∷ l) ≡ merge_overlapping l
merge_again r l f g i =
    merge_numbers (r ∷ l) f
    ∙ ap (sort_by yx_key) (ap (λ t. join (map from_xy t)) (sort_cons (xy_key r) (map xy_key l))
    ∙ again (xy_key r) (sort (map xy_key l)) (sort_asc (map xy_key l)) (any_sort (λ n. xy_key r ≡ n) (map xy_key l) (in_mapped xy_key r l i)))
    ∙ sym (merge_numbers l g)

-- two lists in a row merge alike in either order
merge_swap : (a b : List DeviceRegion) → All Fit (a ++ b) → All Fit (b ++ a) → merge_overlapping (a ++ b) ≡ merge_overlapping (b ++ a)
merge_swap a b f g =
    merge_numbers (a ++ b) f
    ∙ ap (λ t. sort_by yx_key (join (map from_xy t))) (ap sort (map-append xy_key a b) ∙ sort_append_comm (map xy_key a) (map xy_key b) ∙ ap sort (sym (map-append xy_key b a)))
    ∙ sym (merge_numbers (b ++ a) g)

-- ---- one band

module _ (band : DeviceRegion) (fit : (r : DeviceRegion) → InBand band r → Fit r) where
  band_again : (r : DeviceRegion) (l : List DeviceRegion) → In r l → band_regions band (r ∷ l) ≡ band_regions band l
  band_again r l i = by_overlap r band
      (λ o e. ap merge_overlapping (cut_in band r l o)
      ∙ merge_again (part r band) (cut_to band l) (subst (All Fit) (cut_in band r l o) (cut_fits band (r ∷ l) fit)) (cut_fits band l fit)
      (any_cut band (λ s. r ≡ s) (λ s. part r band ≡ s) (λ s q. subst (λ t. Overlap t band) q o) (λ s q. ap (λ t. part t band) q) l i))
      (λ e. ap merge_overlapping (cut_out band r l e))

  band_more : (a b : List DeviceRegion) → All (λ r. In r b) a → band_regions band (a ++ b) ≡ band_regions band b
  unfolding All
  band_more [] b h = refl
  band_more (r ∷ a) b h = band_again r (a ++ b) (any_right (λ s. r ≡ s) a b h.0) ∙ band_more a b h.1

  band_swap : (a b : List DeviceRegion) → band_regions band (a ++ b) ≡ band_regions band (b ++ a)
  band_swap a b =
      ap merge_overlapping (cut_append band a b)
      ∙ merge_swap (cut_to band a) (cut_to band b) (subst (All Fit) (cut_append band a b) (cut_fits band (a ++ b) fit)) (subst (All Fit) (cut_append band b a) (cut_fits band (b ++ a) fit))
      ∙ ap merge_overlapping (sym (cut_append band b a))

  band_alike : (a b : List DeviceRegion) → All (λ r. In r b) a → All (λ r. In r a) b → band_regions band a ≡ band_regions band b
  band_alike a b there back = sym (band_more b a back) ∙ band_swap b a ∙ band_more a b there

-- ---- all bands

module _ {screen : Screen} (s : Fits screen) (k l : List DeviceRegion) (there : All (λ r. In r l) k) (back : All (λ r. In r k) l) where
  alike_to : (j : ℕ) → bands_to screen k j ≡ bands_to screen l j
  unfolding bands_to
  alike_to zero = refl
  alike_to (suc j) = λ i. alike_to j i ++ band_alike (band_from screen (j * screen.band_height)) (band_fits s j) k l there back i

  -- S4: lists with the same members, in any order and any number, have the same schedule
  pub schedule_alike : schedule_of screen k ≡ schedule_of screen l
  schedule_alike = alike_to (row_count screen.height screen.band_height)
