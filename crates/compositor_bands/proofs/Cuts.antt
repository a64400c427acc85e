-- What holds of the regions of boxes, of regions cut to a band, and of a band's regions. Assumes nothing.
use Rattle.std.proofs.Common.{Option, Some, None}
use mathlib.Core.Path.{◌≡◌, refl, sym, ap, ◌∙◌, subst}
use mathlib.Core.Logic.{inl, inr, ⊎_elim}
use mathlib.Core.List.{List, [], ◌∷◌, ◌++◌}
use Prim.Native.Nat.{ℕ, ◌≤◌, ◌<◌}
use native.Mathlib.Omega.{arith}
use lib.ListN.{length}
use Rattle.base_lists.specs.Members.{All, Any}
use Rattle.kurbo_geometry.specs.declared.Rect.{Rect}
use Rattle.compositor_device.specs.declared.DeviceRegion.{DeviceRegion}
use Rattle.compositor_device.specs.Region.{right, bottom, Fit, from_logical, intersect, union}
use Rattle.compositor_device.proofs.Regions.{OnScreen, on_screen}
use Rattle.compositor_device.proofs.Overlaps.{Overlap, part, overlap_part, by_overlap, part_fit, union_fit}
use Rattle.compositor_bands.specs.Bands.{unless_nothing, regions_of, cut_to, sort_by, xy, yx, join, merge_overlapping, band_regions}
use Rattle.compositor_bands.proofs.Sorted.{all_sort, length_sort}
use Rattle.compositor_bands.proofs.Joins.{all_join, join_gap, sort_by_x, xy_leftward, few}

-- ---- a region, unless it is nothing

pub unless_append : (c : Option DeviceRegion) (l r : List DeviceRegion) → unless_nothing c (l ++ r) ≡ unless_nothing c l ++ r
unless_append (Some p) l r = refl
unless_append None l r = refl

-- ---- the regions of boxes

pub regions_append : (w h : ℕ) (l r : List Rect) → regions_of w h (l ++ r) ≡ regions_of w h l ++ regions_of w h r
unfolding regions_of
regions_append w h [] r = refl
regions_append w h (b ∷ l) r = ap (unless_nothing (from_logical b w h)) (regions_append w h l r) ∙ unless_append (from_logical b w h) (regions_of w h l) (regions_of w h r)

-- what every region has that lies on the screen and has pixels, the regions of boxes have
pub all_regions : (P : DeviceRegion → Type 0) (w h : ℕ) → ((r : DeviceRegion) → 0 < r.width → 0 < r.height → right r ≤ w → bottom r ≤ h → P r) → (l : List Rect) → All P (regions_of w h l)
unfolding All regions_of
all_regions P w h f [] = tt
all_regions P w h f (b ∷ l) = go (from_logical b w h) (on_screen b w h) (all_regions P w h f l)
  where
    go : (c : Option DeviceRegion) → OnScreen c w h → All P (regions_of w h l) → All P (unless_nothing c (regions_of w h l))
    go (Some r) o a = (f r o.0 o.1 o.2 o.3, a)
    go None o a = a

-- what a box converts to is within 16 bits
pub region_fits : (b : Rect) (w h : ℕ) → w ≤ 32768 → h ≤ 32768 → (c : Option DeviceRegion) → c ≡ from_logical b w h → (r : DeviceRegion) → c ≡ Some r → Fit r
region_fits b w h wh hh c e r q =
    let o : OnScreen (Some r) w h = subst (λ t. OnScreen t w h) (sym e ∙ q) (on_screen b w h) in
    record { wide = omega (arith, o.2); high = omega (arith, o.3) }

pub regions_fit : (w h : ℕ) → w ≤ 32768 → h ≤ 32768 → (l : List Rect) → All Fit (regions_of w h l)
regions_fit w h wh hh l = all_regions Fit w h (λ r a b c d. record { wide = omega arith; high = omega arith }) l

-- ---- the cut

pub cut_append : (band : DeviceRegion) (l r : List DeviceRegion) → cut_to band (l ++ r) ≡ cut_to band l ++ cut_to band r
unfolding cut_to
cut_append band [] r = refl
cut_append band (q ∷ l) r = ap (unless_nothing (intersect q band)) (cut_append band l r) ∙ unless_append (intersect q band) (cut_to band l) (cut_to band r)

pub cut_in : (band r : DeviceRegion) (l : List DeviceRegion) → Overlap r band → cut_to band (r ∷ l) ≡ part r band ∷ cut_to band l
unfolding cut_to
cut_in band r l o = ap (λ c. unless_nothing c (cut_to band l)) (overlap_part r band o)

pub cut_out : (band r : DeviceRegion) (l : List DeviceRegion) → intersect r band ≡ None → cut_to band (r ∷ l) ≡ cut_to band l
unfolding cut_to
cut_out band r l e = ap (λ c. unless_nothing c (cut_to band l)) e

pub cut_none : (band : DeviceRegion) → cut_to band [] ≡ []
unfolding cut_to
cut_none band = refl

-- what the parts have that overlap the band, all have
pub all_cut : (band : DeviceRegion) (P Q : DeviceRegion → Type 0) → ((r : DeviceRegion) → P r → Overlap r band → Q (part r band)) → (l : List DeviceRegion) → All P l → All Q (cut_to band l)
unfolding All
all_cut band P Q f [] h = rw (cut_none band) tt
all_cut band P Q f (r ∷ l) h = by_overlap r band
    (λ o e. rw (cut_in band r l o) (f r h.0 o, all_cut band P Q f l h.1))
    (λ e. rw (cut_out band r l e) (all_cut band P Q f l h.1))

-- a region that overlaps the band leaves its part
pub any_cut : (band : DeviceRegion) (P Q : DeviceRegion → Type 0) → ((r : DeviceRegion) → P r → Overlap r band) → ((r : DeviceRegion) → P r → Q (part r band)) → (l : List DeviceRegion) → Any P l → Any Q (cut_to band l)
unfolding Any
any_cut band P Q f g [] h = absurd h
any_cut band P Q f g (r ∷ l) h = ⊎_elim
    (λ x. rw (cut_in band r l (f r x)) (inl (g r x)))
    (λ x. by_overlap r band
    (λ o e. rw (cut_in band r l o) (inr (any_cut band P Q f g l x)))
    (λ e. rw (cut_out band r l e) (any_cut band P Q f g l x)))
    h

pub cut_fit : (band : DeviceRegion) (l : List DeviceRegion) → All Fit l → All Fit (cut_to band l)
cut_fit band l f = all_cut band Fit Fit (λ r. part_fit r band) l f

-- what stands for the cut of boxes' regions is within 16 bits
pub filled_fit : (band : DeviceRegion) (w h : ℕ) (rects : List Rect) (l : List DeviceRegion) → w ≤ 32768 → h ≤ 32768 → l ≡ cut_to band (regions_of w h rects) → All Fit l
filled_fit band w h rects l wh hh e = subst (All Fit) (sym e) (cut_fit band (regions_of w h rects) (regions_fit w h wh hh rects))

-- ---- a band's regions

-- the cut regions, merged
pub band_merged : (band : DeviceRegion) (rs l m : List DeviceRegion) → m ≡ merge_overlapping l → l ≡ cut_to band rs → m ≡ band_regions band rs
band_merged band rs l m e f = e ∙ ap merge_overlapping f

starts_before : (w : ℕ) (o r : DeviceRegion) → o.x < w → r.x < w → (union o r).x < w
unfolding union
starts_before w o r h g = omega arith

-- a band has no more regions than columns
pub band_few : (band : DeviceRegion) (l : List DeviceRegion) → All Fit l → length (band_regions band l) ≤ right band
unfolding merge_overlapping
band_few band l f =
    let x : All (λ r. r.x < right band) (cut_to band l) = all_cut band Fit (λ r. r.x < right band) (λ r g o. omega (arith, o.across)) l f in
    let n = few (right band) (join (sort_by xy (cut_to band l))) (all_join (λ r. r.x < right band) (starts_before (right band)) _ (all_sort xy (λ r. r.x < right band) _ x)) (join_gap _ (sort_by_x xy xy_leftward _ (cut_fit band l f))) in
    omega (arith, n, length_sort yx (join (sort_by xy (cut_to band l))))

pub band_fit : (band : DeviceRegion) (l : List DeviceRegion) → All Fit l → All Fit (band_regions band l)
unfolding merge_overlapping
band_fit band l f = all_sort yx Fit _ (all_join Fit union_fit _ (all_sort xy Fit _ (cut_fit band l f)))
