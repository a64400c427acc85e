-- The regions of a band are the runs of columns that its cut regions cover, each with their least top and greatest bottom. Assumes nothing.
use mathlib.Core.Path.{◌≡◌, refl, ◌∙◌}
use mathlib.Core.Logic.{◌⊎◌, inl, inr, ⊎_elim}
use mathlib.Core.List.{List, [], ◌∷◌}
use native.Mathlib.Omega.{arith}
use Prim.Native.Nat.{ℕ, ◌≤◌}
use borrow.Author.Tests.{le-leb, lt-leb}
use Rattle.base_lists.specs.Members.{All, Any, Pairs, In}
use Rattle.base_lists.proofs.Picks.{by_le}
use Rattle.base_lists.proofs.Members.{all_map, all_of, any_map, in_any}
use Rattle.compositor_device.specs.declared.DeviceRegion.{DeviceRegion}
use Rattle.compositor_device.specs.Region.{right, bottom, Fit, union}
use Rattle.compositor_bands.specs.Bands.{cut_to, sort_by, xy, yx, join_to, join, merge_overlapping, band_regions}
use Rattle.compositor_bands.proofs.Sorted.{all_sort, any_sort}
use Rattle.compositor_bands.proofs.Joins.{ByX, left_kept, any_join, sort_by_x, xy_leftward}
use Rattle.compositor_schedule_laws.specs.Placed.{Column, Inside, Run}
use Rattle.compositor_schedule_laws.proofs.OneBand.{InBand, cut_fits}

-- what two regions that touch hand on to their union, all hand on to the join
module _ (P : DeviceRegion → Type 0) (both : (o r : DeviceRegion) → o.x ≤ r.x → r.x ≤ right o → P o → P r → P (union o r)) where
  run_join_to : (o : DeviceRegion) (l : List DeviceRegion) → All (ByX o) l → Pairs ByX l → P o → All P l → All P (join_to o l)
  unfolding All Pairs join_to
  run_join_to o [] f s p h = (p, tt)
  run_join_to o (r ∷ l) f s p h = by_le r.x (right o)
      (λ g. rw (le-leb r.x (right o) g) (run_join_to (union o r) l (all_map (ByX o) (ByX (union o r)) (left_kept o r) l f.1) s.1 (both o r f.0 g p h.0) h.1))
      (λ g. rw (lt-leb r.x (right o) g) (p, run_join_to r l s.0 s.1 h.0 h.1))

  run_join : (l : List DeviceRegion) → Pairs ByX l → All P l → All P (join l)
  unfolding All Pairs join
  run_join [] s h = tt
  run_join (r ∷ l) s h = run_join_to r l s.0 s.1 h.0 h.1

-- ---- what a union has of the two

inside_self : (r : DeviceRegion) → Inside r r
inside_self r = record { in_left = omega arith; in_right = omega arith; in_top = omega arith; in_bottom = omega arith }

inside_first : (g o r : DeviceRegion) → Inside g o → Inside g (union o r)
unfolding union
inside_first g o r i = record { in_left = omega (arith, i.in_left); in_right = omega (arith, i.in_right); in_top = omega (arith, i.in_top); in_bottom = omega (arith, i.in_bottom) }

inside_second : (g o r : DeviceRegion) → Inside g r → Inside g (union o r)
unfolding union
inside_second g o r i = record { in_left = omega (arith, i.in_left); in_right = omega (arith, i.in_right); in_top = omega (arith, i.in_top); in_bottom = omega (arith, i.in_bottom) }

-- where the second starts within the first's reach, a column of the union is one of the two
union_column : (o r : DeviceRegion) → o.x ≤ r.x → r.x ≤ right o → (c : ℕ) → Column c (union o r) → Column c o ⊎ Column c r
unfolding union
union_column o r h g c k = by_le (right o) c
    (λ u. inr (omega arith, omega (arith, k.1)))
    (λ u. inl (omega (arith, k.0), u))

union_top : (o r : DeviceRegion) → (o.y ≡ (union o r).y) ⊎ (r.y ≡ (union o r).y)
unfolding union
union_top o r = by_le o.y r.y (λ h. inl (omega arith)) (λ h. inr (omega arith))

union_bottom : (o r : DeviceRegion) → (bottom o ≡ bottom (union o r)) ⊎ (bottom r ≡ bottom (union o r))
unfolding union
union_bottom o r = by_le (bottom r) (bottom o) (λ h. inl (omega arith)) (λ h. inr (omega arith))

-- ---- runs

module _ (l : List DeviceRegion) where
  run_union : (o r : DeviceRegion) → o.x ≤ r.x → r.x ≤ right o → Run l o → Run l r → Run l (union o r)
  run_union o r h g a b = record {
    columns = λ c k. ⊎_elim (λ x. a.columns c x) (λ x. b.columns c x) (union_column o r h g c k);
    least_top = ⊎_elim
        (λ e. any_map (λ q. Inside q o × (q.y ≡ o.y)) (λ q. Inside q (union o r) × (q.y ≡ (union o r).y)) (λ q x. (inside_first q o r x.0, x.1 ∙ e)) l a.least_top)
        (λ e. any_map (λ q. Inside q r × (q.y ≡ r.y)) (λ q. Inside q (union o r) × (q.y ≡ (union o r).y)) (λ q x. (inside_second q o r x.0, x.1 ∙ e)) l b.least_top)
        (union_top o r);
    most_bottom = ⊎_elim
        (λ e. any_map (λ q. Inside q o × (bottom q ≡ bottom o)) (λ q. Inside q (union o r) × (bottom q ≡ bottom (union o r))) (λ q x. (inside_first q o r x.0, x.1 ∙ e)) l a.most_bottom)
        (λ e. any_map (λ q. Inside q r × (bottom q ≡ bottom r)) (λ q. Inside q (union o r) × (bottom q ≡ bottom (union o r))) (λ q x. (inside_second q o r x.0, x.1 ∙ e)) l b.most_bottom)
        (union_bottom o r);
  }

  run_self : (r : DeviceRegion) → In r l → Run l r
  run_self r i = record {
    columns = λ c k. in_any (Column c) r l i k;
    least_top = in_any (λ q. Inside q r × (q.y ≡ r.y)) r l i (inside_self r, refl);
    most_bottom = in_any (λ q. Inside q r × (bottom q ≡ bottom r)) r l i (inside_self r, refl);
  }

module _ (band : DeviceRegion) (l : List DeviceRegion) where
  -- each region of a band is a run of the cut regions
  pub band_runs : ((r : DeviceRegion) → InBand band r → Fit r) → All (Run (cut_to band l)) (band_regions band l)
  unfolding merge_overlapping
  band_runs fit = all_sort yx (Run (cut_to band l)) _ (run_join (Run (cut_to band l)) (run_union (cut_to band l)) _ (sort_by_x xy xy_leftward _ (cut_fits band l fit))
      (all_sort xy (Run (cut_to band l)) _ (all_of (Run (cut_to band l)) (cut_to band l) (run_self (cut_to band l)))))

  -- each cut region lies in one of them; `band_sides` says that there is a column between each two
  pub band_holds : All (λ g. Any (Inside g) (band_regions band l)) (cut_to band l)
  unfolding merge_overlapping
  band_holds = all_of (λ g. Any (Inside g) (sort_by yx (join (sort_by xy (cut_to band l))))) (cut_to band l) (λ g i.
      any_sort yx (Inside g) _ (any_join (Inside g) (inside_first g) (inside_second g) _ (any_sort xy (Inside g) _ (in_any (Inside g) g (cut_to band l) i (inside_self g)))))
