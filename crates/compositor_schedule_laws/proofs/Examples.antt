-- Worked schedules, and lists that are schedulable and that are not: the laws speak of something. Assumes nothing.
use mathlib.Core.Path.{◌≡◌, refl, subst}
use mathlib.Core.Logic.{⊎_elim}
use mathlib.Core.List.{[], ◌∷◌}
use Prim.Native.Nat.{ℕ, ◌+◌, ◌*◌, ◌≤◌, ◌<◌}
use native.Mathlib.Omega.{arith}
use lib.Ieee.{lt, of_int}
use Rattle.base_lists.specs.Members.{All, Pairs}
use Rattle.base_floats.specs.Whole.{whole, floor, ceil}
use Rattle.kurbo_geometry.specs.declared.Rect.{Rect}
use Rattle.compositor_device.specs.declared.DeviceRegion.{DeviceRegion}
use Rattle.compositor_device.specs.Region.{between, intersect, union}
use Rattle.compositor_bands.specs.Bands.{regions_of, cut_to, insert_by, sort_by, join_to, join, merge_overlapping}
use Rattle.compositor_scheduler.specs.Schedule.{bands_to, schedule_of, schedule}
use Rattle.compositor_schedule_laws.specs.Placed.{Clear, Schedulable}
use Rattle.compositor_screen.specs.Sizes.{screen}
use Rattle.compositor_screen.proofs.Laws.{Fits}
use Rattle.compositor_schedule_laws.proofs.AllBands.{schedulable}

abbrev at : ℕ → ℕ → ℕ → ℕ → DeviceRegion
at x y w h = record { x = x; y = y; width = w; height = h }

-- a box by its corner and its sides
abbrev box : ℕ → ℕ → ℕ → ℕ → Rect
box x y w h = record { x0 = whole x; y0 = whole y; x1 = whole (x + w); y1 = whole (y + h) }

-- ---- document 01's starred cases, on a screen of 16 by 16 in one band

-- "One band, 0 0 4 4 and 4 8 4 4: 0 0 8 12."
pub touching_joined : schedule (screen 16 16 16) (box 0 0 4 4 ∷ box 4 8 4 4 ∷ []) ≡ at 0 0 8 12 ∷ []
unfolding bands_to merge_overlapping sort_by insert_by join join_to regions_of cut_to intersect union between floor ceil lt of_int
touching_joined = refl

-- "With 5 8 4 4: two regions."
pub apart_kept : schedule (screen 16 16 16) (box 0 0 4 4 ∷ box 5 8 4 4 ∷ []) ≡ at 0 0 4 4 ∷ at 5 8 4 4 ∷ []
unfolding bands_to merge_overlapping sort_by insert_by join join_to regions_of cut_to intersect union between floor ceil lt of_int
apart_kept = refl

-- "0 5 2 2 and 8 0 2 2: 8 0 first."
pub higher_first : schedule (screen 16 16 16) (box 0 5 2 2 ∷ box 8 0 2 2 ∷ []) ≡ at 8 0 2 2 ∷ at 0 5 2 2 ∷ []
unfolding bands_to merge_overlapping sort_by insert_by join join_to regions_of cut_to intersect union between floor ceil lt of_int
higher_first = refl

-- ---- others

-- a region that crosses a band edge is cut there, and the last band ends with the screen
pub cut_by_bands : schedule_of (screen 40 40 16) (at 10 14 7 4 ∷ at 0 30 1 10 ∷ []) ≡ at 10 14 7 2 ∷ at 10 16 7 2 ∷ at 0 30 1 2 ∷ at 0 32 1 8 ∷ []
unfolding bands_to merge_overlapping sort_by insert_by join join_to cut_to intersect union between
cut_by_bands = refl

sizes : Fits (screen 40 40 16)
sizes = record { some_width = omega arith; width_most = omega arith; some_height = omega arith; height_most = omega arith; some_band = omega arith; band_most = omega arith }

-- that schedule is schedulable
pub holds : Schedulable (screen 40 40 16) (at 10 14 7 2 ∷ at 10 16 7 2 ∷ at 0 30 1 2 ∷ at 0 32 1 8 ∷ [])
holds = subst (Schedulable (screen 40 40 16)) cut_by_bands (schedulable sizes (at 10 14 7 4 ∷ at 0 30 1 10 ∷ []))

-- regions that touch are not
pub touching_not : Schedulable (screen 40 40 16) (at 0 0 4 4 ∷ at 4 8 4 4 ∷ []) → ⊥
unfolding All Pairs Clear
touching_not S = ⊎_elim (λ (k : 4 < 4). omega arith) (λ (k : 8 < 0). omega arith) (S.clear.0.0 refl)

-- nor is one that crosses a band edge
pub crossing_not : Schedulable (screen 40 40 16) (at 10 14 7 4 ∷ []) → ⊥
unfolding All
crossing_not S = let k : 18 ≤ 16 = S.placed.0.one_band in omega arith

-- nor are regions that descend
pub descending_not : Schedulable (screen 40 40 16) (at 8 5 2 2 ∷ at 0 0 2 2 ∷ []) → ⊥
unfolding All Pairs
descending_not S = let k : 5 * 65536 + 8 < 0 = S.ascends.0.0 in omega arith
