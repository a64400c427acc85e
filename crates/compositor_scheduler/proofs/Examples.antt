-- The definitions of a schedule at small lists. Assumes nothing.
use mathlib.Core.Path.{◌≡◌, refl}
use mathlib.Core.List.{[], ◌∷◌}
use Prim.Native.Nat.{ℕ}
use Rattle.compositor_device.specs.declared.DeviceRegion.{DeviceRegion}
use Rattle.compositor_device.specs.Region.{between, intersect, union}
use Rattle.compositor_screen.specs.Sizes.{screen}
use Rattle.compositor_bands.specs.Bands.{cut_to, insert_by, sort_by, join_to, join, merge_overlapping}
use Rattle.std.proofs.Common.{Some, None}
use Rattle.compositor_scheduler.specs.Schedule.{bands_to, schedule_of, pixels_of, words_of_regions, totals_of}

abbrev at : ℕ → ℕ → ℕ → ℕ → DeviceRegion
at x y w h = record { x = x; y = y; width = w; height = h }

-- three regions of a screen of 40 by 40 in bands of 16: the first two touch, the third crosses two band edges
bands : schedule_of (screen 40 40 16) (at 0 0 4 4 ∷ at 4 8 4 4 ∷ at 20 15 1 18 ∷ []) ≡ at 0 0 8 12 ∷ at 20 15 1 1 ∷ at 20 16 1 16 ∷ at 20 32 1 1 ∷ []
unfolding bands_to merge_overlapping sort_by insert_by join join_to cut_to intersect union between
bands = refl

-- their words and their pixels
words : words_of_regions (at 0 0 8 12 ∷ at 20 15 1 1 ∷ []) ≡ 0 ∷ 0 ∷ 8 ∷ 12 ∷ 20 ∷ 15 ∷ 1 ∷ 1 ∷ []
unfolding words_of_regions
words = refl

-- eight words are room for two regions
room : totals_of (at 0 0 8 12 ∷ at 20 15 1 1 ∷ []) 8 ≡ Some (record { regions = 2; pixels = 97 })
unfolding pixels_of
room = refl

-- seven are not
no_room : totals_of (at 0 0 8 12 ∷ at 20 15 1 1 ∷ []) 7 ≡ None
no_room = refl

-- and no region needs none
none : totals_of [] 0 ≡ Some (record { regions = 0; pixels = 0 })
unfolding pixels_of
none = refl
