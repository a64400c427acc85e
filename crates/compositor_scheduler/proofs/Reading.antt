-- Regions as words, read back: the list is the one that was written, whatever words follow. Assumes nothing.
use mathlib.Core.Path.{◌≡◌, refl}
use mathlib.Core.List.{List, [], ◌∷◌, ◌++◌}
use Prim.Native.Nat.{ℕ, zero, suc, ◌+◌, ◌*◌, ◌<◌}
use native.Mathlib.Omega.{arith}
use lib.ListN.{length, get_or}
use Rattle.base_lists.proofs.Tables.{table_is}
use Rattle.compositor_device.specs.declared.DeviceRegion.{DeviceRegion}
use Rattle.compositor_scheduler.specs.Schedule.{words_of_regions, region_in, regions_to}

region_at : (l : List DeviceRegion) (rest : List ℕ) (i : ℕ) (d : DeviceRegion) → i < length l → region_in (words_of_regions l ++ rest) i ≡ get_or l i d
unfolding words_of_regions region_in
region_at [] rest i d h = absurd (omega arith)
region_at (r ∷ l) rest zero d h = refl
region_at (r ∷ l) rest (suc i) d h =
    let z : 4 * suc i ≡ suc (suc (suc (suc (4 * i)))) = omega arith in
    let a : 4 * suc i + 1 ≡ suc (suc (suc (suc (4 * i + 1)))) = omega arith in
    let b : 4 * suc i + 2 ≡ suc (suc (suc (suc (4 * i + 2)))) = omega arith in
    let c : 4 * suc i + 3 ≡ suc (suc (suc (suc (4 * i + 3)))) = omega arith in
    rw (a, b, c, z) (region_at l rest i d (omega arith))

pub regions_back : (l : List DeviceRegion) (rest : List ℕ) → regions_to (words_of_regions l ++ rest) (length l) ≡ l
regions_back l rest =
    let d : DeviceRegion = record { x = 0; y = 0; width = 0; height = 0 } in
    table_is (region_in (words_of_regions l ++ rest)) l d (λ i h. region_at l rest i d h)
