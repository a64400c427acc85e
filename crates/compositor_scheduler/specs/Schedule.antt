-- A schedule, as document 01's compositor.rs has it: "bands from the top, the last cut to the screen; in each" what `compositor_bands` says.
-- "Counts: regions, and pixels as the sum of width times height".
use Rattle.std.specs.Prelude.{◌≡◌, ℕ, zero, suc, ◌+◌, ◌-◌, ◌*◌, ◌/◌, ◌≤◌, min, List, [], ◌∷◌, ◌++◌, leb, length, drop, get_or, Option, Some, None}
use Rattle.base_lists.specs.Pick.{pick}
use Rattle.base_lists.specs.Tables.{tabulate}
use Rattle.kurbo_geometry.specs.declared.Rect.{Rect}
use Rattle.compositor_device.specs.declared.DeviceRegion.{DeviceRegion}
use Rattle.compositor_device.specs.Region.{area}
use Rattle.compositor_rows.specs.Rows.{row_count}
use Rattle.compositor_screen.specs.declared.Screen.{Screen}
use Rattle.compositor_bands.specs.Bands.{regions_of, band_regions}
use Rattle.compositor_scheduler.specs.declared.Totals.{Totals}

-- the band that starts at a row, "the last cut to the screen"
abbrev pub band_from : Screen → ℕ → DeviceRegion
band_from s row = record { x = 0; y = row; width = s.width; height = min s.band_height (s.height - row) }

-- the regions of the first j bands, "from the top"
unfoldable pub bands_to : Screen → List DeviceRegion → ℕ → List DeviceRegion
bands_to s l zero = []
bands_to s l (suc j) = bands_to s l j ++ band_regions (band_from s (j * s.band_height)) l

-- the schedule of regions, and of boxes
abbrev pub schedule_of : Screen → List DeviceRegion → List DeviceRegion
schedule_of s l = bands_to s l (row_count s.height s.band_height)

abbrev pub schedule : Screen → List Rect → List DeviceRegion
schedule s rects = schedule_of s (regions_of s.width s.height rects)

-- "pixels as the sum of width times height"
unfoldable pub pixels_of : List DeviceRegion → ℕ
pixels_of [] = 0
pixels_of (r ∷ l) = area r + pixels_of l

-- regions as words: x, y, width and height of each
abbrev pub words_of_region : DeviceRegion → List ℕ
words_of_region r = r.x ∷ r.y ∷ r.width ∷ r.height ∷ []

unfoldable pub words_of_regions : List DeviceRegion → List ℕ
words_of_regions [] = []
words_of_regions (r ∷ l) = words_of_region r ++ words_of_regions l

-- region i of words that hold four a region, and the first n regions: the same, read back (`regions_back`)
unfoldable pub region_in : List ℕ → ℕ → DeviceRegion
region_in ws i = record { x = get_or ws (4 * i) 0; y = get_or ws (4 * i + 1) 0; width = get_or ws (4 * i + 2) 0; height = get_or ws (4 * i + 3) 0 }

abbrev pub regions_to : List ℕ → ℕ → List DeviceRegion
regions_to ws n = tabulate (region_in ws) n

-- the answer: the counts where the regions fit, which is where there is room for four words each
abbrev pub totals_of : List DeviceRegion → ℕ → Option Totals
totals_of l words = pick (leb (length l) (words / 4)) (Some (record { regions = length l; pixels = pixels_of l })) None

-- The answer r for the regions l, with the words `before` and `after` it: where the regions fit, their words stand in front and
-- the rest is as it was. Where they do not, the words are left open.
pub record Answers (l : List DeviceRegion) (before : List ℕ) (r : Option Totals) (after : List ℕ) : Type 0 where
  pub answer : r ≡ totals_of l (length before)
  pub words : length l ≤ length before / 4 → after ≡ words_of_regions l ++ drop (4 * length l) before
