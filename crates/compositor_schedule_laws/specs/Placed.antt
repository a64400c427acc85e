-- The words of the laws of a schedule. Document 01, "The two panels": "Two regions overlap when they share a pixel; one crosses
-- a band edge when its first and last row lie in different bands."
use Rattle.std.specs.Prelude.{◌≡◌, ◌⊎◌, List, ℕ, ◌+◌, ◌*◌, ◌/◌, ◌≤◌, ◌<◌}
use Rattle.base_lists.specs.Members.{All, Any, Pairs}
use Rattle.base_floats.specs.Whole.{whole}
use Rattle.kurbo_geometry.specs.declared.Rect.{Rect}
use Rattle.compositor_screen.specs.declared.Screen.{Screen}
use Rattle.compositor_device.specs.declared.DeviceRegion.{DeviceRegion}
use Rattle.compositor_device.specs.Region.{right, bottom}
use Rattle.compositor_bands.specs.Bands.{yx, Gap}

-- pixel (p, q) is one of the region's
pub record Covers (p q : ℕ) (r : DeviceRegion) : Type 0 where
  pub from_left : r.x ≤ p
  pub to_right : p < right r
  pub from_top : r.y ≤ q
  pub to_bottom : q < bottom r

-- the region has pixels, and all of them are the screen's
pub record OnScreen (w h : ℕ) (r : DeviceRegion) : Type 0 where
  pub some_width : 0 < r.width
  pub some_height : 0 < r.height
  pub across : right r ≤ w
  pub down : bottom r ≤ h

-- it is on the screen and crosses no band edge: it ends where the band of its first row ends, or above
pub record Placed (s : Screen) (r : DeviceRegion) : Type 0 where
  pub on : OnScreen s.width s.height r
  pub one_band : bottom r ≤ r.y / s.band_height * s.band_height + s.band_height

-- two of one band have at least one column between them
unfoldable pub Clear : ℕ → DeviceRegion → DeviceRegion → Type 0
Clear b r s = r.y / b ≡ s.y / b → Gap r s ⊎ Gap s r

-- the first comes strictly before the second by (y, x)
abbrev pub Before : DeviceRegion → DeviceRegion → Type 0
Before r s = yx r < yx s

-- what every schedule is, and what is its own schedule
pub record Schedulable (s : Screen) (l : List DeviceRegion) : Type 0 where
  pub placed : All (Placed s) l
  pub clear : Pairs (Clear s.band_height) l
  pub ascends : Pairs Before l

-- c is one of the region's columns
abbrev pub Column : ℕ → DeviceRegion → Type 0
Column c r = (r.x ≤ c) × (c < right r)

-- g lies in m
pub record Inside (g m : DeviceRegion) : Type 0 where
  pub in_left : m.x ≤ g.x
  pub in_right : right g ≤ right m
  pub in_top : m.y ≤ g.y
  pub in_bottom : bottom g ≤ bottom m

-- m is a run of columns that the list covers, with the least top and the greatest bottom of the regions in it
pub record Run (l : List DeviceRegion) (m : DeviceRegion) : Type 0 where
  pub columns : (c : ℕ) → Column c m → Any (Column c) l
  pub least_top : Any (λ g. Inside g m × (g.y ≡ m.y)) l
  pub most_bottom : Any (λ g. Inside g m × (bottom g ≡ bottom m)) l

-- a region as a box of whole numbers
abbrev pub box_of : DeviceRegion → Rect
box_of r = record { x0 = whole r.x; y0 = whole r.y; x1 = whole (right r); y1 = whole (bottom r) }
