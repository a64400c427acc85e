-- A box misses a band where "the regions cut to the band" leave nothing of it, whatever the screen.
use Rattle.std.specs.Prelude.{◌≡◌, ℕ, Some, None}
use Rattle.kurbo_geometry.specs.declared.Rect.{Rect}
use Rattle.compositor_device.specs.declared.DeviceRegion.{DeviceRegion}
use Rattle.compositor_device.specs.Region.{from_logical, intersect}

abbrev pub Misses : Rect → DeviceRegion → Type 0
Misses b band = (w h : ℕ) (r : DeviceRegion) → from_logical b w h ≡ Some r → intersect r band ≡ None
