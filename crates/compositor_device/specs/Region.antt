-- The conversion of a box to whole pixels, as document 01's compositor.rs has it, and dew's operations on regions: what two
-- have in common, the least region over two, the pixels of one.
use Rattle.std.specs.Prelude.{Bool, false, ◌&&◌, ℕ, ◌+◌, ◌-◌, ◌*◌, ◌≤◌, min, max, leb, ltb, Option, Some, None}
use Rattle.base_lists.specs.Pick.{pick}
use Rattle.base_floats.specs.Whole.{floor, ceil}
use Rattle.kurbo_geometry.specs.declared.Rect.{Rect}
use Rattle.compositor_device.specs.declared.DeviceRegion.{DeviceRegion}

-- from column x up to column right, from row y up to row bottom: "nothing unless both sides are positive"
unfoldable pub between : ℕ → ℕ → ℕ → ℕ → Option DeviceRegion
between x y right bottom = pick (ltb x right && ltb y bottom) (Some (record { x = x; y = y; width = right - x; height = bottom - y })) None

-- "low edges rounded down, not below 0; high edges rounded up, not above the screen"
abbrev pub from_logical : Rect → ℕ → ℕ → Option DeviceRegion
from_logical b width height = between (floor b.x0) (floor b.y0) (min (ceil b.x1) width) (min (ceil b.y1) height)

-- whether a region has pixel (p, q)
abbrev pub has : Option DeviceRegion → ℕ → ℕ → Bool
has (Some r) p q = (leb r.x p && ltb p (r.x + r.width)) && (leb r.y q && ltb q (r.y + r.height))
has None p q = false

-- the first column past a region, and the first row below it
abbrev pub right : DeviceRegion → ℕ
right r = r.x + r.width

abbrev pub bottom : DeviceRegion → ℕ
bottom r = r.y + r.height

-- both edges are within 16 bits; on a screen of at most 32,768 columns and rows they always are
pub record Fit (r : DeviceRegion) : Type 0 where
  pub wide : right r ≤ 65535
  pub high : bottom r ≤ 65535

-- what two regions have in common: the larger low edges, the smaller high ones
unfoldable pub intersect : DeviceRegion → DeviceRegion → Option DeviceRegion
intersect a b = between (max a.x b.x) (max a.y b.y) (min (right a) (right b)) (min (bottom a) (bottom b))

-- the least region over two: the smaller low edges, the larger high ones
unfoldable pub union : DeviceRegion → DeviceRegion → DeviceRegion
union a b = record {
  x = min a.x b.x;
  y = min a.y b.y;
  width = max (right a) (right b) - min a.x b.x;
  height = max (bottom a) (bottom b) - min a.y b.y;
}

-- "pixels as the sum of width times height"
abbrev pub area : DeviceRegion → ℕ
area r = r.width * r.height
