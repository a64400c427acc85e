-- Pixels and boxes. Pixel (p, q) is the square from (p, q) to (p + 1, q + 1).
use Rattle.std.specs.Prelude.{ℕ, ◌+◌, Bool, ◌&&◌, Float}
use Rattle.std.specs.Float.Ieee.{lt}
use Rattle.base_floats.specs.Order.{larger, smaller}
use Rattle.base_floats.specs.Whole.{whole}
use Rattle.kurbo_geometry.specs.declared.Rect.{Rect}
use Rattle.kurbo_geometry.specs.Boxes.{positive_area}

-- along one axis: "x0 < p + 1, x1 > p", "compared exactly": whole numbers up to 2 ^ 53 are f64 exactly
unfoldable pub spans : Float → Float → ℕ → Bool
spans low high n = lt low (whole (n + 1)) && lt (whole n) high

-- "x0 < p + 1, x1 > p, y0 < q + 1, y1 > q"
unfoldable pub meets : Rect → ℕ → ℕ → Bool
meets b p q = spans b.x0 b.x1 p && spans b.y0 b.y1 q

-- "Pixel (p, q) is touched by a box of positive area when" it meets it
unfoldable pub touches : Rect → ℕ → ℕ → Bool
touches b p q = positive_area b && meets b p q

-- the part to which a box cuts the pixel's closed square; where nothing is left, an edge passes the one across
abbrev pub part : Rect → ℕ → ℕ → Rect
part b p q = record { x0 = larger b.x0 (whole p); y0 = larger b.y0 (whole q); x1 = smaller b.x1 (whole (p + 1)); y1 = smaller b.y1 (whole (q + 1)) }
