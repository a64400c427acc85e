-- Band rows, as document 01's BandIndex has them.
use Rattle.std.specs.Prelude.{ℕ, ◌+◌, ◌-◌, ◌/◌, min, Float}
use Rattle.base_floats.specs.Whole.{floor}
use Rattle.base_floats.specs.Next.{next_down}

-- "rows = height / band height, rounded up"
abbrev pub row_count : ℕ → ℕ → ℕ
row_count height band = (height + (band - 1)) / band

-- "row(y) is y, or 0 if negative, divided by band height exactly and rounded down, at most rows - 1". Rounding y down first changes nothing: `row_exact`.
abbrev pub row_of : ℕ → ℕ → Float → ℕ
row_of band rows y = min (floor y / band) (rows - 1)

-- the last row of a box with the high edge y: "row(next lower f64 of y1)"
abbrev pub final_row : ℕ → ℕ → Float → ℕ
final_row band rows y = row_of band rows (next_down y)
