-- dew's `row_of`, step by step in f64: "The Rust divides in f64".
use Rattle.std.specs.Prelude.{ℕ, ◌-◌, Float}
use Rattle.std.specs.Float.{binary64}
use Rattle.std.specs.Float.Ieee.{of_bits, div, to_unsigned}
use Rattle.base_floats.specs.Order.{larger, smaller}
use Rattle.base_floats.specs.Whole.{whole, floor}

-- f64's floor, of a value that is not negative
abbrev pub floor64 : Float → Float
floor64 z = whole (floor z)

-- let row = (y.max(0.0) / f64::from(band_height)).floor(); row.min(f64::from(row_count - 1)) as u32
abbrev pub dew_row : ℕ → ℕ → Float → ℕ
dew_row band rows y = to_unsigned 32 (smaller (floor64 (div binary64 (larger y (of_bits binary64 0)) (whole band))) (whole (rows - 1)))
