-- Whole numbers: as f64, and an f64 rounded down or up to one.
use Rattle.std.specs.Prelude.{ℕ, ◌+◌, ◌-◌, ◌*◌, ◌/◌, ◌^◌, true, false, pos, Float}
use Rattle.std.specs.Float.{nan, inf, fin, binary64}
use Rattle.std.specs.Float.Ieee.{up, down, of_int}

-- n as an f64: exact up to 2 ^ 53
abbrev pub whole : ℕ → Float
whole n = of_int binary64 (pos n)

-- "low edges rounded down, not below 0": `fin false m e` is m * up e / down e. A NaN gives 0, and an infinity a number above every finite one.
unfoldable pub floor : Float → ℕ
floor nan = 0
floor (inf true) = 0
floor (inf false) = 2 ^ 1024
floor (fin true m e) = 0
floor (fin false m e) = m * up e / down e

-- "high edges rounded up": what is below 0 counts as 0 here too, since no region ends at or before column 0.
unfoldable pub ceil : Float → ℕ
ceil nan = 0
ceil (inf true) = 0
ceil (inf false) = 2 ^ 1024
ceil (fin true m e) = 0
ceil (fin false m e) = (m * up e + (down e - 1)) / down e
