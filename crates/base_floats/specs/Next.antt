-- The next lower f64 ("next lower f64 of y1"): IEEE 754's nextDown, by bit patterns.
use Rattle.std.specs.Prelude.{zero, suc, ◌+◌, ◌-◌, true, false, from_bits, to_bits, Float}
use Rattle.std.specs.Float.{nan, inf, fin, binary64}

-- Above zero the pattern below, below zero the pattern above; of a zero the negative number of least magnitude. Minus infinity and a NaN stay.
unfoldable pub next_down : Float → Float
next_down nan = nan
next_down (inf true) = inf true
next_down (inf false) = from_bits binary64 (to_bits binary64 (inf false) - 1)
next_down (fin s zero e) = from_bits binary64 0x8000_0000_0000_0001
next_down (fin true (suc m) e) = from_bits binary64 (to_bits binary64 (fin true (suc m) e) + 1)
next_down (fin false (suc m) e) = from_bits binary64 (to_bits binary64 (fin false (suc m) e) - 1)
