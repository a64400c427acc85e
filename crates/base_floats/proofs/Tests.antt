-- What the tests in the code of this crate show of a value. Assumes nothing.
use Rattle.std.proofs.Common.{◌≡◌, ◌-◌, ◌^◌, ◌≤◌, min, true, false, refl, arith}
use lib.Ieee.{Float, nan, inf, fin, binary64, fits, lt, to_unsigned}
use Rattle.base_ieee.proofs.Rank.{ordered_of}
use Rattle.base_floats.specs.Whole.{whole, floor, ceil}
use Rattle.base_floats.proofs.Wholes.{ceil_even}

-- the cast rounds down, within its range
pub cast_floor : (x : Float) → to_unsigned 64 x ≡ min (floor x) (2 ^ 64 - 1)
unfolding to_unsigned floor
cast_floor nan = refl
cast_floor (inf true) = refl
cast_floor (inf false) = refl
cast_floor (fin true m e) = omega arith
cast_floor (fin false m e) = refl

-- a value rounded up, where a test finds the value rounded down not below it; a NaN is such a value too
pub ceil_not_more : (x : Float) → fits binary64 x ≡ true → floor x ≤ 2 ^ 53 → lt (whole (floor x)) x ≡ false → ceil x ≡ floor x
ceil_not_more nan f b e = unfold floor ceil in refl
ceil_not_more (inf s) f b e = ceil_even (inf s) (ordered_of (inf s) f tt) b e
ceil_not_more (fin s m d) f b e = ceil_even (fin s m d) (ordered_of (fin s m d) f tt) b e
