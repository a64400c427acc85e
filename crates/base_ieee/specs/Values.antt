-- Floats by value: document 01's "compared by value, so -0 equals 0" and "Only the sign of a zero edge is open here".
use Rattle.std.specs.Prelude.{◌≡◌, Bool, ◌⊎◌, pos, Float}
use Rattle.std.specs.Float.{fin}

-- a zero of either sign
abbrev pub zero_of : Bool → Float
zero_of s = fin s 0 (pos 0)

abbrev pub Zero : Float → Type 0
Zero x = (s : Bool) × (x ≡ zero_of s)

-- the same, but for the sign of a zero. Of f64s that are no NaN, this is IEEE 754's equality: `same_value`, `value_same`.
abbrev pub Same : Float → Float → Type 0
Same x y = (x ≡ y) ⊎ (Zero x × Zero y)
