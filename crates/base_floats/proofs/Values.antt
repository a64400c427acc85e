-- Rounding and the next lower f64 are functions of values: 0 and -0 give the same. Assumes nothing.
use Rattle.std.proofs.Common.{◌≡◌, Bool, true, false, refl}
use lib.Ieee.{Float}
use Rattle.base_ieee.specs.Values.{zero_of, Same}
use Rattle.base_ieee.proofs.Values.{by_value}
use Rattle.base_floats.specs.Whole.{floor, ceil}
use Rattle.base_floats.specs.Next.{next_down}

pub floor_same : (x y : Float) → Same x y → floor x ≡ floor y
floor_same = by_value floor zeros
  where
    zeros : (s t : Bool) → floor (zero_of s) ≡ floor (zero_of t)
    zeros true true = refl
    zeros true false = unfold floor in refl
    zeros false true = unfold floor in refl
    zeros false false = refl

pub ceil_same : (x y : Float) → Same x y → ceil x ≡ ceil y
ceil_same = by_value ceil zeros
  where
    zeros : (s t : Bool) → ceil (zero_of s) ≡ ceil (zero_of t)
    zeros true true = refl
    zeros true false = unfold ceil in refl
    zeros false true = unfold ceil in refl
    zeros false false = refl

-- below 0 and below -0 stands one and the same number
pub next_down_same : (x y : Float) → Same x y → next_down x ≡ next_down y
next_down_same = by_value next_down (λ s t. unfold next_down in refl)
