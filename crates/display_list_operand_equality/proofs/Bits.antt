-- Sizes by their bits. Assumes nothing.
use mathlib.Core.Path.{◌≡◌, sym, ap, subst, ◌∙◌}
use mathlib.Core.Bool.{true, not, true≢false}
use lib.Dec.{T, eqb}
use lib.Ieee.{Float, nan, inf, fin, binary32, eq, is_nan, fits, to_bits, of_bits}
use lib.Ieee.Bits.{of_bits-to_bits}
use borrow.Author.Tests.{eqb-true}

-- what something is equal to is no NaN
pub eq_right : (x y : Float) → eq x y ≡ true → T (not (is_nan y))
unfolding eq is_nan
eq_right nan y e = absurd (true≢false (sym e))
eq_right (inf s) nan e = subst T (sym e) tt
eq_right (fin s m d) nan e = subst T (sym e) tt
eq_right (inf s) (inf t) e = tt
eq_right (inf s) (fin t n g) e = tt
eq_right (fin s m d) (inf t) e = tt
eq_right (fin s m d) (fin t n g) e = tt

-- equal bits mean equal sizes
pub bits_size : (a b : Float) → T (fits binary32 a) → T (fits binary32 b) → eqb (to_bits binary32 a) (to_bits binary32 b) ≡ true → a ≡ b
bits_size a b f g e = sym (of_bits-to_bits binary32 a f) ∙ ap (of_bits binary32) (eqb-true _ _ e) ∙ of_bits-to_bits binary32 b g
