-- A product or a sum is finite only where both operands are: what is infinite or a NaN stays one of the two, in every format. Assumes nothing.
use mathlib.Core.Bool.{Bool, true, false, beq, cond}
use lib.Dec.{T, eqb}
use lib.Ieee.{Float, nan, inf, fin, Format, unlike, add, mul}
use lib.Ieee.Scale.{finite}

-- whether an infinity or a NaN comes of an infinity turns on a test
neither : (z s : Bool) → (T (finite (cond z nan (inf s))) → ⊥) × (T (finite (cond z (inf s) nan)) → ⊥)
neither true s = (λ t. t, λ t. t)
neither false s = (λ t. t, λ t. t)

pub mul_finite : (f : Format) (x y : Float) → T (finite (mul f x y)) → T (finite x) × T (finite y)
unfolding mul
mul_finite f nan y t = absurd t
mul_finite f (inf s) nan t = absurd t
mul_finite f (inf s) (inf u) t = absurd t
mul_finite f (inf s) (fin u n d) t = absurd ((neither (eqb n 0) (unlike s u)).0 t)
mul_finite f (fin s m e) nan t = absurd t
mul_finite f (fin s m e) (inf u) t = absurd ((neither (eqb m 0) (unlike s u)).0 t)
mul_finite f (fin s m e) (fin u n d) t = (tt, tt)

pub add_finite : (f : Format) (x y : Float) → T (finite (add f x y)) → T (finite x) × T (finite y)
unfolding add
add_finite f nan y t = absurd t
add_finite f (inf s) nan t = absurd t
add_finite f (inf s) (inf u) t = absurd ((neither (beq s u) s).1 t)
add_finite f (inf s) (fin u n d) t = absurd t
add_finite f (fin s m e) nan t = absurd t
add_finite f (fin s m e) (inf u) t = absurd t
add_finite f (fin s m e) (fin u n d) t = (tt, tt)
