-- "Edges are compared by value, so -0 equals 0": operations on floats are functions of values. Where the operands differ in the sign of a zero
-- alone, so do the results, and tests of order answer alike. Assumes nothing.
use mathlib.Core.Path.{◌≡◌, refl, sym, ap, ◌∙◌, subst}
use mathlib.Core.Bool.{Bool, true, false, not, ◌&&◌, cond, beq}
use mathlib.Core.Logic.{◌⊎◌, inl, inr, ⊎_elim}
use Prim.Native.Nat.{ℕ, zero, suc, ◌+◌, ◌-◌, ◌*◌, ◌/◌, ◌%◌, ◌^◌, ◌≤◌, ◌<◌, compare, Ordering}
use native.Mathlib.Omega.{arith}
use native.Mathlib.Nat.{zero-div, zero-mul, zero-mod, zero-add, add_comm, mul_comm, suc-mul}
use borrow.Author.Tests.{lt-ltb, le-ltb, ltb-true, ltb-false}
use lib.IntN.{ℤ, pos, negsuc}
use lib.Dec.{T, ltb, eqb, is_le, leb-zero, eqb→eq, eqb_refl}
use lib.Pow.{pow-lt}
use lib.Ieee.Fits.{and_r, and_i, neg-fits}
use lib.Ieee.Bits.{of_bits-to_bits}
use Rattle.base_ieee.specs.Values.{zero_of, Zero, Same}
use Rattle.base_ieee.proofs.Rank.{middle, scale, rank, ordered, ordered_fits, not_nan, middle_pos, magnitude_lt, scale_pos, rank_eq}
use Rattle.base_ieee.proofs.Patterns.{pattern, bits_lt, neg_rank}
use Rattle.base_lists.proofs.Picks.{le_or_lt}
use lib.Ieee.{Float, nan, inf, fin, binary64, up, down, unlike, nearest, size, span, climb, units, odd, round, sum, add, sub, mul, div, below, lt, eq, fits, neg, of_bits, to_bits}

pub same_trans : (x y z : Float) → Same x y → Same y z → Same x z
same_trans x y z (inl p) (inl q) = inl (p ∙ q)
same_trans x y z (inl p) (inr q) = inr ((q.0.0, p ∙ q.0.1), q.1)
same_trans x y z (inr p) (inl q) = inr (p.0, (p.1.0, sym q ∙ p.1.1))
same_trans x y z (inr p) (inr q) = inr (p.0, q.1)

-- between values equal to these
same_ends : (x x' y y' : Float) → x ≡ x' → y ≡ y' → Same x' y' → Same x y
same_ends x x' y y' p q h = same_trans x x' y (inl p) (same_trans x' y' y h (inl (sym q)))

-- a function of a float that takes both zeros alike
lift : (f : Float → Float) → ((s t : Bool) → Same (f (zero_of s)) (f (zero_of t))) → (x y : Float) → Same x y → Same (f x) (f y)
lift f h x y (inl p) = inl (ap f p)
lift f h x y (inr p) = same_ends (f x) (f (zero_of p.0.0)) (f y) (f (zero_of p.1.0)) (ap f p.0.1) (ap f p.1.1) (h p.0.0 p.1.0)

lift_test : (f : Float → Bool) → ((s t : Bool) → f (zero_of s) ≡ f (zero_of t)) → (x y : Float) → Same x y → f x ≡ f y
lift_test f h x y (inl p) = ap f p
lift_test f h x y (inr p) = ap f p.0.1 ∙ h p.0.0 p.1.0 ∙ ap f (sym p.1.1)

-- and one with values of any kind: they are equal
pub by_value : {A : Type 0} (f : Float → A) → ((s t : Bool) → f (zero_of s) ≡ f (zero_of t)) → (x y : Float) → Same x y → f x ≡ f y
by_value f h x y (inl p) = ap f p
by_value f h x y (inr p) = ap f p.0.1 ∙ h p.0.0 p.1.0 ∙ ap f (sym p.1.1)

-- an operation that commutes, by its first operand alone
both : (f : Float → Float → Float) → ((x y : Float) → f x y ≡ f y x) → ((s t : Bool) (y : Float) → Same (f (zero_of s) y) (f (zero_of t) y)) → (x x' y y' : Float) → Same x x' → Same y y' → Same (f x y) (f x' y')
both f comm h x x' y y' p q =
    same_trans (f x y) (f x' y) (f x' y') (first x x' y p) (same_ends (f x' y) (f y x') (f x' y') (f y' x') (comm x' y) (comm x' y') (first y y' x' q))
  where
    first : (x x' y : Float) → Same x x' → Same (f x y) (f x' y)
    first x x' y p = lift (λ z. f z y) (λ s t. h s t y) x x' p

-- ---- rounding nothing
nearest_zero : (u : ℕ) → nearest 0 (compare 0 u) ≡ 0
nearest_zero u = go (compare 0 u) (leb-zero u)
  where
    go : (c : Ordering) → is_le c ≡ true → nearest 0 c ≡ 0
    go Ordering.lt e = refl
    go Ordering.eq e = refl
    go Ordering.gt e = absurd (subst T (sym e) tt)

-- what `round` makes of 0, by the quotient z
zero_by : Bool → ℕ → ℕ → Float
unfolding size units
zero_by s den z = units binary64 s (nearest (0 / (den * 2 ^ (size z - 53))) (compare (0 % (den * 2 ^ (size z - 53)) * 2) (den * 2 ^ (size z - 53)))) (size z - 53)

pub round_zero : (s : Bool) (den : ℕ) → round binary64 s 0 den ≡ zero_of s
unfolding round units odd size span climb zero_by
round_zero s den =
    let u = den * 2 ^ 0 in
    let e : 0 % u * 2 ≡ 0 = ap (λ (z : ℕ). z * 2) (zero-mod u) in
    let first : round binary64 s 0 den ≡ zero_by s den (0 / den) = refl in
    let second : zero_by s den (0 / den) ≡ zero_by s den 0 = ap (zero_by s den) (zero-div den) in
    let third : zero_by s den 0 ≡ units binary64 s (nearest 0 (compare 0 u)) 0 = λ i. units binary64 s (nearest (zero-div u i) (compare (e i) u)) 0 in
    let fourth : units binary64 s (nearest 0 (compare 0 u)) 0 ≡ units binary64 s 0 0 = ap (λ (z : ℕ). units binary64 s z 0) (nearest_zero u) in
    first ∙ second ∙ third ∙ fourth ∙ refl

-- ---- products
unlike_comm : (s t : Bool) → unlike s t ≡ unlike t s
unlike_comm true true = refl
unlike_comm true false = refl
unlike_comm false true = refl
unlike_comm false false = refl

pub mul_swap : (x y : Float) → mul binary64 x y ≡ mul binary64 y x
unfolding mul
mul_swap nan nan = refl
mul_swap nan (inf t) = refl
mul_swap nan (fin t n d) = refl
mul_swap (inf s) nan = refl
mul_swap (inf s) (inf t) = ap inf (unlike_comm s t)
mul_swap (inf s) (fin t n d) = ap (λ (u : Bool). cond (eqb n 0) nan (inf u)) (unlike_comm s t)
mul_swap (fin s m e) nan = refl
mul_swap (fin s m e) (inf t) = ap (λ (u : Bool). cond (eqb m 0) nan (inf u)) (unlike_comm s t)
mul_swap (fin s m e) (fin t n d) = λ i. round binary64 (unlike_comm s t i) (mul_comm (m * up e) (n * up d) i) (mul_comm (down e) (down d) i)

mul_zeros : (s t : Bool) (y : Float) → Same (mul binary64 (zero_of s) y) (mul binary64 (zero_of t) y)
unfolding mul
mul_zeros s t nan = inl refl
mul_zeros s t (inf u) = inl refl
mul_zeros s t (fin u n d) = inr (zero_product s, zero_product t)
  where
    zero_product : (s : Bool) → Zero (round binary64 (unlike s u) (0 * up (pos 0) * (n * up d)) (1 * down d))
    zero_product s = (unlike s u, ap (λ (z : ℕ). round binary64 (unlike s u) z (1 * down d)) (zero-mul (n * up d)) ∙ round_zero (unlike s u) (1 * down d))

pub mul_same : (x x' y y' : Float) → Same x x' → Same y y' → Same (mul binary64 x y) (mul binary64 x' y')
mul_same = both (mul binary64) mul_swap mul_zeros

-- ---- sums
-- of opposite signs: the larger magnitude gives the sign, and a difference of nothing is +0
unlike_signs : (a b c : ℕ) (p q : Bool) → ltb a b ≡ p → ltb b a ≡ q → cond p (round binary64 false (b - a) c) (round binary64 q (a - b) c) ≡ cond q (round binary64 true (a - b) c) (round binary64 false (b - a) c)
unlike_signs a b c true true e f = let h = ltb-true a b e in let k = ltb-true b a f in let n : ⊥ = omega arith in absurd n
unlike_signs a b c true false e f = refl
unlike_signs a b c false true e f = refl
unlike_signs a b c false false e f = let h = ltb-false a b e in let k = ltb-false b a f in let z : a - b ≡ b - a = omega arith in ap (λ (n : ℕ). round binary64 false n c) z

sum_swap : (s : Bool) (a : ℕ) (t : Bool) (b c : ℕ) → sum binary64 s a t b c ≡ sum binary64 t b s a c
unfolding sum
sum_swap true a true b c = ap (λ (z : ℕ). round binary64 true z c) (add_comm a b)
sum_swap false a false b c = ap (λ (z : ℕ). round binary64 false z c) (add_comm a b)
sum_swap true a false b c = unlike_signs a b c (ltb a b) (ltb b a) refl refl
sum_swap false a true b c = sym (unlike_signs b a c (ltb b a) (ltb a b) refl refl)

pub add_swap : (x y : Float) → add binary64 x y ≡ add binary64 y x
unfolding add
add_swap nan nan = refl
add_swap nan (inf t) = refl
add_swap nan (fin t n d) = refl
add_swap (inf s) nan = refl
add_swap (inf true) (inf true) = refl
add_swap (inf true) (inf false) = refl
add_swap (inf false) (inf true) = refl
add_swap (inf false) (inf false) = refl
add_swap (inf s) (fin t n d) = refl
add_swap (fin s m e) nan = refl
add_swap (fin s m e) (inf t) = refl
add_swap (fin s m e) (fin t n d) = sum_swap s (m * up e * down d) t (n * up d * down e) (down e * down d) ∙ ap (sum binary64 t (n * up d * down e) s (m * up e * down d)) (mul_comm (down e) (down d))

sum_left : (s t : Bool) (b c : ℕ) → (sum binary64 s 0 t b c ≡ round binary64 t b c) ⊎ ((b ≡ 0) × Zero (sum binary64 s 0 t b c))
unfolding sum
sum_left s t zero c = inr (refl, go s t)
  where
    go : (s t : Bool) → Zero (cond (beq s t) (round binary64 s (0 + 0) c) (cond (ltb 0 0) (round binary64 t (0 - 0) c) (round binary64 (s && ltb 0 0) (0 - 0) c)))
    go true true = (true, round_zero true c)
    go false false = (false, round_zero false c)
    go true false = (false, round_zero false c)
    go false true = (false, round_zero false c)
sum_left s t (suc b) c = inl (go s t)
  where
    e : 0 + suc b ≡ suc b
    e = omega arith

    f : suc b - 0 ≡ suc b
    f = omega arith

    g : ltb 0 (suc b) ≡ true
    g = lt-ltb 0 (suc b) (omega arith)

    go : (s t : Bool) → cond (beq s t) (round binary64 s (0 + suc b) c) (cond (ltb 0 (suc b)) (round binary64 t (suc b - 0) c) (round binary64 (s && ltb (suc b) 0) (0 - suc b) c)) ≡ round binary64 t (suc b) c
    go true true = ap (λ (z : ℕ). round binary64 true z c) e
    go false false = ap (λ (z : ℕ). round binary64 false z c) e
    go true false = (λ i. cond (g i) (round binary64 false (f i) c) (round binary64 (ltb (suc b) 0) (0 - suc b) c))
    go false true = (λ i. cond (g i) (round binary64 true (f i) c) (round binary64 false (0 - suc b) c))

both_ways : (x y z : Float) (b : ℕ) → (x ≡ z) ⊎ ((b ≡ 0) × Zero x) → (y ≡ z) ⊎ ((b ≡ 0) × Zero y) → (b ≡ 0 → Zero z) → Same x y
both_ways x y z b (inl p) (inl q) k = inl (p ∙ sym q)
both_ways x y z b (inl p) (inr q) k = inr (let u = k q.0 in (u.0, p ∙ u.1), q.1)
both_ways x y z b (inr p) (inl q) k = inr (p.1, (let u = k p.0 in (u.0, q ∙ u.1)))
both_ways x y z b (inr p) (inr q) k = inr (p.1, q.1)

add_zeros : (s t : Bool) (y : Float) → Same (add binary64 (zero_of s) y) (add binary64 (zero_of t) y)
unfolding add
add_zeros s t nan = inl refl
add_zeros s t (inf u) = inl refl
add_zeros s t (fin u n d) =
    let b = n * up d * 1 in
    let c = 1 * down d in
    let e : 0 ≡ 0 * up (pos 0) * down d = sym (zero-mul (down d)) in
    subst (λ (a : ℕ). Same (sum binary64 s a u b c) (sum binary64 t a u b c)) e
    (both_ways (sum binary64 s 0 u b c) (sum binary64 t 0 u b c) (round binary64 u b c) b (sum_left s u b c) (sum_left t u b c) (λ z. (u, ap (λ (m : ℕ). round binary64 u m c) z ∙ round_zero u c)))

pub add_same : (x x' y y' : Float) → Same x x' → Same y y' → Same (add binary64 x y) (add binary64 x' y')
add_same = both (add binary64) add_swap add_zeros

pub neg_same : (x y : Float) → Same x y → Same (neg x) (neg y)
neg_same = lift neg (λ s t. inr ((not s, neg_zero s), (not t, neg_zero t)))
  where
    neg_zero : (s : Bool) → neg (zero_of s) ≡ zero_of (not s)
    neg_zero s = unfold neg in refl

pub sub_same : (x x' y y' : Float) → Same x x' → Same y y' → Same (sub binary64 x y) (sub binary64 x' y')
unfolding sub
sub_same x x' y y' p q = add_same x x' (neg y) (neg y') p (neg_same y y' q)

-- ---- quotients, by the dividend: the sign of a zero divisor is the sign of an infinity
div_zeros : (s t : Bool) (y : Float) → Same (div binary64 (zero_of s) y) (div binary64 (zero_of t) y)
unfolding div
div_zeros s t nan = inl refl
div_zeros s t (inf u) = inr ((unlike s u, refl), (unlike t u, refl))
div_zeros s t (fin u n d) = go (eqb n 0)
  where
    zero_quotient : (s : Bool) → Zero (round binary64 (unlike s u) (0 * up (pos 0) * down d) (n * up d * 1))
    zero_quotient s = (unlike s u, ap (λ (z : ℕ). round binary64 (unlike s u) z (n * up d * 1)) (zero-mul (down d)) ∙ round_zero (unlike s u) (n * up d * 1))

    go : (b : Bool) → Same (cond b nan (round binary64 (unlike s u) (0 * up (pos 0) * down d) (n * up d * 1))) (cond b nan (round binary64 (unlike t u) (0 * up (pos 0) * down d) (n * up d * 1)))
    go true = inl refl
    go false = inr (zero_quotient s, zero_quotient t)

pub div_same : (x x' y : Float) → Same x x' → Same (div binary64 x y) (div binary64 x' y)
div_same x x' y p = lift (λ z. div binary64 z y) (λ s t. div_zeros s t y) x x' p

-- ---- order
below_l : (s t u : Bool) (b : ℕ) → below s 0 u b ≡ below t 0 u b
below_l true true u b = refl
below_l false false u b = refl
below_l true false true b = le-ltb b 0 (omega arith)
below_l true false false b = ap (ltb 0) (zero-add b)
below_l false true true b = sym (le-ltb b 0 (omega arith))
below_l false true false b = sym (ap (ltb 0) (zero-add b))

below_r : (s t u : Bool) (b : ℕ) → below u b s 0 ≡ below u b t 0
below_r true true u b = refl
below_r false false u b = refl
below_r true false false b = sym (le-ltb b 0 (omega arith))
below_r true false true b = let e : b ≡ b + 0 = omega arith in ap (ltb 0) e
below_r false true false b = le-ltb b 0 (omega arith)
below_r false true true b = let e : b + 0 ≡ b = omega arith in ap (ltb 0) e

lt_zero_l : (s t : Bool) (y : Float) → lt (zero_of s) y ≡ lt (zero_of t) y
unfolding lt
lt_zero_l s t nan = refl
lt_zero_l s t (inf u) = refl
lt_zero_l s t (fin u n d) = let e : 0 ≡ 0 * up (pos 0) * down d = sym (zero-mul (down d)) in subst (λ (a : ℕ). below s a u (n * up d * 1) ≡ below t a u (n * up d * 1)) e (below_l s t u (n * up d * 1))

lt_zero_r : (s t : Bool) (x : Float) → lt x (zero_of s) ≡ lt x (zero_of t)
unfolding lt
lt_zero_r s t nan = refl
lt_zero_r s t (inf u) = refl
lt_zero_r s t (fin u n d) = let e : 0 ≡ 0 * up (pos 0) * down d = sym (zero-mul (down d)) in subst (λ (a : ℕ). below u (n * up d * 1) s a ≡ below u (n * up d * 1) t a) e (below_r s t u (n * up d * 1))

pub lt_same : (x x' y y' : Float) → Same x x' → Same y y' → lt x y ≡ lt x' y'
lt_same x x' y y' p q = lift_test (λ z. lt z y) (λ s t. lt_zero_l s t y) x x' p ∙ lift_test (λ z. lt x' z) (λ s t. lt_zero_r s t x') y y' q

-- ---- values that compare equal are the same but for the sign of a zero
zero_exponent : (e : ℤ) → up e * down e ≡ 1 → e ≡ pos 0
zero_exponent (pos zero) h = refl
zero_exponent (pos (suc k)) h = let z : 0 < suc k = omega arith in let l : 2 ^ 0 < 2 ^ suc k = pow-lt z in let n : ⊥ = omega arith in absurd n
zero_exponent (negsuc k) h = let z : 0 < suc k = omega arith in let l : 2 ^ 0 < 2 ^ suc k = pow-lt z in let n : ⊥ = omega arith in absurd n

zero_is : (s : Bool) (m : ℕ) (e : ℤ) → T (fits binary64 (fin s m e)) → m * scale e ≡ 0 → Zero (fin s m e)
unfolding fits
zero_is s zero e t h = (s, ap (λ (z : ℤ). fin s 0 z) (zero_exponent e (eqb→eq (up e * down e) 1 t)))
zero_is s (suc m) e t h = let k : suc m * scale e ≡ m * scale e + scale e = suc-mul m (scale e) in let l = scale_pos e in let n : ⊥ = omega arith in absurd n

at_middle : (x : Float) → T (ordered x) → rank x ≡ middle → Zero x
unfolding rank
at_middle nan t e = absurd (and_r (fits binary64 nan) false t)
at_middle (inf true) t e = let h = middle_pos in let n : ⊥ = omega arith in absurd n
at_middle (inf false) t e = let h = middle_pos in let n : ⊥ = omega arith in absurd n
at_middle (fin false m d) t e = zero_is false m d (ordered_fits (fin false m d) t) (omega arith)
at_middle (fin true m d) t e = let h = magnitude_lt true m d (ordered_fits (fin true m d) t) in zero_is true m d (ordered_fits (fin true m d) t) (omega arith)

above_middle : (x y : Float) → T (ordered x) → T (ordered y) → middle < rank x → rank x ≡ rank y → x ≡ y
above_middle x y s t h r = sym back_x ∙ ap (of_bits binary64) (antisym (to_bits binary64 x) (to_bits binary64 y) not_less not_more) ∙ back_y
  where
    back_x : of_bits binary64 (to_bits binary64 x) ≡ x
    back_x = of_bits-to_bits binary64 x (ordered_fits x s)

    back_y : of_bits binary64 (to_bits binary64 y) ≡ y
    back_y = of_bits-to_bits binary64 y (ordered_fits y t)

    not_less : to_bits binary64 x < to_bits binary64 y → ⊥
    not_less l = let k = bits_lt (to_bits binary64 x) (to_bits binary64 y) l (pattern y t (omega arith)).1 in let a = ap rank back_x in let b = ap rank back_y in omega arith

    not_more : to_bits binary64 y < to_bits binary64 x → ⊥
    not_more l = let k = bits_lt (to_bits binary64 y) (to_bits binary64 x) l (pattern x s h).1 in let a = ap rank back_x in let b = ap rank back_y in omega arith

    antisym : (a b : ℕ) → (a < b → ⊥) → (b < a → ⊥) → a ≡ b
    antisym a b p q = omega arith

pub neg_neg : (x : Float) → neg (neg x) ≡ x
unfolding neg
neg_neg nan = refl
neg_neg (inf true) = refl
neg_neg (inf false) = refl
neg_neg (fin true m e) = refl
neg_neg (fin false m e) = refl

neg_not_nan : (x : Float) → T (not_nan x) → T (not_nan (neg x))
unfolding neg
neg_not_nan nan t = t
neg_not_nan (inf s) t = tt
neg_not_nan (fin s m e) t = tt

pub neg_ordered : (x : Float) → T (ordered x) → T (ordered (neg x))
neg_ordered x t = and_i (fits binary64 (neg x)) (not_nan (neg x)) (neg-fits binary64 x (ordered_fits x t)) (neg_not_nan x (and_r (fits binary64 x) (not_nan x) t))

pub rank_same : (x y : Float) → T (ordered x) → T (ordered y) → rank x ≡ rank y → Same x y
rank_same x y s t r = ⊎_elim
    (λ (h : rank x ≤ middle). ⊎_elim
    (λ (k : middle ≤ rank x). inr (at_middle x s (omega arith), at_middle y t (omega arith)))
    (λ (k : rank x < middle). let p = neg_rank x s in let q = neg_rank y t in
    inl (sym (neg_neg x) ∙ ap neg (above_middle (neg x) (neg y) (neg_ordered x s) (neg_ordered y t) (omega arith) (omega arith)) ∙ neg_neg y))
    (le_or_lt middle (rank x)))
    (λ (h : middle < rank x). inl (above_middle x y s t h r))
    (le_or_lt (rank x) middle)

pub same_value : (x y : Float) → T (ordered x) → T (ordered y) → T (eq x y) → Same x y
same_value x y s t h = rank_same x y s t (eqb→eq (rank x) (rank y) (subst T (rank_eq x y s t) h))

-- ---- and the same values compare equal
eq_self : (x : Float) → T (not_nan x) → T (eq x x)
unfolding eq
eq_self nan t = t
eq_self (inf true) t = tt
eq_self (inf false) t = tt
eq_self (fin true m e) t = and_i (eqb (m * up e * down e) (m * up e * down e)) true (eqb_refl (m * up e * down e)) tt
eq_self (fin false m e) t = and_i (eqb (m * up e * down e) (m * up e * down e)) true (eqb_refl (m * up e * down e)) tt

eq_zeros : (s t : Bool) → T (eq (zero_of s) (zero_of t))
unfolding eq
eq_zeros true true = tt
eq_zeros true false = tt
eq_zeros false true = tt
eq_zeros false false = tt

pub value_same : (x y : Float) → T (not_nan x) → Same x y → T (eq x y)
value_same x y n (inl p) = subst (λ (z : Float). T (eq x z)) p (eq_self x n)
value_same x y n (inr p) = subst (λ (z : Float). T (eq z y)) (sym p.0.1) (subst (λ (z : Float). T (eq (zero_of p.0.0) z)) (sym p.1.1) (eq_zeros p.0.0 p.1.0))

-- ---- what the same values share
pub same_rank : (x y : Float) → Same x y → rank x ≡ rank y
same_rank x y (inl p) = ap rank p
same_rank x y (inr p) = ap rank p.0.1 ∙ zero_middle p.0.0 ∙ sym (zero_middle p.1.0) ∙ ap rank (sym p.1.1)
  where
    zero_middle : (s : Bool) → rank (zero_of s) ≡ middle
    zero_middle true = unfold rank in omega (arith, zero-mul (scale (pos 0)))
    zero_middle false = unfold rank in omega (arith, zero-mul (scale (pos 0)))
