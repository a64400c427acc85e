-- Products and sums of numbers that are not too large are finite: what is at most 2 ^ k rounds to at most four times that, so a few operations on numbers
-- below 2 ^ 500 stay far below 2 ^ 1024. Assumes nothing.
use mathlib.Core.Path.{◌≡◌, refl, sym, ap, ◌∙◌, subst}
use mathlib.Core.Bool.{Bool, true, false, ◌&&◌, beq, cond, true≢false}
use Prim.Native.Nat.{ℕ, zero, suc, ◌+◌, ◌-◌, ◌*◌, ◌/◌, ◌%◌, ◌^◌, ◌≤◌, ◌<◌, compare}
use native.Mathlib.Nat.{le_trans, le_of_eq, le_of_lt, lt_of_le_of_lt, mul-one, mul_comm, mul_assoc, mul_left_comm, mul_right_comm, mul-pos, mul-le-mul, mul-le-mul_right, le_of_mul-le-mul_right, div-mul-le_self, div-div-eq-div-mul, suc-mul, two-mul, pow-succ'}
use native.Mathlib.Omega.{arith}
use lib.Dec.{leb, ltb, eqb}
use borrow.Author.Tests.{ne_eqb}
use lib.Pow.{pow-add, pow_pos, pow_mono, pow-lt}
use lib.Ieee.{Float, nan, inf, fin, binary64, up, down, size, unlike, odd, round, sum, add, mul, of_bits, of_fields}
use lib.Ieee.Digits.{size_reaches}
use lib.Ieee.Fits.{nearest-le, round_is, down_pos}
use lib.Ieee.Exact.{HasValue, odd_sign, units_val}
use lib.Ieee.Nearest.{closest}
use lib.Ieee.Scale.{finite}

-- |x| is at most 2 ^ k
abbrev pub Within : ℕ → Float → Type 0
Within k nan = ⊥
Within k (inf s) = ⊥
Within k (fin s m e) = m * up e ≤ 2 ^ k * down e

pub within_finite : (k : ℕ) (x : Float) → Within k x → finite x ≡ true
within_finite k nan w = absurd w
within_finite k (inf s) w = absurd w
within_finite k (fin s m e) w = refl

pub within_more : (j k : ℕ) (x : Float) → j ≤ k → Within j x → Within k x
within_more j k nan h w = w
within_more j k (inf s) h w = w
within_more j k (fin s m e) h w = le_trans w (mul-le-mul_right (down e) (pow_mono h))

-- of a value in units of 2 ^ -1074
units_within : (x : Float) (s : Bool) (k u : ℕ) → HasValue x s u (2 ^ 1074) → u ≤ 2 ^ k * 2 ^ 1074 → Within k x
units_within nan s k u v h = v
units_within (inf t) s k u v h = v
units_within (fin t m e) s k u v h =
    le_of_mul-le-mul_right (le_trans (le_of_eq v.1) (le_trans (mul-le-mul_right (down e) h) (le_of_eq (mul_right_comm (2 ^ k) (2 ^ 1074) (down e))))) (pow_pos 1074)

-- ---- rounding
-- the unit that a whole part is rounded to is no more than it, or 1
unit_most : (w : ℕ) → 2 ^ (size w - 53) ≤ w + 1
unit_most w = go (size w) refl
  where
    go : (z : ℕ) → size w ≡ z → 2 ^ (z - 53) ≤ w + 1
    go zero e = omega arith
    go (suc z) e =
        let a : 2 ^ z ≤ w = size_reaches w z (omega (arith, e)) in
        let b : 2 ^ (suc z - 53) ≤ 2 ^ z = pow_mono (omega arith) in
        omega arith

-- n / c rounded as `round` does, in units
abbrev grid : ℕ → ℕ → ℕ
grid n c = closest n (c * 2 ^ (size (n / c) - 53)) * 2 ^ (size (n / c) - 53)

grid_most : (n c : ℕ) → grid n c ≤ 2 * (n / c) + 1
grid_most n c =
    let w = n / c in
    let u = 2 ^ (size (n / c) - 53) in
    let a : closest n (c * u) ≤ suc (w / u) = le_trans (nearest-le (n / (c * u)) (compare (n % (c * u) * 2) (c * u))) (le_of_eq (ap suc (sym (div-div-eq-div-mul n c u)))) in
    let b : closest n (c * u) * u ≤ suc (w / u) * u = mul-le-mul_right u a in
    let d : suc (w / u) * u ≡ w / u * u + u = suc-mul (w / u) u in
    let e : w / u * u ≤ w = div-mul-le_self w u in
    let f : u ≤ w + 1 = unit_most w in
    omega arith

quotient_most : (n c x : ℕ) → 0 < c → n ≤ x * c → n / c ≤ x
quotient_most n c x h p = le_of_mul-le-mul_right (le_trans (div-mul-le_self n c) p) h

four_times : (k : ℕ) → 2 ^ suc (suc k) * 2 ^ 1074 ≡ 4 * (2 ^ k * 2 ^ 1074)
four_times k = ap (λ (z : ℕ). z * 2 ^ 1074) (pow-succ' 2 (suc k) ∙ ap (λ (z : ℕ). 2 * z) (pow-succ' 2 k) ∙ sym (mul_assoc 2 2 (2 ^ k))) ∙ mul_assoc 4 (2 ^ k) (2 ^ 1074)

at_most_four : (g w x : ℕ) → g ≤ 2 * w + 1 → w ≤ x → 1 ≤ x → g ≤ 4 * x
at_most_four g w x a b c = omega arith

round_within : (s : Bool) (a c k : ℕ) → 0 < c → a ≤ 2 ^ k * c → k ≤ 1020 → Within (suc (suc k)) (round binary64 s a c)
round_within s a c k h p l =
    let n = a * 2 ^ 1074 in
    let x = 2 ^ k * 2 ^ 1074 in
    let q : n ≤ x * c = le_trans (mul-le-mul_right (2 ^ 1074) p) (le_of_eq (mul_right_comm (2 ^ k) c (2 ^ 1074))) in
    let w : n / c ≤ x = quotient_most n c x h q in
    let one : 1 ≤ x = mul-pos (pow_pos k) (pow_pos 1074) in
    let g : grid n c ≤ 4 * x = at_most_four (grid n c) (n / c) x (grid_most n c) w one in
    let g' : grid n c ≤ 2 ^ suc (suc k) * 2 ^ 1074 = le_trans g (le_of_eq (sym (four_times k))) in
    let o : 2 ^ suc (suc k) * 2 ^ 1074 < 2 ^ 2098 = lt_of_le_of_lt (le_of_eq (sym (pow-add 2 (suc (suc k)) 1074))) (pow-lt {j = 2098} (omega arith)) in
    let d = size (n / c) - 53 in
    units_within (round binary64 s a c) s (suc (suc k)) (grid n c)
    (subst (λ (z : Float). HasValue z s (grid n c) (2 ^ 1074)) (sym (round_is binary64 s a c)) (units_val binary64 s (closest n (c * 2 ^ d)) d (lt_of_le_of_lt g' o)))
    g'

-- ---- operations
pub mul_within : (j k : ℕ) (x y : Float) → Within j x → Within k y → j + k ≤ 1020 → Within (suc (suc (j + k))) (mul binary64 x y)
unfolding mul
mul_within j k nan y v w l = absurd v
mul_within j k (inf s) y v w l = absurd v
mul_within j k (fin s m e) nan v w l = absurd w
mul_within j k (fin s m e) (inf t) v w l = absurd w
mul_within j k (fin s m e) (fin t n d) v w l =
    round_within (unlike s t) (m * up e * (n * up d)) (down e * down d) (j + k) (mul-pos (down_pos e) (down_pos d))
    (le_trans (mul-le-mul v w) (le_of_eq (cross (2 ^ j) (down e) (2 ^ k) (down d) ∙ ap (λ (z : ℕ). z * (down e * down d)) (sym (pow-add 2 j k)))))
    l
  where
    cross : (a b c d : ℕ) → a * b * (c * d) ≡ a * c * (b * d)
    cross a b c d = simp (mul_assoc, mul_left_comm)

sum_within : (k : ℕ) (s : Bool) (a : ℕ) (t : Bool) (b c : ℕ) → 0 < c → a ≤ 2 ^ k * c → b ≤ 2 ^ k * c → k ≤ 1019 → Within (suc (suc (suc k))) (sum binary64 s a t b c)
unfolding sum
sum_within k s a t b c h p q l =
    let d : 2 ^ suc k * c ≡ 2 ^ k * c + 2 ^ k * c = ap (λ (z : ℕ). z * c) (pow-succ' 2 k) ∙ mul_assoc 2 (2 ^ k) c ∙ two-mul (2 ^ k * c) in
    go (beq s t) (ltb a b) _ _ _
    (round_within s (a + b) c (suc k) h (omega arith) (omega arith))
    (round_within t (b - a) c (suc k) h (omega arith) (omega arith))
    (round_within (s && ltb b a) (a - b) c (suc k) h (omega arith) (omega arith))
  where
    go : (x y : Bool) (u v w : Float) → Within (suc (suc (suc k))) u → Within (suc (suc (suc k))) v → Within (suc (suc (suc k))) w → Within (suc (suc (suc k))) (cond x u (cond y v w))
    go true y u v w i j l = i
    go false true u v w i j l = j
    go false false u v w i j l = l

pub add_within : (k : ℕ) (x y : Float) → Within k x → Within k y → k ≤ 1019 → Within (suc (suc (suc k))) (add binary64 x y)
unfolding add
add_within k nan y v w l = absurd v
add_within k (inf s) y v w l = absurd v
add_within k (fin s m e) nan v w l = absurd w
add_within k (fin s m e) (inf t) v w l = absurd w
add_within k (fin s m e) (fin t n d) v w l =
    sum_within k s (m * up e * down d) t (n * up d * down e) (down e * down d) (mul-pos (down_pos e) (down_pos d))
    (le_trans (mul-le-mul_right (down d) v) (le_of_eq (mul_assoc (2 ^ k) (down e) (down d))))
    (le_trans (mul-le-mul_right (down e) w) (le_of_eq (mul_assoc (2 ^ k) (down d) (down e) ∙ ap (λ (z : ℕ). 2 ^ k * z) (mul_comm (down d) (down e)))))
    l

-- ---- bit patterns
fields_within : (s : Bool) (x t : ℕ) → x < 1523 → t < 2 ^ 52 → Within 500 (of_fields binary64 s x t)
unfolding of_fields
fields_within s zero t h k = units_within (odd 53 s t 0 1074) s 500 (t * 1) (odd_sign 53 s t 0 1074) (le_trans (le_of_eq (mul-one t)) (le_trans (le_of_lt k) (le_trans (pow_mono {i = 52} {j = 1574} (omega arith)) (le_of_eq (pow-add 2 500 1074)))))
fields_within s (suc x) t h k = go (eqb (suc x) 2047) (ne_eqb (suc x) 2047 (omega arith))
  where
    digits : 2 ^ 52 + t ≤ 2 ^ 53
    digits = omega arith

    most : (2 ^ 52 + t) * 2 ^ x ≤ 2 ^ 500 * 2 ^ 1074
    most = le_trans (mul-le-mul_right (2 ^ x) digits) (le_trans (le_of_eq (sym (pow-add 2 53 x))) (le_trans (pow_mono {i = 53 + x} {j = 1574} (omega arith)) (le_of_eq (pow-add 2 500 1074))))

    go : (b : Bool) → b ≡ false → Within 500 (cond b (cond (eqb t 0) (inf s) nan) (odd 53 s (2 ^ 52 + t) x 1074))
    go true e = absurd (true≢false e)
    go false e = units_within (odd 53 s (2 ^ 52 + t) x 1074) s 500 ((2 ^ 52 + t) * 2 ^ x) (odd_sign 53 s (2 ^ 52 + t) x 1074) most

-- below the pattern of 2 ^ 500, the sign apart
pub bits_within : (b : ℕ) → b % 2 ^ 63 < 1523 * 2 ^ 52 → Within 500 (of_bits binary64 b)
unfolding of_bits
bits_within b h = fields_within (leb (2 ^ 63) b) (b % 2 ^ 63 / 2 ^ 52) (b % 2 ^ 52) (omega arith) (omega arith)
