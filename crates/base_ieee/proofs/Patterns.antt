-- The bit patterns of binary64 are in the order of the values: above zero the pattern after a value's is the next value's, and setting the sign bit
-- negates. Assumes nothing.
use mathlib.Core.Path.{◌≡◌, refl, sym, ap, ◌∙◌, subst}
use mathlib.Core.Bool.{Bool, true, false, not, cond, true≢false}
use mathlib.Core.Logic.{◌⊎◌, inl, inr, ⊎_elim}
use Prim.Native.Nat.{ℕ, zero, suc, ◌+◌, ◌-◌, ◌*◌, ◌/◌, ◌%◌, ◌^◌, ◌≤◌, ◌<◌}
use native.Mathlib.Nat.{le_trans, le_of_eq, le_of_lt, lt_of_lt_of_le, eq-or-lt_of_le, mul-one, mul_comm, mul-pos, mul-le-mul_left, mul-le-mul_right, mul-lt-mul_of_pos_right, eq_of_mul-eq-mul_right, pow-suc, div-lt_iff_lt-mul, le-div_iff_mul-le, mod-lt}
use native.Mathlib.Omega.{arith}
use lib.IntN.{ℤ}
use lib.Dec.{T, ltb, leb, eqb, ltb→lt, lit<}
use lib.Pow.{pow_pos, pow_mono}
use lib.Arith.{le→nltb}
use borrow.Author.Tests.{lt-leb, le-leb, lt-ltb, le-ltb, eq-eqb, ne_eqb}
use lib.Ieee.{Float, nan, inf, fin, Format, binary32, binary64, prec, low, hid, ones, top, down, up, odd, neg, fits, of_bits, of_fields, to_bits, nan_bits}
use lib.Ieee.Fits.{and_i, and_r, down_pos}
use lib.Ieee.Exact.{HasValue, odd_sign}
use lib.Ieee.Scale.{finite}
use lib.Ieee.Bits.{of_bits-to_bits, of_bits-fits, to_bits-lt, nan_bits_above}
use Rattle.base_lists.proofs.Picks.{le_or_lt}
use Rattle.base_lists.proofs.Bools.{is_true, is_false}
use Rattle.base_ieee.proofs.Rank.{unit, middle, scale, rank, ordered, ordered_fits, not_nan, finite_not_nan, magnitude_law, magnitude_lt, middle_pos}

-- the pattern of infinity: the last that is no NaN's, the sign apart
abbrev pub infinity_bits : ℕ
infinity_bits = 2047 * 2 ^ 52

-- ---- the rank of a pattern with the sign clear
at_units : (x : Float) (u : ℕ) → T (fits binary64 x) → HasValue x false u (2 ^ 1074) → rank x ≡ middle + u
unfolding rank
at_units nan u t v = absurd v
at_units (inf s) u t v = absurd v
at_units (fin true m e) u t v = absurd (true≢false v.0)
at_units (fin false m e) u t v =
    ap (λ (z : ℕ). middle + z) (eq_of_mul-eq-mul_right (down e) (down_pos e) (m * scale e) u (magnitude_law false m e t ∙ unit_is m e ∙ v.1))
  where
    unit_is : (m : ℕ) (e : ℤ) → m * up e * unit ≡ m * up e * 2 ^ 1074
    unit_is m e = unfold unit in refl

-- the units that the exponent's field and the digits stand for
unfoldable sized : ℕ → ℕ → ℕ
sized zero t = t
sized (suc x) t = (2 ^ 52 + t) * 2 ^ x

fields_rank : (x t : ℕ) → x < 2047 → T (fits binary64 (of_fields binary64 false x t)) → rank (of_fields binary64 false x t) ≡ middle + sized x t
unfolding of_fields sized
fields_rank zero t h f = at_units (odd 53 false t 0 1074) (t * 1) f (odd_sign 53 false t 0 1074) ∙ ap (λ (z : ℕ). middle + z) (mul-one t)
fields_rank (suc x) t h f = go (eqb (suc x) 2047) (ne_eqb (suc x) 2047 (omega arith)) f
  where
    go : (b : Bool) → b ≡ false → T (fits binary64 (cond b (cond (eqb t 0) (inf false) nan) (odd 53 false (2 ^ 52 + t) x 1074))) → rank (cond b (cond (eqb t 0) (inf false) nan) (odd 53 false (2 ^ 52 + t) x 1074)) ≡ middle + (2 ^ 52 + t) * 2 ^ x
    go true e f = absurd (true≢false e)
    go false e f = at_units (odd 53 false (2 ^ 52 + t) x 1074) ((2 ^ 52 + t) * 2 ^ x) f (odd_sign 53 false (2 ^ 52 + t) x 1074)

read : (b : ℕ) → b < 2 ^ 63 → of_bits binary64 b ≡ of_fields binary64 false (b / 2 ^ 52) (b % 2 ^ 52)
unfolding of_bits
read b h =
    let m : b % 2 ^ 63 ≡ b = omega arith in
    λ i. of_fields binary64 (lt-leb (2 ^ 63) b h i) (m i / 2 ^ 52) (b % 2 ^ 52)

bits_rank : (b : ℕ) → b < infinity_bits → rank (of_bits binary64 b) ≡ middle + sized (b / 2 ^ 52) (b % 2 ^ 52)
bits_rank b h =
    let e = read b (omega arith) in
    ap rank e ∙ fields_rank (b / 2 ^ 52) (b % 2 ^ 52) (omega arith) (subst (λ (z : Float). T (fits binary64 z)) e (of_bits-fits binary64 b))

pub zero_rank : rank (of_bits binary64 0) ≡ middle
zero_rank = bits_rank 0 (lit< tt) ∙ (unfold sized in omega arith)

infinity_is : of_bits binary64 infinity_bits ≡ inf false
unfolding of_bits
infinity_is = refl

pub infinity_rank : rank (of_bits binary64 infinity_bits) ≡ middle + middle
unfolding rank
infinity_rank = ap rank infinity_is

-- ---- which patterns are a finite value's, and which are no NaN's
odd_finite : (d : ℕ) (s : Bool) (q k l : ℕ) → T (finite (odd d s q k l))
unfolding odd
odd_finite d s zero k l = tt
odd_finite d s (suc q) k l = tt

-- for either format: the exponent's field is all ones in an infinity and a NaN, and in no finite value
fields_finite : (f : Format) (s : Bool) (x t : ℕ) → x < ones f → T (finite (of_fields f s x t))
unfolding of_fields
fields_finite f s zero t h = odd_finite (prec f) s t 0 (low f)
fields_finite f s (suc x) t h = go (eqb (suc x) (ones f)) (ne_eqb (suc x) (ones f) (λ e. omega arith))
  where
    go : (b : Bool) → b ≡ false → T (finite (cond b (cond (eqb t 0) (inf s) nan) (odd (prec f) s (hid f + t) x (low f))))
    go true e = absurd (true≢false e)
    go false e = odd_finite (prec f) s (hid f + t) x (low f)

fields_infinite : (f : Format) (s : Bool) (x t : ℕ) → x ≡ ones f → T (finite (of_fields f s x t)) → ⊥
unfolding of_fields
fields_infinite binary32 s zero t e h = omega arith
fields_infinite binary64 s zero t e h = omega arith
fields_infinite f s (suc x) t e h = go (eqb (suc x) (ones f)) (eqb t 0) (eq-eqb (suc x) (ones f) e) h
  where
    go : (a b : Bool) → a ≡ true → T (finite (cond a (cond b (inf s) nan) (odd (prec f) s (hid f + t) x (low f)))) → ⊥
    go true true e k = k
    go true false e k = k
    go false b e k = true≢false (sym e)

-- a pattern is a finite value's where the exponent's field is not all ones
pub finite_pattern : (f : Format) (b : ℕ) → finite (of_bits f b) ≡ ltb (b % top f) (ones f * hid f)
unfolding of_bits
finite_pattern f b = ⊎_elim
    (λ (h : ones f * hid f ≤ b % top f). is_false (finite (of_bits f b)) (λ t. fields_infinite f (leb (top f) b) (b % top f / hid f) (b % hid f) (all_ones h) t) ∙ sym (le-ltb (b % top f) (ones f * hid f) h))
    (λ (h : b % top f < ones f * hid f). is_true (finite (of_bits f b)) (fields_finite f (leb (top f) b) (b % top f / hid f) (b % hid f) ((div-lt_iff_lt-mul (pow_pos (prec f - 1))).1 h)) ∙ sym (lt-ltb (b % top f) (ones f * hid f) h))
    (le_or_lt (ones f * hid f) (b % top f))
  where
    all_ones : ones f * hid f ≤ b % top f → b % top f / hid f ≡ ones f
    all_ones h =
        let k : ones f ≤ b % top f / hid f = (le-div_iff_mul-le (pow_pos (prec f - 1))).1 h in
        let l : b % top f / hid f < suc (ones f) = (div-lt_iff_lt-mul (pow_pos (prec f - 1))).1 (subst (λ (a : ℕ). b % top f < a) (mul_comm (hid f) (suc (ones f))) (mod-lt b (mul-pos (pow_pos (prec f - 1)) (omega arith)))) in
        omega arith

pub finite_no_nan : (f : Format) (b : ℕ) → T (finite (of_bits f b)) → T (not (nan_bits f b))
finite_no_nan f b t =
    let h = ltb→lt (b % top f) (ones f * hid f) (subst T (finite_pattern f b) t) in
    subst (λ (a : Bool). T (not a)) (sym (nan_bits_above f b)) (le→nltb (ones f * hid f) (b % top f) (le_of_lt h))

pub finite_bits : (b : ℕ) → finite (of_bits binary64 b) ≡ ltb (b % 2 ^ 63) infinity_bits
finite_bits b = finite_pattern binary64 b

pub bits_ordered : (b : ℕ) → b ≤ infinity_bits → T (ordered (of_bits binary64 b))
bits_ordered b h = and_i (fits binary64 (of_bits binary64 b)) (not_nan (of_bits binary64 b)) (of_bits-fits binary64 b) (elim (eq-or-lt_of_le h) [ inl e ↦ subst (λ (n : ℕ). T (not_nan (of_bits binary64 n))) (sym e) (subst (λ (z : Float). T (not_nan z)) (sym infinity_is) tt) | inr l ↦ finite_not_nan (of_bits binary64 b) (subst (λ (z : Float). T (finite z)) (sym (read b (omega arith))) (fields_finite binary64 false (b / 2 ^ 52) (b % 2 ^ 52) (omega arith))) ])

-- ---- a larger pattern is a larger value's
sized_mono : (x t y u : ℕ) → t < 2 ^ 52 → (x < y) ⊎ ((x ≡ y) × (t < u)) → sized x t < sized y u
unfolding sized
sized_mono zero t zero u h (inl k) = let n : ⊥ = omega arith in absurd n
sized_mono zero t zero u h (inr k) = k.1
sized_mono zero t (suc y) u h k = lt_of_lt_of_le h (le_trans (le_of_eq (sym (mul-one (2 ^ 52)))) (le_trans (mul-le-mul_left (2 ^ 52) (pow_pos y)) (mul-le-mul_right (2 ^ y) (omega arith))))
sized_mono (suc x) t zero u h (inl k) = let n : ⊥ = omega arith in absurd n
sized_mono (suc x) t zero u h (inr k) = let n : ⊥ = omega (arith, k.0) in absurd n
sized_mono (suc x) t (suc y) u h (inl k) =
    let a : (2 ^ 52 + t) * 2 ^ x < 2 ^ 53 * 2 ^ x = mul-lt-mul_of_pos_right (omega arith) (pow_pos x) in
    let b : 2 ^ 52 * 2 ^ suc x ≤ 2 ^ 52 * 2 ^ y = mul-le-mul_left (2 ^ 52) (pow_mono (omega arith)) in
    let c : 2 ^ 52 * 2 ^ y ≤ (2 ^ 52 + u) * 2 ^ y = mul-le-mul_right (2 ^ y) (omega arith) in
    let d : 2 ^ suc x ≡ 2 ^ x * 2 = pow-suc 2 x in
    omega arith
sized_mono (suc x) t (suc y) u h (inr k) =
    let e : x ≡ y = let z = k.0 in omega arith in
    subst (λ (z : ℕ). (2 ^ 52 + t) * 2 ^ x < (2 ^ 52 + u) * 2 ^ z) e (mul-lt-mul_of_pos_right (let z = k.1 in omega arith) (pow_pos x))

finite_bits_lt : (b c : ℕ) → b < c → c < infinity_bits → rank (of_bits binary64 b) < rank (of_bits binary64 c)
finite_bits_lt b c h k =
    let p = bits_rank b (omega arith) in
    let q = bits_rank c k in
    let r = sized_mono (b / 2 ^ 52) (b % 2 ^ 52) (c / 2 ^ 52) (c % 2 ^ 52) (omega arith) (go (eq-or-lt_of_le (omega arith))) in
    omega arith
  where
    go : (b / 2 ^ 52 ≡ c / 2 ^ 52) ⊎ (b / 2 ^ 52 < c / 2 ^ 52) → (b / 2 ^ 52 < c / 2 ^ 52) ⊎ ((b / 2 ^ 52 ≡ c / 2 ^ 52) × (b % 2 ^ 52 < c % 2 ^ 52))
    go (inl e) = inr (e, omega arith)
    go (inr l) = inl l

finite_rank : (x : Float) → T (fits binary64 x) → T (finite x) → rank x < middle + middle
unfolding rank
finite_rank nan t u = absurd u
finite_rank (inf s) t u = absurd u
finite_rank (fin false m e) t u = let h = magnitude_lt false m e t in omega arith
finite_rank (fin true m e) t u = let h = middle_pos in omega arith

pub bits_lt : (b c : ℕ) → b < c → c ≤ infinity_bits → rank (of_bits binary64 b) < rank (of_bits binary64 c)
bits_lt b c h k = elim (eq-or-lt_of_le k) [ inl e ↦ at_top e | inr l ↦ finite_bits_lt b c h l ]
  where
    at_top : c ≡ infinity_bits → rank (of_bits binary64 b) < rank (of_bits binary64 c)
    at_top e =
        let f = finite_rank (of_bits binary64 b) (of_bits-fits binary64 b) (subst (λ (z : Float). T (finite z)) (sym (read b (omega arith))) (fields_finite binary64 false (b / 2 ^ 52) (b % 2 ^ 52) (omega arith))) in
        let r = ap (λ (n : ℕ). rank (of_bits binary64 n)) e ∙ infinity_rank in
        omega arith

pub bits_le : (b c : ℕ) → b ≤ c → c ≤ infinity_bits → rank (of_bits binary64 b) ≤ rank (of_bits binary64 c)
bits_le b c h k = elim (eq-or-lt_of_le h) [ inl e ↦ le_of_eq (ap (λ (n : ℕ). rank (of_bits binary64 n)) e) | inr l ↦ le_of_lt (bits_lt b c l k) ]

-- ---- the sign bit negates
odd_neg : (d q k l : ℕ) → odd d true q k l ≡ neg (odd d false q k l)
unfolding odd neg
odd_neg d zero k l = refl
odd_neg d (suc q) k l = refl

fields_neg : (x t : ℕ) → of_fields binary64 true x t ≡ neg (of_fields binary64 false x t)
unfolding of_fields
fields_neg zero t = odd_neg 53 t 0 1074
fields_neg (suc x) t = go (eqb (suc x) 2047) (eqb t 0)
  where
    go : (a b : Bool) → cond a (cond b (inf true) nan) (odd 53 true (2 ^ 52 + t) x 1074) ≡ neg (cond a (cond b (inf false) nan) (odd 53 false (2 ^ 52 + t) x 1074))
    go true true = unfold neg in refl
    go true false = unfold neg in refl
    go false b = odd_neg 53 (2 ^ 52 + t) x 1074

read_signed : (b : ℕ) → b < 2 ^ 63 → of_bits binary64 (2 ^ 63 + b) ≡ of_fields binary64 true (b / 2 ^ 52) (b % 2 ^ 52)
unfolding of_bits
read_signed b h =
    let m : (2 ^ 63 + b) % 2 ^ 63 ≡ b = omega arith in
    let n : (2 ^ 63 + b) % 2 ^ 52 ≡ b % 2 ^ 52 = omega arith in
    λ i. of_fields binary64 (le-leb (2 ^ 63) (2 ^ 63 + b) (omega arith) i) (m i / 2 ^ 52) (n i)

pub bits_neg : (b : ℕ) → b < 2 ^ 63 → of_bits binary64 (2 ^ 63 + b) ≡ neg (of_bits binary64 b)
bits_neg b h = read_signed b h ∙ fields_neg (b / 2 ^ 52) (b % 2 ^ 52) ∙ ap neg (sym (read b h))

-- a value and its negation lie as far from the middle
pub neg_rank : (x : Float) → T (ordered x) → rank (neg x) + rank x ≡ middle + middle
unfolding neg rank
neg_rank nan t = absurd (and_r (fits binary64 nan) false t)
neg_rank (inf true) t = omega arith
neg_rank (inf false) t = omega arith
neg_rank (fin true m e) t = let h = magnitude_lt true m e (ordered_fits (fin true m e) t) in omega arith
neg_rank (fin false m e) t = let h = magnitude_lt false m e (ordered_fits (fin false m e) t) in omega arith

pub neg_bits : (x : Float) → T (ordered x) → rank x < middle → to_bits binary64 x ≡ 2 ^ 63 + to_bits binary64 (neg x)
unfolding to_bits neg rank
neg_bits nan t h = absurd (and_r (fits binary64 nan) false t)
neg_bits (inf false) t h = let n : ⊥ = omega arith in absurd n
neg_bits (inf true) t h = omega arith
neg_bits (fin false m e) t h = let n : ⊥ = omega arith in absurd n
neg_bits (fin true m e) t h = omega arith

-- ---- the pattern of a value above zero
clear_sign : (n : ℕ) (y : Float) → n < 2 ^ 64 → of_bits binary64 n ≡ y → T (finite y) → middle < rank y → n < infinity_bits
clear_sign n y top e fy h = ⊎_elim high (λ (l : n < 2 ^ 63). omega (arith, field)) (le_or_lt (2 ^ 63) n)
  where
    field : n % 2 ^ 63 < infinity_bits
    field = ltb→lt (n % 2 ^ 63) infinity_bits (subst T (finite_bits n) (subst (λ (z : Float). T (finite z)) (sym e) fy))

    -- a pattern with the sign set is at most zero
    high : 2 ^ 63 ≤ n → n < infinity_bits
    high l =
        let p : n ≡ 2 ^ 63 + (n - 2 ^ 63) = omega arith in
        let q : n - 2 ^ 63 ≤ infinity_bits = omega (arith, field) in
        let r = neg_rank (of_bits binary64 (n - 2 ^ 63)) (bits_ordered (n - 2 ^ 63) q) in
        let s = ap rank (sym e ∙ ap (of_bits binary64) p ∙ bits_neg (n - 2 ^ 63) (omega arith)) in
        let u = bits_le 0 (n - 2 ^ 63) (omega arith) q in
        let z = zero_rank in
        omega arith

pub pattern : (y : Float) → T (ordered y) → middle < rank y → (0 < to_bits binary64 y) × (to_bits binary64 y ≤ infinity_bits)
pattern y t h = (above, below y t h)
  where
    above : 0 < to_bits binary64 y
    above = ⊎_elim (λ (z : to_bits binary64 y ≤ 0). let e : to_bits binary64 y ≡ 0 = omega arith in let r = sym (ap rank (of_bits-to_bits binary64 y (ordered_fits y t))) ∙ ap (λ (n : ℕ). rank (of_bits binary64 n)) e ∙ zero_rank in omega arith) (λ z. z) (le_or_lt (to_bits binary64 y) 0)

    below : (y : Float) → T (ordered y) → middle < rank y → to_bits binary64 y ≤ infinity_bits
    below nan t h = absurd (and_r (fits binary64 nan) false t)
    below (inf true) t h = unfold rank in (let n : ⊥ = omega arith in absurd n)
    below (inf false) t h = unfold to_bits in omega arith
    below (fin s m e) t h = le_of_lt (clear_sign (to_bits binary64 (fin s m e)) (fin s m e) (to_bits-lt binary64 (fin s m e) (ordered_fits (fin s m e) t)) (of_bits-to_bits binary64 (fin s m e) (ordered_fits (fin s m e) t)) tt h)

-- ---- the neighbours of a pattern: no value lies between
module _ (b : ℕ) (z : Float) (t : T (ordered z)) where
  back : rank (of_bits binary64 (to_bits binary64 z)) ≡ rank z
  back = ap rank (of_bits-to_bits binary64 z (ordered_fits z t))

  pub pattern_before : 0 < b → b ≤ infinity_bits → rank z < rank (of_bits binary64 b) → rank z ≤ rank (of_bits binary64 (b - 1))
  pattern_before h k l = ⊎_elim
      (λ (g : rank z ≤ middle). let o = bits_le 0 (b - 1) (omega arith) (omega arith) in let w = zero_rank in omega arith)
      (λ (g : middle < rank z). let r = back in let p = pattern z t g in ⊎_elim
      (λ (i : b ≤ to_bits binary64 z). let n = bits_le b (to_bits binary64 z) i p.1 in omega arith)
      (λ (i : to_bits binary64 z < b). let n = bits_le (to_bits binary64 z) (b - 1) (omega arith) (omega arith) in omega arith)
      (le_or_lt b (to_bits binary64 z)))
      (le_or_lt (rank z) middle)

  pub pattern_after : b < infinity_bits → rank (of_bits binary64 b) < rank z → rank (of_bits binary64 (b + 1)) ≤ rank z
  pattern_after h l =
      let o = bits_le 0 b (omega arith) (omega arith) in
      let w = zero_rank in
      let r = back in
      let p = pattern z t (omega arith) in
      ⊎_elim
      (λ (i : to_bits binary64 z ≤ b). let n = bits_le (to_bits binary64 z) b i (omega arith) in omega arith)
      (λ (i : b < to_bits binary64 z). let n = bits_le (b + 1) (to_bits binary64 z) (omega arith) p.1 in omega arith)
      (le_or_lt (to_bits binary64 z) b)
