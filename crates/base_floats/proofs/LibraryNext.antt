-- The library's next lower value is the definition's. Assumes nothing.
use Rattle.std.proofs.Common.{◌≡◌, ℕ, zero, suc, ◌+◌, ◌-◌, ◌*◌, ◌/◌, ◌%◌, ◌^◌, ◌<◌, ◌≤◌, Bool, true, false, cond, not, T, ℤ, sym, refl, ap, ◌∙◌, arith}
use borrow.Author.Tests.{eq-eqb, ne_eqb}
use lib.Dec.{eqb}
use lib.Ieee.{is_nan, up, down, low, size, prec, hid, top, Float, nan, inf, fin, binary64, neg, fits, of_bits, to_bits}
use Rattle.std.specs.Float as Library
use Rattle.base_ieee.proofs.Rank.{ordered, ordered_of, finite_above}
use Rattle.base_ieee.proofs.Values.{neg_neg}
use Rattle.base_ieee.proofs.Patterns.{infinity_bits, bits_neg, pattern}
use Rattle.base_floats.specs.Next.{next_down}
use Rattle.base_floats.proofs.Nexts.{Negative, negative, positive_at, negative_at}

-- the next value above x, by its pattern b: of a value above zero, of one below, and of a zero
module _ (x : Float) (b : ℕ) where
  up_above : 0 < b → b < infinity_bits → Library.next_up_by_bits binary64 x b ≡ of_bits binary64 (b + 1)
  up_above l h =
      let m : b ≡ b % 2 ^ 63 = omega arith in
      λ i. cond (ne_eqb b infinity_bits (λ e. omega arith) i) x (cond (ne_eqb (b % 2 ^ 63) 0 (λ e. omega arith) i) (of_bits binary64 1) (cond (eq-eqb b (b % 2 ^ 63) m i) (of_bits binary64 (b + 1)) (of_bits binary64 (b - 1))))

  up_below : 2 ^ 63 < b → b ≤ 2 ^ 63 + infinity_bits → Library.next_up_by_bits binary64 x b ≡ of_bits binary64 (b - 1)
  up_below l h =
      λ i. cond (ne_eqb b infinity_bits (λ e. omega arith) i) x (cond (ne_eqb (b % 2 ^ 63) 0 (λ e. omega arith) i) (of_bits binary64 1) (cond (ne_eqb b (b % 2 ^ 63) (λ e. omega arith) i) (of_bits binary64 (b + 1)) (of_bits binary64 (b - 1))))

  up_zero : b % 2 ^ 63 ≡ 0 → Library.next_up_by_bits binary64 x b ≡ of_bits binary64 1
  up_zero h =
      λ i. cond (ne_eqb b infinity_bits (λ e. omega arith) i) x (cond (eq-eqb (b % 2 ^ 63) 0 h i) (of_bits binary64 1) (cond (eqb b (b % 2 ^ 63)) (of_bits binary64 (b + 1)) (of_bits binary64 (b - 1))))

by_units : Bool → ℕ → ℕ
by_units s n = (cond s (top binary64) 0 + (size n - prec binary64) * hid binary64 + n / 2 ^ (size n - prec binary64)) % 2 ^ 63

zero_pattern : (s : Bool) (e : ℤ) → to_bits binary64 (fin s zero e) % 2 ^ 63 ≡ 0
unfolding size to_bits by_units
zero_pattern s e = ap (by_units s) (units_none (down e)) ∙ none s
  where
    units_none : (d : ℕ) → 0 * up e * 2 ^ low binary64 / d ≡ 0
    units_none d = omega arith

    none : (s : Bool) → by_units s 0 ≡ 0
    none true = refl
    none false = refl

-- a pattern with the sign set, negated again
mirrored : (k : ℕ) → k < 2 ^ 63 → neg (of_bits binary64 (2 ^ 63 + k)) ≡ of_bits binary64 k
mirrored k h = ap neg (bits_neg k h) ∙ neg_neg (of_bits binary64 k)

pub library_next : (y : Float) → fits binary64 y ≡ true → Library.next_down binary64 y ≡ next_down y
unfolding neg next_down is_nan to_bits fits
library_next nan f = refl
library_next (inf true) f = refl
library_next (inf false) f =
    ap neg (up_below (inf true) (2 ^ 63 + infinity_bits) (omega arith) (omega arith)) ∙ mirrored (infinity_bits - 1) (omega arith)
library_next (fin s zero e) f = ap neg (up_zero (fin (not s) zero e) (to_bits binary64 (fin (not s) zero e)) (zero_pattern (not s) e)) ∙ sym (bits_neg 1 (omega arith))
library_next (fin true (suc m) e) f =
    let y = fin true (suc m) e in
    let t : T (ordered y) = ordered_of y f tt in
    let n : Negative y = negative y t (finite_above y t tt) (negative_at m e) in
    let p = pattern (neg y) (ordered_of (neg y) f tt) (positive_at m e) in
    let b = to_bits binary64 (neg y) in
    ap neg (up_above (neg y) b p.0 n.below) ∙ sym (bits_neg (b + 1) (omega (arith, n.below))) ∙ ap (of_bits binary64) (omega (arith, n.bits))
library_next (fin false (suc m) e) f =
    let y = fin false (suc m) e in
    let t : T (ordered (neg y)) = ordered_of (neg y) f tt in
    let n : Negative (neg y) = negative (neg y) t (finite_above (neg y) t tt) (negative_at m e) in
    let p = pattern y (ordered_of y f tt) (positive_at m e) in
    let b = to_bits binary64 y in
    ap neg (up_below (neg y) (to_bits binary64 (neg y)) (omega (arith, n.bits, p.0)) (omega (arith, n.bits, p.1)) ∙ ap (of_bits binary64) (omega (arith, n.bits, p.0)))
    ∙ mirrored (b - 1) (omega (arith, p.1))
