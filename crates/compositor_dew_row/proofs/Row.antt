-- dew's row is the exact row: for every finite height, and every band height and number of rows up to 32,768. Assumes nothing.
use mathlib.Core.Path.{◌≡◌, refl, sym, ap, ◌∙◌}
use mathlib.Core.Logic.{⊎_elim}
use mathlib.Core.Bool.{Bool, true, false, cond, true≢false}
use Prim.Native.Nat.{ℕ, zero, suc, ◌+◌, ◌-◌, ◌*◌, ◌/◌, ◌^◌, ◌≤◌, ◌<◌, min}
use native.Mathlib.Nat.{zero-div, mul-le-mul_right}
use native.Mathlib.Omega.{arith}
use lib.IntN.{ℤ, pos}
use lib.Dec.{T, eqb, ltb, le→leb}
use lib.Ieee.{Float, nan, inf, fin, binary64, prec, emax, low, up, down, fits, le, div, round, units, odd, of_int, of_bits, of_fields, in_float, to_unsigned}
use lib.Ieee.Fits.{round_is, round-fits, and_i}
use lib.Ieee.Exact.{HasValue}
use lib.Ieee.Back.{round_whole, unsigned_back}
use lib.Ieee.Order.{drop, kept, round_mono}
use lib.Ieee.Scale.{finite}
use Rattle.base_lists.proofs.Picks.{le_or_lt}
use Rattle.base_ieee.proofs.Rank.{le_not_nan, le_rank, rank, ordered, ordered_fits, not_nan}
use Rattle.base_ieee.proofs.Patterns.{zero_rank, bits_ordered}
use Rattle.base_floats.specs.Order.{larger, smaller}
use Rattle.base_floats.specs.Whole.{whole, floor}
use Rattle.base_floats.proofs.Orders.{larger_either, larger_first, smaller_first, smaller_second}
use Rattle.compositor_rows.specs.Rows.{row_of}
use Rattle.kurbo_geometry.proofs.Meets.{whole_step}
use Rattle.compositor_dew_row.specs.DewRow.{dew_row}
use Rattle.compositor_dew_row.proofs.Quotient.{quotient}

-- ---- a quotient that is not positive rounds down to nothing
odd_floor : (d q k l : ℕ) → floor (odd d true q k l) ≡ 0
unfolding odd floor
odd_floor d zero k l = refl
odd_floor d (suc q) k l = refl

units_floor : (q k : ℕ) → floor (units binary64 true q k) ≡ 0
unfolding units
units_floor q k = go (ltb (q * 2 ^ k) (2 ^ (low binary64 + suc (emax binary64))))
  where
    go : (b : Bool) → floor (cond b (odd (suc (prec binary64)) true q k (low binary64)) (inf true)) ≡ 0
    go true = odd_floor (suc (prec binary64)) q k (low binary64)
    go false = unfold floor in refl

round_floor : (a c : ℕ) → floor (round binary64 true a c) ≡ 0
round_floor a c = ap floor (round_is binary64 true a c) ∙ units_floor (kept (prec binary64) (a * 2 ^ low binary64) c) (drop (prec binary64) (a * 2 ^ low binary64) c)

negative_div : (m : ℕ) (e : ℤ) (b : ℕ) (z : Float) → HasValue z false b 1 → floor (div binary64 (fin true m e) z) ≡ 0
unfolding div
negative_div m e b nan v = absurd v
negative_div m e b (inf s) v = absurd v
negative_div m e b (fin true n d) v = absurd (true≢false v.0)
negative_div m e b (fin false n d) v = go (eqb n 0) (eqb m 0)
  where
    go : (p q : Bool) → floor (cond p (cond q nan (inf true)) (round binary64 true (m * up e * down d) (n * up d * down e))) ≡ 0
    go true true = unfold floor in refl
    go true false = unfold floor in refl
    go false q = round_floor (m * up e * down d) (n * up d * down e)

zero_is : of_bits binary64 0 ≡ fin false 0 (pos 0)
unfolding of_bits of_fields odd
zero_is = refl

-- ---- the quotient, rounded down and cut at the last row r
module _ (b r : ℕ) (bp : 0 < b) (bb : b ≤ 32768) (rb : r < 32768) where
  abbrev row_by : Float → ℕ
  row_by z = min (floor (div binary64 z (whole b))) r

  none : (z : Float) → floor z ≡ 0 → min (floor z / b) r ≡ 0
  none z e = omega (arith, ap (λ (n : ℕ). n / b) e ∙ zero-div b)

  of_zero : row_by (of_bits binary64 0) ≡ 0
  of_zero = ap row_by zero_is ∙ quotient 0 (pos 0) b r (unfold fits in tt) bp bb rb ∙ none (fin false 0 (pos 0)) (unfold floor in refl)

  of_negative : (m : ℕ) (e : ℤ) → row_by (fin true m e) ≡ 0
  of_negative m e = let z : floor (div binary64 (fin true m e) (whole b)) ≡ 0 = unfold of_int in negative_div m e b (round binary64 false b 1) (round_whole binary64 false b (omega arith)) in omega arith

  row_by_lem : (y : Float) → T (ordered y) → T (finite y) → row_by (larger y (of_bits binary64 0)) ≡ min (floor y / b) r
  row_by_lem nan t f = absurd f
  row_by_lem (inf s) t f = absurd f
  row_by_lem (fin false m e) t f = ap row_by (larger_first (fin false m e) (of_bits binary64 0) t (bits_ordered 0 (omega arith)) (unfold rank in omega (arith, zero_rank))) ∙ quotient m e b r (ordered_fits (fin false m e) t) bp bb rb
  row_by_lem (fin true m e) t f =
      let k : row_by (larger (fin true m e) (of_bits binary64 0)) ≡ 0 = larger_either (λ z. row_by z ≡ 0) (fin true m e) (of_bits binary64 0) (of_negative m e) of_zero in
      k ∙ sym (none (fin true m e) (unfold floor in refl))

-- ---- the clamp and the cast in f64 are those of whole numbers
whole_le : (i j : ℕ) → i ≤ j → T (le (whole i) (whole j))
unfolding of_int
whole_le i j h = round_mono binary64 i 1 j 1 (omega arith) (omega arith) (mul-le-mul_right 1 h)

-- a whole number of any size is no NaN
any_ordered : (j : ℕ) → T (ordered (whole j))
unfolding of_int
any_ordered j = and_i (fits binary64 (round binary64 false j 1)) (not_nan (round binary64 false j 1)) (round-fits binary64 false j 1) (le_not_nan (round binary64 false 0 1) (round binary64 false j 1) (whole_le 0 j (omega arith)))

whole_mono : (i j : ℕ) → i ≤ j → rank (whole i) ≤ rank (whole j)
whole_mono i j h = le_rank (whole i) (whole j) (any_ordered i) (any_ordered j) (whole_le i j h)

back : (n : ℕ) → n < 32769 → to_unsigned 32 (whole n) ≡ n
back n h = (unsigned_back binary64 32 n (unfold in_float in le→leb n (2 ^ 53) (omega arith)) (omega arith)).1

clamp : (n r : ℕ) → r < 32768 → to_unsigned 32 (smaller (whole n) (whole r)) ≡ min n r
clamp n r h = ⊎_elim
    (λ (k : n ≤ r). ap (to_unsigned 32) (smaller_first (whole n) (whole r) (any_ordered n) (any_ordered r) (whole_mono n r k)) ∙ back n (omega arith) ∙ omega arith)
    (λ (k : r < n). let l = whole_mono (r + 1) n (omega arith) in let m = whole_step r (omega arith) in
    ap (to_unsigned 32) (smaller_second (whole n) (whole r) (any_ordered n) (any_ordered r) (omega arith)) ∙ back r (omega arith) ∙ omega arith)
    (le_or_lt n r)

-- the theorem
pub dew_row_lem : (band rows : ℕ) → 0 < band → band ≤ 32768 → rows ≤ 32768 → (y : Float) → T (ordered y) → T (finite y) → dew_row band rows y ≡ row_of band rows y
dew_row_lem band rows bp bb rb y t f = clamp (floor (div binary64 (larger y (of_bits binary64 0)) (whole band))) (rows - 1) (omega arith) ∙ row_by_lem band (rows - 1) bp bb (omega arith) y t f
