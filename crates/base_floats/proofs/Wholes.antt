-- Whole numbers below and above a value, by its rank; a whole number lies below a value rounded up exactly where it lies below the value. Assumes nothing.
use Rattle.std.proofs.Common.{◌≡◌, ℕ, suc, ◌+◌, ◌-◌, ◌*◌, ◌/◌, ◌^◌, ◌<◌, ◌≤◌, true, false, T, ltb, leb, sym, ap, ◌∙◌, subst, le_trans, le_of_eq, le_refl, lt_of_lt_of_le, mul-le-mul_right, suc-mul, div-lt_iff_lt-mul, lt_of_mul-lt-mul_right, mul-lt-mul_of_pos_right, one-mul, le-div_iff_mul-le, mul_right_comm, div-mul-le_self, arith, le→leb, ltb→lt, lt→ltb, leb→le, nltb→le, ltb-false}
use native.Mathlib.Nat.{zero-div}
use lib.Dec.{not_T}
use lib.Ieee.{Float, nan, inf, fin, binary64, up, down, fits, lt}
use lib.Ieee.Fits.{and_r, down_pos}
use Rattle.base_ieee.proofs.Rank.{middle_is, middle_part, unit, middle, scale, rank, ordered, unit_pos, up_lt, down_lt, magnitude_law, ordered_fits, whole_part, rank_lt, rank_whole, whole_ordered, to_floor}
use Rattle.base_ieee.specs.Values.{Same}
use Rattle.base_ieee.proofs.Values.{same_rank}
use Rattle.base_floats.specs.Whole.{whole, floor, ceil}
use Rattle.base_lists.proofs.Bools.{same_bool}

-- ---- by the rank
pub floor_rank : (x : Float) → T (ordered x) → floor x ≡ (rank x - middle) / unit
unfolding floor rank
floor_rank nan t = absurd (and_r (fits binary64 nan) false t)
floor_rank (inf true) t = let h : middle - middle - middle ≡ 0 = omega arith in sym (ap (λ (z : ℕ). z / unit) h ∙ zero-div unit)
floor_rank (inf false) t = sym middle_part
floor_rank (fin true m e) t = let h : middle - m * scale e - middle ≡ 0 = omega arith in sym (ap (λ (z : ℕ). z / unit) h ∙ zero-div unit)
floor_rank (fin false m e) t = let h : middle + m * scale e - middle ≡ m * scale e = omega arith in whole_part false m e (ordered_fits (fin false m e) t) ∙ sym (ap (λ (z : ℕ). z / unit) h)

-- p < the number rounded up when p is below the number
step_up : (p n d : ℕ) → 0 < d → p * d < n → p < (n + (d - 1)) / d
step_up p n d D h = (le-div_iff_mul-le D).1 (let k : suc p * d ≡ p * d + d = suc-mul p d in omega arith)

step_down : (p n d : ℕ) → 0 < d → p < (n + (d - 1)) / d → p * d < n
step_down p n d D h = let k : suc p * d ≡ p * d + d = suc-mul p d in let l : suc p * d ≤ n + (d - 1) = (le-div_iff_mul-le D).0 h in omega arith

inf_below : (p : ℕ) → p * unit < middle → p < 2 ^ 1024
inf_below p h = lt_of_mul-lt-mul_right unit (lt_of_lt_of_le h (le_of_eq middle_is))

below_inf : (p : ℕ) → p < 2 ^ 1024 → p * unit < middle
below_inf p h = lt_of_lt_of_le (mul-lt-mul_of_pos_right h unit_pos) (le_of_eq (sym middle_is))

pub below_ceil : (x : Float) (p : ℕ) → T (ordered x) → middle + p * unit < rank x → p < ceil x
unfolding ceil rank
below_ceil nan p t h = absurd (and_r (fits binary64 nan) false t)
below_ceil (inf true) p t h = let n : ⊥ = omega arith in absurd n
below_ceil (inf false) p t h = inf_below p (omega arith)
below_ceil (fin true m e) p t h = let n : ⊥ = omega arith in absurd n
below_ceil (fin false m e) p t h =
    step_up p (m * up e) (down e) (down_pos e) (down_lt (p * down e) (m * up e) (p * unit) (m * scale e) (down e) (down_pos e) (mul_right_comm p unit (down e)) (magnitude_law false m e (ordered_fits (fin false m e) t)) (omega arith))

pub ceil_below : (x : Float) (p : ℕ) → T (ordered x) → p < ceil x → middle + p * unit < rank x
unfolding ceil rank
ceil_below nan p t h = absurd (and_r (fits binary64 nan) false t)
ceil_below (inf true) p t h = let n : ⊥ = omega arith in absurd n
ceil_below (inf false) p t h = let k = below_inf p h in omega arith
ceil_below (fin true m e) p t h = let n : ⊥ = omega arith in absurd n
ceil_below (fin false m e) p t h =
    let k : p * unit < m * scale e = up_lt (p * down e) (m * up e) (p * unit) (m * scale e) (down e) (down_pos e) (mul_right_comm p unit (down e)) (magnitude_law false m e (ordered_fits (fin false m e) t)) (step_down p (m * up e) (down e) (down_pos e) h) in
    omega arith

pub floor_at_most : (x : Float) (p : ℕ) → T (ordered x) → rank x < middle + (p + 1) * unit → floor x ≤ p
floor_at_most x p t h =
    let k : (rank x - middle) / unit < p + 1 = (div-lt_iff_lt-mul unit_pos).1 (let l : 0 < (p + 1) * unit = lt_of_lt_of_le unit_pos (le_trans (le_of_eq (sym (one-mul unit))) (mul-le-mul_right unit (omega arith))) in omega arith) in
    let e = floor_rank x t in
    omega arith

pub at_most_floor : (x : Float) (p : ℕ) → T (ordered x) → floor x ≤ p → rank x < middle + (p + 1) * unit
at_most_floor x p t h =
    let e = floor_rank x t in
    let k : rank x - middle < (p + 1) * unit = (div-lt_iff_lt-mul unit_pos).0 (omega arith) in
    omega arith

-- ---- N1 and N2: the tests of a whole number against a value, and against the value rounded
pub floor_whole : (x : Float) (p : ℕ) → T (ordered x) → p + 1 ≤ 2 ^ 53 → leb (floor x) p ≡ lt x (whole (p + 1))
floor_whole x p t b =
    same_bool (leb (floor x) p) (ltb (rank x) (middle + (p + 1) * unit)) (λ u. lt→ltb _ _ (at_most_floor x p t (leb→le (floor x) p u))) (λ u. le→leb _ _ (floor_at_most x p t (ltb→lt (rank x) (middle + (p + 1) * unit) u)))
    ∙ sym (rank_lt x (whole (p + 1)) t (whole_ordered (p + 1) b) ∙ ap (λ (z : ℕ). ltb (rank x) z) (rank_whole (p + 1) b))

pub whole_ceil : (x : Float) (p : ℕ) → T (ordered x) → p ≤ 2 ^ 53 → ltb p (ceil x) ≡ lt (whole p) x
whole_ceil x p t b =
    same_bool (ltb p (ceil x)) (ltb (middle + p * unit) (rank x)) (λ u. lt→ltb _ _ (ceil_below x p t (ltb→lt p (ceil x) u))) (λ u. lt→ltb _ _ (below_ceil x p t (ltb→lt (middle + p * unit) (rank x) u)))
    ∙ sym (rank_lt (whole p) x (whole_ordered p b) t ∙ ap (λ (z : ℕ). ltb z (rank x)) (rank_whole p b))

-- ---- the same facts as bounds
pub ceil_at_most : (x : Float) (p : ℕ) → T (ordered x) → rank x ≤ middle + p * unit → ceil x ≤ p
ceil_at_most x p t h = nltb→le p (ceil x) (not_T (ltb p (ceil x)) (λ u. let k = ceil_below x p t (ltb→lt p (ceil x) u) in omega arith))

pub floor_at_least : (x : Float) (p : ℕ) → T (ordered x) → middle + p * unit ≤ rank x → p ≤ floor x
floor_at_least x p t h = let k : p ≤ (rank x - middle) / unit = to_floor (rank x - middle) p (omega arith) in let e = floor_rank x t in omega arith

pub floor_ceil : (x : Float) → floor x ≤ ceil x
unfolding floor ceil
floor_ceil nan = omega arith
floor_ceil (inf true) = omega arith
floor_ceil (inf false) = le_refl (2 ^ 1024)
floor_ceil (fin true m e) = omega arith
floor_ceil (fin false m e) = (le-div_iff_mul-le (down_pos e)).1 (let k = div-mul-le_self (m * up e) (down e) in omega arith)

-- ---- rounding goes by the rank alone, so by the value
pub floor_mono : (x y : Float) → T (ordered x) → T (ordered y) → rank x ≤ rank y → floor x ≤ floor y
floor_mono x y s t h =
    let k = at_most_floor y (floor y) t (le_refl (floor y)) in
    floor_at_most x (floor y) s (omega arith)

pub ceil_mono : (x y : Float) → T (ordered x) → T (ordered y) → rank x ≤ rank y → ceil x ≤ ceil y
ceil_mono x y s t h = nltb→le (ceil y) (ceil x) (not_T (ltb (ceil y) (ceil x)) (λ u. let k = ceil_below x (ceil y) s (ltb→lt (ceil y) (ceil x) u) in let l = below_ceil y (ceil y) t (omega arith) in omega arith))

module _ (x y : Float) (s : T (ordered x)) (t : T (ordered y)) (p : Same x y) where
  pub floor_same : floor x ≡ floor y
  floor_same = let r = same_rank x y p in let h = floor_mono x y s t (omega arith) in let k = floor_mono y x t s (omega arith) in omega arith

  pub ceil_same : ceil x ≡ ceil y
  ceil_same = let r = same_rank x y p in let h = ceil_mono x y s t (omega arith) in let k = ceil_mono y x t s (omega arith) in omega arith

-- ---- a value rounded up, from the value rounded down
module _ (x : Float) (t : T (ordered x)) (b : floor x ≤ 2 ^ 53) where
  pub ceil_more : lt (whole (floor x)) x ≡ true → ceil x ≡ floor x + 1
  ceil_more e =
      let k : floor x < ceil x = ltb→lt (floor x) (ceil x) (subst T (sym (whole_ceil x (floor x) t b ∙ e)) tt) in
      let l = ceil_at_most x (floor x + 1) t (let h = at_most_floor x (floor x) t (le_refl (floor x)) in omega arith) in
      omega arith

  pub ceil_even : lt (whole (floor x)) x ≡ false → ceil x ≡ floor x
  ceil_even e =
      let k : ceil x ≤ floor x = ltb-false (floor x) (ceil x) (whole_ceil x (floor x) t b ∙ e) in
      let l = floor_ceil x in
      omega arith
