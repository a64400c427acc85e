-- N3: the next lower value is lower, and no value lies between. Assumes nothing.
use Rattle.std.proofs.Common.{◌≡◌, ℕ, zero, suc, ◌+◌, ◌-◌, ◌*◌, ◌^◌, ◌<◌, ◌≤◌, Bool, true, false, T, ℤ, sym, refl, ap, subst, ⊎_elim, mul-pos, zero-mul, arith}
use lib.Ieee.{Float, nan, inf, fin, binary64, neg, fits, of_bits, to_bits}
use lib.Ieee.Fits.{and_r}
use lib.Ieee.Bits.{of_bits-to_bits}
use Rattle.base_lists.proofs.Picks.{le_or_lt}
use Rattle.base_ieee.proofs.Rank.{middle, scale, scale_pos, rank, ordered, ordered_fits, middle_pos}
use Rattle.base_ieee.proofs.Patterns.{infinity_bits, infinity_rank, zero_rank, bits_lt, bits_neg, bits_ordered, neg_rank, neg_bits, pattern, pattern_before, pattern_after}
use Rattle.base_ieee.proofs.Values.{neg_ordered}
use Rattle.base_floats.specs.Next.{next_down}

-- what makes w the next lower value of y
pub record Next (y w : Float) : Type 0 where
  pub is_ordered : T (ordered w)
  pub less : rank w < rank y
  pub nearest : (z : Float) → T (ordered z) → rank z < rank y → rank z ≤ rank w

-- above zero: the pattern before
from_above : (y : Float) → T (ordered y) → middle < rank y → Next y (of_bits binary64 (to_bits binary64 y - 1))
from_above y t h =
    let p = pattern y t h in
    let e = ap rank (of_bits-to_bits binary64 y (ordered_fits y t)) in
    record {
      is_ordered = bits_ordered (to_bits binary64 y - 1) (omega arith);
      less = (let l = bits_lt (to_bits binary64 y - 1) (to_bits binary64 y) (omega arith) p.1 in omega arith);
      nearest = λ z u k. pattern_before (to_bits binary64 y) z u p.0 p.1 (omega arith);
    }

-- at zero and below: b is the pattern of the magnitude, and the magnitude grows
from_below : (y : Float) (b : ℕ) → b < infinity_bits → rank (of_bits binary64 b) + rank y ≡ middle + middle → Next y (of_bits binary64 (2 ^ 63 + (b + 1)))
from_below y b h e =
    let g = bits_neg (b + 1) (omega arith) in
    let o = bits_ordered (b + 1) (omega arith) in
    let m = neg_rank (of_bits binary64 (b + 1)) o in
    let r = ap rank g in
    record {
      is_ordered = subst (λ (x : Float). T (ordered x)) (sym g) (neg_ordered (of_bits binary64 (b + 1)) o);
      less = (let l = bits_lt b (b + 1) (omega arith) (omega arith) in omega arith);
      nearest = λ z u k. (let n = neg_rank z u in let l = pattern_after b (neg z) (neg_ordered z u) h (omega arith) in omega arith);
    }

-- the pattern of a finite value below zero is that of its magnitude with the sign set
pub record Negative (y : Float) : Type 0 where
  pub bits : to_bits binary64 y ≡ 2 ^ 63 + to_bits binary64 (neg y)
  pub below : to_bits binary64 (neg y) < infinity_bits
  pub mirror : rank (of_bits binary64 (to_bits binary64 (neg y))) + rank y ≡ middle + middle

pub negative : (y : Float) → T (ordered y) → 0 < rank y → rank y < middle → Negative y
negative y t f h =
    let n = neg_rank y t in
    let o = neg_ordered y t in
    let p = pattern (neg y) o (omega arith) in
    let b = ap rank (of_bits-to_bits binary64 (neg y) (ordered_fits (neg y) o)) in
    record {
      bits = neg_bits y t h;
      below = ⊎_elim
          (λ (l : infinity_bits ≤ to_bits binary64 (neg y)). let q : to_bits binary64 (neg y) ≡ infinity_bits = omega arith in let r = ap (λ (n : ℕ). rank (of_bits binary64 n)) q in omega (arith, infinity_rank))
          (λ l. l)
          (le_or_lt infinity_bits (to_bits binary64 (neg y)));
      mirror = omega arith;
    }

magnitude : (y : Float) → Negative y → Next y (of_bits binary64 (to_bits binary64 y + 1))
magnitude y n =
    let b = n.bits in
    let e : 2 ^ 63 + (to_bits binary64 (neg y) + 1) ≡ to_bits binary64 y + 1 = omega arith in
    subst (λ (n : ℕ). Next y (of_bits binary64 n)) e (from_below y (to_bits binary64 (neg y)) n.below n.mirror)

-- ---- which case of the definition a value is, by its rank
zero_at : (s : Bool) (e : ℤ) → rank (fin s zero e) ≡ middle
unfolding rank
zero_at true e = omega (arith, zero-mul (scale e))
zero_at false e = omega (arith, zero-mul (scale e))

pub positive_at : (m : ℕ) (e : ℤ) → middle < rank (fin false (suc m) e)
unfolding rank
positive_at m e = let k : 0 < suc m * scale e = mul-pos (omega arith) (scale_pos e) in omega arith

pub negative_at : (m : ℕ) (e : ℤ) → rank (fin true (suc m) e) < middle
unfolding rank
negative_at m e = let k : 0 < suc m * scale e = mul-pos (omega arith) (scale_pos e) in omega (arith, middle_pos)

infinity_at : middle < rank (inf false)
unfolding rank
infinity_at = omega (arith, middle_pos)

minus_infinity_at : rank (inf true) ≡ 0
unfolding rank
minus_infinity_at = omega arith

never : {A : Type 0} → ⊥ → A
never n = absurd n

pub at_zero : (y : Float) → T (ordered y) → rank y ≡ middle → next_down y ≡ of_bits binary64 0x8000_0000_0000_0001
unfolding next_down
at_zero nan t h = absurd (and_r (fits binary64 nan) false t)
at_zero (inf true) t h = never (omega (arith, minus_infinity_at, middle_pos))
at_zero (inf false) t h = never (omega (arith, infinity_at))
at_zero (fin s zero e) t h = refl
at_zero (fin true (suc m) e) t h = never (omega (arith, negative_at m e))
at_zero (fin false (suc m) e) t h = never (omega (arith, positive_at m e))

pub above_zero : (y : Float) → T (ordered y) → middle < rank y → next_down y ≡ of_bits binary64 (to_bits binary64 y - 1)
unfolding next_down
above_zero nan t h = absurd (and_r (fits binary64 nan) false t)
above_zero (inf true) t h = never (omega (arith, minus_infinity_at))
above_zero (inf false) t h = refl
above_zero (fin s zero e) t h = never (omega (arith, zero_at s e))
above_zero (fin true (suc m) e) t h = never (omega (arith, negative_at m e))
above_zero (fin false (suc m) e) t h = refl

pub below_zero : (y : Float) → T (ordered y) → 0 < rank y → rank y < middle → next_down y ≡ of_bits binary64 (to_bits binary64 y + 1)
unfolding next_down
below_zero nan t f h = absurd (and_r (fits binary64 nan) false t)
below_zero (inf true) t f h = never (omega (arith, minus_infinity_at))
below_zero (inf false) t f h = never (omega (arith, infinity_at))
below_zero (fin s zero e) t f h = never (omega (arith, zero_at s e))
below_zero (fin true (suc m) e) t f h = refl
below_zero (fin false (suc m) e) t f h = never (omega (arith, positive_at m e))

-- every value but minus infinity and a NaN has one
pub next_down_lem : (y : Float) → T (ordered y) → 0 < rank y → Next y (next_down y)
next_down_lem y t h = ⊎_elim
    (λ (l : rank y ≤ middle). ⊎_elim
    (λ (k : middle ≤ rank y). let e : rank y ≡ middle = omega arith in subst (Next y) (sym (at_zero y t e)) (from_below y 0 (omega arith) (omega (arith, zero_rank))))
    (λ (k : rank y < middle). subst (Next y) (sym (below_zero y t h k)) (magnitude y (negative y t h k)))
    (le_or_lt middle (rank y)))
    (λ (l : middle < rank y). subst (Next y) (sym (above_zero y t l)) (from_above y t l))
    (le_or_lt (rank y) middle)
