-- A row of finite floats, from its front and by place. Assumes nothing.
use Prim.Native.Nat.{ℕ, zero, suc, ◌+◌, ◌*◌, ◌<◌}
use mathlib.Core.List.{List}
use mathlib.Core.Path.{◌≡◌, refl, sym, subst}
use mathlib.Core.Bool.{Bool, true, false}
use native.Mathlib.Omega.{arith}
use lib.Ieee.{binary64, of_bits}
use lib.Ieee.Scale.{finite}
use Rattle.std.proofs.lemmas.Bool.{and_parts}
use Rattle.base_little_endian.specs.Words.{u64_at}
use Rattle.strip_format.specs.Finite.{AllFinite}
use Rattle.strip_operand_checks.specs.Operands.{finite_from}

module _ (s : List ℕ) where
  -- the float at a place of a row that is finite
  pub finite_at : (at n k : ℕ) → finite_from s at n ≡ true → k < n → (p : ℕ) → p ≡ at + 8 * k → finite (of_bits binary64 (u64_at s p)) ≡ true
  unfolding finite_from
  finite_at at zero k e h p q = absurd (omega (arith, h))
  finite_at at (suc n) zero e h p q = subst (λ (z : ℕ). finite (of_bits binary64 (u64_at s z)) ≡ true) (omega (arith, q)) (and_parts _ _ e).0
  finite_at at (suc n) (suc k) e h p q = finite_at (at + 8) n k (and_parts (finite (of_bits binary64 (u64_at s at))) (finite_from s (at + 8) n) e).1 (omega (arith, h)) p (omega (arith, q))

  -- a row is finite where each of its floats is
  pub from_all : (at n : ℕ) → AllFinite s at n → finite_from s at n ≡ true
  unfolding finite_from AllFinite
  from_all at zero w = refl
  from_all at (suc n) w = rw (at_place (at + 8 * 0) at (omega arith) (w 0 (omega arith))) (from_all (at + 8) n (λ i l. at_place (at + 8 * suc i) (at + 8 + 8 * i) (omega arith) (w (suc i) (omega (arith, l)))))
    where
      at_place : (p q : ℕ) → p ≡ q → finite (of_bits binary64 (u64_at s p)) ≡ true → finite (of_bits binary64 (u64_at s q)) ≡ true
      at_place p q e = subst (λ (z : ℕ). finite (of_bits binary64 (u64_at s z)) ≡ true) e

  pub all_from : (at n : ℕ) → finite_from s at n ≡ true → AllFinite s at n
  unfolding AllFinite
  all_from at n e i l = finite_at at n i e l (at + 8 * i) refl

  -- a test that tells one tells the other
  pub finite_told : (at n : ℕ) {b : Bool} → (b ≡ true → AllFinite s at n) → (AllFinite s at n → b ≡ true) → b ≡ finite_from s at n
  finite_told at n f g = alike _ (finite_from s at n) (λ e. from_all at n (f e)) (λ e. g (all_from at n e))
    where
      alike : (b t : Bool) → (b ≡ true → t ≡ true) → (t ≡ true → b ≡ true) → b ≡ t
      alike true t p q = sym (p refl)
      alike false true p q = q refl
      alike false false p q = refl
