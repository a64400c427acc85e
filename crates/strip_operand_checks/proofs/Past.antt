-- Operands past the end are all 0, and pass. Assumes nothing.
use Prim.Native.Nat.{ℕ, zero, suc, ◌+◌, ◌*◌, ◌≤◌, ◌<◌}
use mathlib.Core.List.{List}
use mathlib.Core.Path.{◌≡◌, refl, sym, ap, ◌∙◌}
use mathlib.Core.Bool.{Bool, true, false, ◌&&◌}
use native.Mathlib.Omega.{arith}
use lib.Ieee.{binary32, binary64, of_bits}
use lib.Ieee.Scale.{finite}
use lib.ListN.{length, get_or}
use borrow.Author.Tests.{ne_eqb}
use Rattle.std.proofs.Math.Bool.{and-true, and_assoc}
use Rattle.std.specs.Prelude.{Result, Ok}
use Rattle.base_refusals.specs.declared.Fault.{Fault}
use Rattle.base_lists.proofs.Picks.{pick_same}
use Rattle.base_little_endian.specs.Words.{u64_at}
use Rattle.base_little_endian.proofs.Past.{byte_past, u32_past, u64_past}
use Rattle.strip_operand_checks.specs.Operands.{finite_from, finite_f32, finite_stroke, finite_run, finite_glyph, codes_fit, operands_at}

module _ (s : List ℕ) where
  pub from_past : (at n : ℕ) → length s ≤ at → finite_from s at n ≡ true
  unfolding finite_from of_bits
  from_past at zero p = refl
  from_past at (suc n) p = rw (u64_past s at p) (from_past (at + 8) n (omega arith))

  -- where the end cuts the float at place w of n, those in front of it and what is left of it decide
  cut_from : (at n w p : ℕ) → length s ≤ p + 8 → w < n → p ≡ at + 8 * w → finite_from s at n ≡ (finite_from s at w && finite (of_bits binary64 (u64_at s p)))
  unfolding finite_from
  cut_from at zero w p l h q = absurd (omega (arith, h))
  cut_from at (suc n) zero p l h q =
      let e : at ≡ p = omega (arith, q) in
      ap (λ t. finite (of_bits binary64 (u64_at s at)) && t) (from_past (at + 8) n (omega (arith, l, q))) ∙ and-true (finite (of_bits binary64 (u64_at s at))) ∙ ap (λ (z : ℕ). finite (of_bits binary64 (u64_at s z))) e
  cut_from at (suc n) (suc w) p l h q = ap (λ t. finite (of_bits binary64 (u64_at s at)) && t) (cut_from (at + 8) n w p l (omega (arith, h)) (omega (arith, q))) ∙ sym (and_assoc (finite (of_bits binary64 (u64_at s at))) (finite_from s (at + 8) w) (finite (of_bits binary64 (u64_at s p))))

  module _ (at n w : ℕ) (l : length s ≤ at + 8 * w + 8) (h : w < n) {b : Bool} (e : b ≡ finite_from s at w) where
    cut : finite_from s at n ≡ (b && finite (of_bits binary64 (u64_at s (at + 8 * w))))
    cut = cut_from at n w (at + 8 * w) l h refl ∙ ap (λ t. t && finite (of_bits binary64 (u64_at s (at + 8 * w)))) (sym e)

    pub cut_on : b ≡ true → finite (of_bits binary64 (u64_at s (at + 8 * w))) ≡ finite_from s at n
    cut_on f = sym (cut ∙ ap (λ t. t && finite (of_bits binary64 (u64_at s (at + 8 * w)))) f)

    pub cut_off : b ≡ false → b ≡ finite_from s at n
    cut_off f = f ∙ sym (cut ∙ ap (λ t. t && finite (of_bits binary64 (u64_at s (at + 8 * w)))) f)

  f32_past : (at : ℕ) → length s ≤ at → finite_f32 s at ≡ true
  unfolding of_bits
  f32_past at p = ap (λ (u : ℕ). finite (of_bits binary32 u)) (u32_past s at p)

  stroke_past : (at : ℕ) → length s ≤ at → finite_stroke s at ≡ true
  unfolding finite_stroke
  stroke_past at p = rw (from_past (at + 9) 10 (omega arith), from_past (at + 97) 1 (omega arith)) (from_past (at + 106) 1 (omega arith))

  run_past : (at : ℕ) → length s ≤ at → finite_run s at ≡ true
  unfolding finite_run
  run_past at p = rw (f32_past (at + 9) (omega arith), from_past (at + 13) 6 (omega arith)) (from_past (at + 69) 4 (omega arith))

  pub glyph_past : (at : ℕ) → length s ≤ at → finite_glyph s at ≡ true
  unfolding finite_glyph
  glyph_past at p = rw (f32_past (at + 5) (omega arith), f32_past (at + 9) (omega arith)) (from_past (at + 13) 4 (omega arith))

  codes_past : (at : ℕ) → length s ≤ at → codes_fit (get_or s (at + 105) 0) (get_or s (at + 114) 0) (get_or s (at + 115) 0) ≡ true
  unfolding codes_fit
  codes_past at p = rw (byte_past s (at + 105) (omega arith), byte_past s (at + 114) (omega arith), byte_past s (at + 115) (omega arith))

  pub operands_past : (at b : ℕ) → length s ≤ at → operands_at s at b ≡ Ok tt
  unfolding operands_at
  operands_past at b p =
      rw (from_past (at + 1) 4 (omega arith), from_past (at + 9) 10 (omega arith), codes_past at p, stroke_past at p, run_past at p, glyph_past at p, from_past (at + 25) 10 (omega arith))
      (simp (pick_same {A = Result (Unit {0}) Fault}))

  -- a byte that is no command's has no operands
  pub operands_unknown : (at b : ℕ) → 7 < b → operands_at s at b ≡ Ok tt
  unfolding operands_at
  operands_unknown at b h = simp (ne_eqb b 1 (λ e. omega arith), ne_eqb b 3 (λ e. omega arith), ne_eqb b 4 (λ e. omega arith), ne_eqb b 5 (λ e. omega arith), ne_eqb b 6 (λ e. omega arith), ne_eqb b 7 (λ e. omega arith))
