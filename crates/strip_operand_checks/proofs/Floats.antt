-- Operands that pass: the floats of a command's affine and box are finite, so that they may be read without a test. Assumes nothing.
use Prim.Native.Nat.{ℕ, ◌+◌, ◌*◌, ◌≤◌}
use mathlib.Core.List.{List}
use mathlib.Core.Path.{◌≡◌, refl, subst}
use mathlib.Core.Bool.{Bool, true, false, ◌&&◌}
use native.Mathlib.Omega.{arith}
use lib.ListN.{get_or}
use Rattle.std.specs.Prelude.{Result, Ok, Err}
use Rattle.base_refusals.specs.declared.Fault.{Fault}
use Rattle.base_lists.specs.Pick.{pick}
use Rattle.base_refusals.specs.declared.Fault.TheVariants.{UnknownCode}
use Rattle.strip_format.specs.Finite.{FourFinite}
use Rattle.std.proofs.lemmas.Bool.{and_parts}
use Rattle.strip_operand_checks.proofs.Finite.{finite_at}
use Rattle.strip_operand_checks.specs.Operands.{finite_from, finite_f32, finite_stroke, finite_run, finite_glyph, codes_fit, floats_pass, operands_at}

err_not_ok : {f : Fault} → ◌≡◌ {A = Result (Unit {0}) Fault} (Err f) (Ok tt) → ⊥
err_not_ok e = subst Turned e tt
  where
    Turned : Result (Unit {0}) Fault → Type 0
    Turned (Ok u) = ⊥
    Turned (Err f) = Unit {0}

-- floats that pass, and a test by which the codes decide first
finite_pass : (t : Bool) → floats_pass t ≡ Ok tt → t ≡ true
finite_pass true e = refl
finite_pass false e = absurd (err_not_ok e)

codes_pass : (codes t : Bool) → pick codes (floats_pass t) (Err UnknownCode) ≡ Ok tt → t ≡ true
codes_pass true t e = finite_pass t e
codes_pass false t e = absurd (err_not_ok e)

module _ (s : List ℕ) where
  -- four of them
  four_at : (at n k p : ℕ) → finite_from s at n ≡ true → k + 4 ≤ n → p ≡ at + 8 * k → FourFinite s p
  four_at at n k p e h q =
      record {
        first = finite_at s at n k e (omega (arith, h)) p q;
        second = finite_at s at n (k + 1) e (omega (arith, h)) (p + 8) (omega (arith, q));
        third = finite_at s at n (k + 2) e (omega (arith, h)) (p + 16) (omega (arith, q));
        fourth = finite_at s at n (k + 3) e (omega (arith, h)) (p + 24) (omega (arith, q));
      }

  module _ (at : ℕ) where
    fill_floats : operands_at s at 3 ≡ Ok tt → finite_from s (at + 9) 10 ≡ true
    unfolding operands_at
    fill_floats e = finite_pass _ e

    stroke_floats : operands_at s at 4 ≡ Ok tt → finite_from s (at + 9) 10 ≡ true
    unfolding operands_at finite_stroke
    stroke_floats e = (and_parts (finite_from s (at + 9) 10) _ (codes_pass (codes_fit (get_or s (at + 105) 0) (get_or s (at + 114) 0) (get_or s (at + 115) 0)) (finite_stroke s at) e)).0

    run_floats : operands_at s at 5 ≡ Ok tt → (finite_from s (at + 13) 6 ≡ true) × (finite_from s (at + 69) 4 ≡ true)
    unfolding operands_at finite_run
    run_floats e = and_parts (finite_from s (at + 13) 6) (finite_from s (at + 69) 4) (and_parts (finite_f32 s (at + 9)) (finite_from s (at + 13) 6 && finite_from s (at + 69) 4) (finite_pass (finite_run s at) e)).1

    scene_floats : operands_at s at 7 ≡ Ok tt → finite_from s (at + 25) 10 ≡ true
    unfolding operands_at
    scene_floats e = finite_pass _ e

    -- the box of a CLIP and of a GLYPH
    pub clip_finite : operands_at s at 1 ≡ Ok tt → FourFinite s (at + 1)
    unfolding operands_at
    clip_finite e = four_at (at + 1) 4 0 (at + 1) (finite_pass (finite_from s (at + 1) 4) e) (omega arith) (omega arith)

    pub glyph_finite : finite_glyph s at ≡ true → FourFinite s (at + 13)
    unfolding finite_glyph
    glyph_finite e = four_at (at + 13) 4 0 (at + 13) (and_parts (finite_f32 s (at + 9)) (finite_from s (at + 13) 4) (and_parts (finite_f32 s (at + 5)) (finite_f32 s (at + 9) && finite_from s (at + 13) 4) e).1).1 (omega arith) (omega arith)

    pub glyph_floats : operands_at s at 6 ≡ Ok tt → finite_glyph s at ≡ true
    unfolding operands_at
    glyph_floats e = finite_pass (finite_glyph s at) e

    -- box, and affine by its first and its last four floats, of each kind that draws
    path_finite : finite_from s (at + 9) 10 ≡ true → FourFinite s (at + 9) × FourFinite s (at + 41) × FourFinite s (at + 41 + 16)
    path_finite f = (four_at (at + 9) 10 0 (at + 9) f (omega arith) (omega arith), four_at (at + 9) 10 4 (at + 41) f (omega arith) (omega arith), four_at (at + 9) 10 6 (at + 41 + 16) f (omega arith) (omega arith))

    pub fill_finite : operands_at s at 3 ≡ Ok tt → FourFinite s (at + 9) × FourFinite s (at + 41) × FourFinite s (at + 41 + 16)
    fill_finite e = path_finite (fill_floats e)

    pub stroke_finite : operands_at s at 4 ≡ Ok tt → FourFinite s (at + 9) × FourFinite s (at + 41) × FourFinite s (at + 41 + 16)
    stroke_finite e = path_finite (stroke_floats e)

    pub run_finite : operands_at s at 5 ≡ Ok tt → FourFinite s (at + 69) × FourFinite s (at + 13) × FourFinite s (at + 13 + 16)
    run_finite e = let f = run_floats e in (four_at (at + 69) 4 0 (at + 69) f.1 (omega arith) (omega arith), four_at (at + 13) 6 0 (at + 13) f.0 (omega arith) (omega arith), four_at (at + 13) 6 2 (at + 13 + 16) f.0 (omega arith) (omega arith))

    pub scene_finite : operands_at s at 7 ≡ Ok tt → FourFinite s (at + 73) × FourFinite s (at + 25) × FourFinite s (at + 25 + 16)
    scene_finite e = let f = scene_floats e in (four_at (at + 25) 10 6 (at + 73) f (omega arith) (omega arith), four_at (at + 25) 10 0 (at + 25) f (omega arith) (omega arith), four_at (at + 25) 10 2 (at + 25 + 16) f (omega arith) (omega arith))
