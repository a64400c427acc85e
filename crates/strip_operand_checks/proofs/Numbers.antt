-- The faults that operands can have: numbers up to 4. Assumes nothing.
use Rattle.std.specs.Prelude.{Bool, List, ℕ, ◌+◌, ◌≤◌, eqb, get_or, Result, Ok, Err}
use native.Mathlib.Omega.{arith}
use Rattle.base_lists.proofs.Picks.{pick_cases}
use Rattle.base_refusals.specs.declared.Fault.{Fault}
use Rattle.base_refusals.specs.declared.Fault.TheVariants.{UnknownCode, NotFinite}
use Rattle.base_refusals.specs.Table.{number}
use Rattle.strip_operand_checks.specs.Operands.{finite_from, finite_stroke, finite_run, finite_glyph, codes_fit, floats_pass, operands_at}

abbrev pub UpTo4 : Result (Unit {0}) Fault → Type 0
UpTo4 (Ok u) = Unit {0}
UpTo4 (Err f) = number f ≤ 4

or_four : (t : Bool) → UpTo4 (floats_pass t)
or_four t = pick_cases UpTo4 t (Ok tt) (Err NotFinite) (λ e. tt) (λ e. omega arith)

pub operands_most : (s : List ℕ) (at b : ℕ) → UpTo4 (operands_at s at b)
unfolding operands_at
operands_most s at b =
    pick_cases UpTo4 (eqb b 1) _ _ (λ e. or_four (finite_from s (at + 1) 4))
    λ e. pick_cases UpTo4 (eqb b 3) _ _ (λ e. or_four (finite_from s (at + 9) 10))
    λ e. pick_cases UpTo4 (eqb b 4) _ _ (λ e. pick_cases UpTo4 (codes_fit (get_or s (at + 105) 0) (get_or s (at + 114) 0) (get_or s (at + 115) 0)) _ (Err UnknownCode) (λ e. or_four (finite_stroke s at)) (λ e. omega arith))
    λ e. pick_cases UpTo4 (eqb b 5) _ _ (λ e. or_four (finite_run s at))
    λ e. pick_cases UpTo4 (eqb b 6) _ _ (λ e. or_four (finite_glyph s at))
    (λ e. pick_cases UpTo4 (eqb b 7) _ (Ok tt) (λ e. or_four (finite_from s (at + 25) 10)) (λ e. tt))
