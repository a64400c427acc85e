-- What the end cuts off counts as 0. Assumes nothing.
use mathlib.Core.Path.{sym, ap, ◌∙◌}
use native.Mathlib.Omega.{arith}
use Rattle.std.specs.Float.{binary64}
use Rattle.std.specs.Float.Ieee.{of_bits}
use Rattle.std.specs.Float.Ieee.Scale.{finite}
use Prim.Native.Nat.{ℕ}
use Rattle.strip_operand_checks.proofs.Finite.{finite_told}
use Rattle.strip_operand_checks.proofs.Past.{from_past, cut_on, cut_off}
use Rattle.strip_operand_checks.proofs.finite_from.Goals as goal

pub returns-then-s-at : goal.returns-then-s-at
returns-then-s-at c = sym (from_past _ _ _ c.if-s-at.true)

pub returns-then-at-n : goal.returns-then-at-n
returns-then-at-n c = finite_told _ _ _ c.all_finite.ensures.passes c.all_finite.ensures.all

pub returns-then-all_finite : goal.returns-then-all_finite
returns-then-all_finite c = c.finite64.ensures ∙ ap (λ (u : ℕ). finite (of_bits binary64 u)) c.u64_at.ensures ∙ cut_on _ _ _ _ (omega (arith, c.if-s-at.false)) (omega (arith, c.if-at-n.false, c.if-s-at.false)) (finite_told _ _ _ c.all_finite-2.ensures.passes c.all_finite-2.ensures.all) c.if-all_finite.true

pub returns-else-all_finite : goal.returns-else-all_finite
returns-else-all_finite c = cut_off _ _ _ _ (omega (arith, c.if-s-at.false)) (omega (arith, c.if-at-n.false, c.if-s-at.false)) (finite_told _ _ _ c.all_finite-2.ensures.passes c.all_finite-2.ensures.all) c.if-all_finite.false
