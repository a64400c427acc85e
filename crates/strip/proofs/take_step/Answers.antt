use Rattle.std.proofs.lemmas.Result.{err_from_is_err_and}
use Rattle.std.specs.Prelude.{Err}
use Rattle.strip_format.proofs.Codes.{code_most}
use native.Mathlib.Omega.{arith}
use mathlib.Core.Path.{refl, sym, ap, ◌∙◌}
use Rattle.strip.proofs.Effects.{step_past, step_unknown, step_due, step_short, step_operands, step_effect}
use Rattle.strip.proofs.take_step.Goals as goal

pub returns-then-s-at : goal.returns-then-s-at
returns-then-s-at c = ap Err c.at.ensures ∙ step_past _ _ c.if-s-at.true

pub returns-in_default : goal.returns-in_default
returns-in_default c = ap Err c.at-in_default.ensures ∙ step_unknown _ _ _ refl c.if-s-at.false c.in_default.ensures.1

pub returns-then-not-due_fits : goal.returns-then-not-due_fits
returns-then-not-due_fits c = ap Err c.at-then-not-due_fits.ensures ∙ step_due _ _ _ (sym c.in-Ok.ensures) c.if-s-at.false (code_most _) (sym c.due_fits.ensures ∙ c.if-not-due_fits.true)

pub returns-then-s-at-2 : goal.returns-then-s-at-2
returns-then-s-at-2 c = ap Err c.at-then-s-at-2.ensures ∙ step_short _ _ _ (sym c.in-Ok.ensures) c.if-s-at.false (code_most _) (sym c.due_fits.ensures ∙ c.if-not-due_fits.false) (omega (arith, c.if-s-at-2.true, c.length.ensures))

pub returns-in-Err : goal.returns-in-Err
returns-in-Err c = ap Err c.at-in-Err.ensures ∙ step_operands _ _ _ (sym c.in-Ok.ensures) c.if-s-at.false (code_most _) (sym c.due_fits.ensures ∙ c.if-not-due_fits.false) _ (omega (arith, c.if-s-at-2.false, c.length.ensures)) (rw c.in-Ok.ensures (sym c.operands.ensures ∙ c.in-Err.is))

pub returns-in_err-effect_of-in-Ok-operands : goal.returns-in_err-effect_of-in-Ok-operands
returns-in_err-effect_of-in-Ok-operands c = let p = err_from_is_err_and c.from_residual.result c.from_residual.ensures.1 in rw (p.1, p.2) (c.in_err-effect_of-in-Ok-operands.ensures ∙ step_effect _ _ _ (sym c.in-Ok.ensures) c.if-s-at.false (code_most _) (sym c.due_fits.ensures ∙ c.if-not-due_fits.false) (omega (arith, c.if-s-at-2.false, c.length.ensures)) (rw c.in-Ok.ensures (sym c.operands.ensures ∙ c.in-Ok-operands.is)))

pub returns-in_ok-effect_of-in-Ok-operands : goal.returns-in_ok-effect_of-in-Ok-operands
returns-in_ok-effect_of-in-Ok-operands c = c.settle.ensures ∙ c.in_ok-effect_of-in-Ok-operands.ensures ∙ step_effect _ _ _ (sym c.in-Ok.ensures) c.if-s-at.false (code_most _) (sym c.due_fits.ensures ∙ c.if-not-due_fits.false) (omega (arith, c.if-s-at-2.false, c.length.ensures)) (rw c.in-Ok.ensures (sym c.operands.ensures ∙ c.in-Ok-operands.is))
