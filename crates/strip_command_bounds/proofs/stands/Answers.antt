-- `strip_command_bounds::stands` meets its contract: the kind's byte, and the room behind it. Assumes nothing.
use mathlib.Core.Path.{sym, ◌∙◌}
use borrow.Author.Tests.{eqb-true}
use Rattle.strip_format.proofs.Codes.{kind_read}
use Rattle.strip_command_bounds.proofs.Standing.{kind_past, stands_whole, stands_cut, stands_other, missing}
use Rattle.strip_command_bounds.proofs.stands.Goals as goal

pub returns-then-s-at-clause-else_not : goal.returns-then-s-at-clause-else_not
returns-then-s-at-clause-else_not c = λ e q. missing (sym (kind_past _ _ c.if-s-at.true) ∙ q)

pub returns-then-eq-clause-whole : goal.returns-then-eq-clause-whole
returns-then-eq-clause-whole c = stands_whole _ _ _ _ (eqb-true _ _ (sym (kind_read _ _ _ c.try_from.ensures) ∙ sym c.eq.ensures ∙ c.if-eq.true)) c.length.ensures (c.if-s-at.false)

pub returns-then-eq-clause-else_not : goal.returns-then-eq-clause-else_not
returns-then-eq-clause-else_not c = stands_cut _ _ _ _ (eqb-true _ _ (sym (kind_read _ _ _ c.try_from.ensures) ∙ sym c.eq.ensures ∙ c.if-eq.true)) c.length.ensures (c.if-s-at.false)

pub returns-else-eq-clause-else_not : goal.returns-else-eq-clause-else_not
returns-else-eq-clause-else_not c = λ e. stands_other _ _ _ (sym (kind_read _ _ _ c.try_from.ensures) ∙ sym c.eq.ensures ∙ e)
