use mathlib.Core.Path.{sym, subst}
use Rattle.strip_format.specs.Kinds.{Decodes}
use Rattle.strip_operand_checks.proofs.Past.{operands_past, operands_unknown}
use Rattle.strip_operand_checks.proofs.operands.Goals as goal

pub returns-then-s-at : goal.returns-then-s-at
returns-then-s-at c = sym (operands_past _ _ _ c.if-s-at.true)

pub returns-in-Err : goal.returns-in-Err
returns-in-Err c = sym (operands_unknown _ _ _ (subst (Decodes _) c.in-Err.is c.try_from.ensures).1)
