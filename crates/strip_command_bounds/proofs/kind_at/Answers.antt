-- `strip_command_bounds::kind_at` meets its contract: a byte stands there, it is a command's, and the command is whole. Assumes nothing.
use mathlib.Core.Path.{sym, ap, ◌∙◌}
use Rattle.strip_format.specs.Kinds.{kind_of}
use Rattle.strip_format.proofs.Codes.{decoded}
use Rattle.strip_command_bounds.proofs.Standing.{kind_past, kind_none, kind_told}
use Rattle.strip_command_bounds.proofs.kind_at.Goals as goal

pub returns-in_err-get : goal.returns-in_err-get
returns-in_err-get c = c.from_residual.ensures ∙ sym (kind_past _ _ c.in_err-get.ensures.lookup.3)

pub returns-in_err-kind : goal.returns-in_err-kind
returns-in_err-kind c = c.from_residual-in_err-kind.ensures ∙ sym (kind_none _ _ (ap kind_of (sym (c.in_ok-get.ensures.lookup.3.1 0)) ∙ decoded _ _ _ c.try_from.ensures c.in_err-kind.ensures.value))

pub returns : goal.returns
returns c = c.then_some.ensures ∙ kind_told _ _ _ _ (ap kind_of (sym (c.in_ok-get.ensures.lookup.3.1 0)) ∙ decoded _ _ _ c.try_from.ensures c.in_ok-kind.ensures.value) c.length.ensures c.in_ok-get.ensures.lookup.3.0
