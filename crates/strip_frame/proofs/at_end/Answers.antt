use Rattle.std.specs.Prelude.{Err}
use mathlib.Core.Path.{ap, ◌∙◌}
use Rattle.strip_frame.proofs.Checks.{followed, whole}
use Rattle.strip_frame.proofs.at_end.Goals as goal

pub returns-then-last-s : goal.returns-then-last-s
returns-then-last-s c = ap Err c.at.ensures ∙ followed _ _ c.if-last-s.true

pub returns : goal.returns
returns c = whole _ _ c.if-last-s.false
