use native.Mathlib.Omega.{arith}
use mathlib.Core.Path.{sym}
use Rattle.strip_format.proofs.Past.{stroke_past}
use Rattle.strip_format.proofs.stroke_at.Goals as goal

pub returns-then-s-at : goal.returns-then-s-at
returns-then-s-at c = sym (stroke_past c.args.s.now _ (omega (arith, c.if-s-at.true)))
