use mathlib.Core.List.{[]}
use Rattle.std.specs.Prelude.{Err}
use mathlib.Core.Path.{ap, ◌∙◌}
use Rattle.strip.proofs.Effects.{pop_none, pop_read}
use Rattle.strip.proofs.Cursor.pop.Goals as goal

pub returns-then-self-eq0 : goal.returns-then-self-eq0
returns-then-self-eq0 c = ap Err c.at.ensures ∙ pop_none [] _ c.if-self-eq0.true

pub returns : goal.returns
returns c = pop_read [] _ c.if-self-eq0.false
