use Rattle.strip.proofs.Settled.{last_one, one_more}
use Rattle.strip.proofs.Cursor.last.Goals as goal

pub returns-then-self-eq1 : goal.returns-then-self-eq1
returns-then-self-eq1 c = last_one _ _ _ c.past_glyph-next.ensures c.if-self-eq1.true

pub returns-else-self-eq1 : goal.returns-else-self-eq1
returns-else-self-eq1 c = one_more _ _ _ c.past_glyph-next.ensures c.if-self-eq1.false
