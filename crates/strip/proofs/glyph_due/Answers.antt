-- `strip::glyph_due` meets its contract: the counts let a glyph pass, and one stands whole there. Assumes nothing.
use Rattle.strip.proofs.Due.{due_stands}
use Rattle.strip.proofs.glyph_due.Goals as goal

pub returns-then-st-lt-MOST_GLYPHS : goal.returns-then-st-lt-MOST_GLYPHS
returns-then-st-lt-MOST_GLYPHS c = λ e. due_stands _ _ c.if-st-lt-MOST_GLYPHS.true (c.stands.ensures.whole e)
