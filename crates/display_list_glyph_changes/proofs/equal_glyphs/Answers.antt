-- `display_list_glyph_changes::equal_glyphs` meets its contract: what is left of both runs decides as the whole does. Assumes nothing.
use mathlib.Core.Path.{sym, ◌∙◌}
use native.Mathlib.Omega.{arith}
use Rattle.display_list_glyph_changes.proofs.Places.{equal_counts, equal_next, equal_stop, equal_end}
use Rattle.display_list_glyph_changes.proofs.equal_glyphs.Goals as goal

pub returns-then-old-new : goal.returns-then-old-new
returns-then-old-new c = sym (equal_counts _ _ _ _ _ c.if-old-new.true)

pub returns-then-not-equal_at : goal.returns-then-not-equal_at
returns-then-not-equal_at c = sym (c.loop-k.invariant ∙ equal_stop _ _ _ _ _ _ (omega arith) (omega arith) (sym c.equal_at.ensures ∙ c.if-not-equal_at.true))

pub loop-k-preserved : goal.loop-k-preserved
loop-k-preserved c = c.loop-k.invariant ∙ equal_next _ _ _ _ _ _ (omega arith) (omega arith) (sym c.equal_at.ensures ∙ c.if-not-equal_at.false)

pub returns : goal.returns
returns c = sym (c.loop-k.invariant ∙ equal_end _ _ _ _ _ _ (omega arith) (omega arith))
