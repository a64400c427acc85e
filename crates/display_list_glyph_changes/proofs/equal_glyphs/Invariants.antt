use mathlib.Core.Path.{◌≡◌}
use Rattle.display_list_operand_equality.specs.Operands.{equal_glyphs}
use Rattle.display_list_glyph_changes.specs.Runs.{glyphs_of}
use Rattle.display_list_glyph_changes.proofs.Places.{from}
use Rattle.display_list_glyph_changes.proofs.equal_glyphs.Given as goal

abbrev pub invariant-loop-k : goal.invariant-loop-k
invariant-loop-k l = equal_glyphs (glyphs_of l.s l.old) (glyphs_of l.s l.new) ≡ equal_glyphs (from l.s l.old.glyphs l.old.count l.k) (from l.s l.new.glyphs l.new.count l.k)
