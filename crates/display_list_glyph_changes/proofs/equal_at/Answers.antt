use mathlib.Core.Path.{sym, ◌∙◌}
use Rattle.display_list_glyph_changes.proofs.Places.{same_equal}
use Rattle.display_list_glyph_changes.proofs.equal_at.Goals as goal

pub returns-then-same_bytes : goal.returns-then-same_bytes
returns-then-same_bytes c = c.if-same_bytes.true ∙ sym (same_equal _ _ _ (c.same_bytes.ensures c.if-same_bytes.true))
