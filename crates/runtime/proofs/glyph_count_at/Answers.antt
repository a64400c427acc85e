-- `runtime::glyph_count_at` meets its contract: a RUN announces its glyphs, and no other command has any. Assumes nothing.
use mathlib.Core.Path.{ap, ◌∙◌}
use native.Mathlib.Omega.{arith}
use Rattle.display_list_commands.specs.Bounds.{glyph_count}
use Rattle.strip_command_bounds.proofs.Standing.{is_run}
use Rattle.runtime.proofs.InPlace.{no_glyphs}
use Rattle.runtime.proofs.glyph_count_at.Goals as goal

pub returns-then-not-stands : goal.returns-then-not-stands
returns-then-not-stands c = no_glyphs _ _ (c.stands.ensures.else_not c.if-not-stands.true)

pub glyph_count_at-requires : goal.glyph_count_at-requires
glyph_count_at-requires c = omega (arith, (is_run _ _ (c.stands.ensures.whole c.if-not-stands.false)).1)

pub returns : goal.returns
returns c = c.from.ensures ∙ c.glyph_count_at.ensures ∙ ap glyph_count (is_run _ _ (c.stands.ensures.whole c.if-not-stands.false)).0
