-- `strip::pass_while` meets its contract: each turn is a step that only moves the cursor. Assumes nothing.
use Rattle.std.specs.Prelude.{Ok}
use Rattle.strip.proofs.Settled.{passes_none, passes_one, glyph_read_lem}
use Rattle.strip.specs.declared.Cursor.{Cursor}
use Rattle.strip.specs.declared.Step.TheVariants.{Next}
use mathlib.Core.Path.{refl, ap, sym, ◌∙◌}
use Rattle.strip.proofs.pass_while.Goals as goal

pub loop-bounds-init : goal.loop-bounds-init
loop-bounds-init g c = (refl, passes_none _ _)

pub loop-bounds-preserved : goal.loop-bounds-preserved
loop-bounds-preserved g c = (
  ap (λ (x : Cursor). x.run) c.past_glyph-next.ensures ∙ c.loop-bounds.invariant.0,
  passes_one _ _ _ _ c.loop-bounds.invariant.1 ((c.requires.told _ c.loop-bounds.invariant.0 c.loop-bounds-test.ensures).step ∙ ap (λ (x : Cursor). Ok (Next x)) (sym (glyph_read_lem _ _ _ _ c.rect_finite-bounds.ensures c.past_glyph-next.ensures))),
)
