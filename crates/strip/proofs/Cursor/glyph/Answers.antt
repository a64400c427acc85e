use Rattle.std.specs.Prelude.{Err}
use Rattle.strip.proofs.Settled.{last_settles, corners_finite, corners_not_finite}
use Rattle.strip.proofs.Effects.{glyph_many}
use Rattle.strip.specs.Effects.{settle}
use Rattle.kurbo_affine.specs.Affines.{finite_corners}
use Rattle.kurbo_affine.specs.declared.Affine.{Affine}
use mathlib.Core.Path.{sym, ap, ◌∙◌}
use Rattle.strip.proofs.Cursor.glyph.Goals as goal

pub returns-then-self-ge-MOST_GLYPHS : goal.returns-then-self-ge-MOST_GLYPHS
returns-then-self-ge-MOST_GLYPHS c = ap Err c.at.ensures ∙ glyph_many _ _ c.if-self-ge-MOST_GLYPHS.true

pub returns-then-finite_corners : goal.returns-then-finite_corners
returns-then-finite_corners c = ap settle c.last.ensures ∙ last_settles _ _ _ _ c.transform_at-transform.ensures ∙ corners_finite _ _ _ c.rect_finite-bounds.ensures c.if-self-ge-MOST_GLYPHS.false (ap (λ (t : Affine). finite_corners t c.rect_finite-bounds.result) (sym c.transform_at-transform.ensures) ∙ sym c.finite_corners.ensures ∙ c.if-finite_corners.true)

pub returns-else-finite_corners : goal.returns-else-finite_corners
returns-else-finite_corners c = ap Err c.at-else-finite_corners.ensures ∙ corners_not_finite _ _ _ c.rect_finite-bounds.ensures c.if-self-ge-MOST_GLYPHS.false (ap (λ (t : Affine). finite_corners t c.rect_finite-bounds.result) (sym c.transform_at-transform.ensures) ∙ sym c.finite_corners.ensures ∙ c.if-finite_corners.false)
