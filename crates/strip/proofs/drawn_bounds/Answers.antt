use mathlib.Core.Path.{ap}
use Rattle.strip_format.specs.declared.Kind.TheVariants.{Stroke}
use Rattle.strip_format.specs.Kinds.{code}
use Rattle.strip_format.proofs.Codes.{code_one}
use Rattle.strip.proofs.Places.{rect_known, rect_is, inflated_is}
use Rattle.strip.proofs.drawn_bounds.Goals as goal

pub rect_finite-bounds-requires : goal.rect_finite-bounds-requires
rect_finite-bounds-requires c = rect_known _ _ _ c.requires.0 _ c.rect_offset.ensures

pub returns-in-Stroke : goal.returns-in-Stroke
returns-in-Stroke c = inflated_is _ _ _ c.requires.0 _ c.rect_offset.ensures _ c.rect_finite-bounds.ensures (ap code c.in-Stroke.is) _ _ _ c.stroke_at.ensures c.stroke_bounds_inflation-inflation.ensures c.inflate.ensures

pub returns-in_default : goal.returns-in_default
returns-in_default c = rect_is _ _ _ c.requires.0 _ c.rect_offset.ensures _ c.rect_finite-bounds.ensures (λ e. c.in_default.not-Stroke (code_one _ Stroke e)) c.requires.1
