use Rattle.std.proofs.lemmas.Result.{err_from_is_err_and}
use mathlib.Core.Path.{ap, ◌∙◌}
use Rattle.strip.proofs.Places.{clip_known, glyph_known}
use Rattle.strip.proofs.Effects.{due_glyph, effect_end, effect_clip, effect_pop, effect_glyph}
use native.Mathlib.Omega.{arith}
use Rattle.strip_format.specs.Format.{length_of}
use Rattle.strip_format.specs.Kinds.{code}
use Rattle.strip.proofs.effect_of.Goals as goal

pub clip-requires : goal.clip-requires
unfolding length_of
clip-requires c = (omega (arith, rw c.in-Clip.is at c.requires.0.room), clip_known _ _ _ c.requires.0 (ap code c.in-Clip.is))

pub glyph-requires : goal.glyph-requires
unfolding length_of
glyph-requires c = (omega (arith, rw c.in-Glyph.is at c.requires.0.room), due_glyph _ _ (ap code c.in-Glyph.is) c.requires.1, glyph_known _ _ _ c.requires.0 (ap code c.in-Glyph.is))

pub returns-in-End : goal.returns-in-End
returns-in-End c = effect_end _ _ _ (ap code c.in-End.is)

pub returns-in_ok-clip-in-Clip : goal.returns-in_ok-clip-in-Clip
returns-in_ok-clip-in-Clip c = c.in_ok-clip-in-Clip.ensures ∙ effect_clip _ _ _ (ap code c.in-Clip.is)

pub returns-in_err-clip-in-Clip : goal.returns-in_err-clip-in-Clip
returns-in_err-clip-in-Clip c = let p = err_from_is_err_and c.from_residual.result c.from_residual.ensures.1 in rw (p.1, p.2) (c.in_err-clip-in-Clip.ensures ∙ effect_clip _ _ _ (ap code c.in-Clip.is))

pub returns-in_ok-pop-in-Pop : goal.returns-in_ok-pop-in-Pop
returns-in_ok-pop-in-Pop c = c.in_ok-pop-in-Pop.ensures ∙ effect_pop _ _ _ (ap code c.in-Pop.is)

pub returns-in_err-pop-in-Pop : goal.returns-in_err-pop-in-Pop
returns-in_err-pop-in-Pop c = let p = err_from_is_err_and c.from_residual-in_err-pop-in-Pop.result c.from_residual-in_err-pop-in-Pop.ensures.1 in rw (p.1, p.2) (c.in_err-pop-in-Pop.ensures ∙ effect_pop _ _ _ (ap code c.in-Pop.is))

pub returns-in-Glyph : goal.returns-in-Glyph
returns-in-Glyph c = c.glyph.ensures ∙ effect_glyph _ _ _ (ap code c.in-Glyph.is)
