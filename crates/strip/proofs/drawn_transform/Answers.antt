use Rattle.strip.proofs.Places.{affine_known, affine_is}
use mathlib.Core.Path.{◌∙◌}
use Rattle.strip.proofs.drawn_transform.Goals as goal

pub affine_finite-requires : goal.affine_finite-requires
affine_finite-requires c = affine_known _ _ _ c.requires _ c.affine_offset.ensures

pub returns : goal.returns
returns c = c.affine_finite.ensures ∙ affine_is _ _ _ c.requires _ c.affine_offset.ensures
