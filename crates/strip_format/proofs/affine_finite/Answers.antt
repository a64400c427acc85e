use native.Mathlib.Omega.{arith}
use mathlib.Core.Path.{◌∙◌}
use lib.Ieee.{nan}
use Rattle.strip_format.proofs.Floats.{finite_six, affine_from}
use Rattle.strip_format.proofs.affine_finite.Goals as goal

pub floats_finite-requires : goal.floats_finite-requires
floats_finite-requires c = (omega arith, (omega (arith, c.requires.0), finite_six _ _ c.requires.1 c.requires.2))

pub returns : goal.returns
returns c = c.from.ensures ∙ affine_from _ _ _ nan c.floats_finite.ensures
