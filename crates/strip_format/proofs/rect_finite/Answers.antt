use native.Mathlib.Omega.{arith}
use mathlib.Core.Path.{◌∙◌}
use lib.Ieee.{nan}
use Rattle.strip_format.proofs.Floats.{finite_four, rect_from}
use Rattle.strip_format.proofs.rect_finite.Goals as goal

pub floats_finite-requires : goal.floats_finite-requires
floats_finite-requires c = (omega arith, (omega (arith, c.requires.0), finite_four _ _ c.requires.1))

pub returns : goal.returns
returns c = c.from.ensures ∙ rect_from _ _ _ nan c.floats_finite.ensures
