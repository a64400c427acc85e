use mathlib.Core.Path.{◌∙◌}
use lib.Ieee.{nan}
use Rattle.strip_format.proofs.Floats.{rect_from}
use Rattle.strip_format.proofs.rect_inside.Goals as goal

pub returns : goal.returns
returns c = c.from.ensures ∙ rect_from _ _ _ nan c.floats_inside.ensures
