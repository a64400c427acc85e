use lib.Ieee.{binary64}
use Rattle.base_ieee.proofs.Patterns.{finite_pattern}
use mathlib.Core.Path.{sym}
use Rattle.base_little_endian.proofs.finite64.Goals as goal

pub returns : goal.returns
returns c = sym (finite_pattern binary64 _)
