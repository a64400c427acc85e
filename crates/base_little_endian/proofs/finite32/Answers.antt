use lib.Ieee.{binary32}
use Rattle.base_ieee.proofs.Patterns.{finite_pattern}
use mathlib.Core.Path.{sym}
use Rattle.base_little_endian.proofs.finite32.Goals as goal

pub returns : goal.returns
returns c = sym (finite_pattern binary32 _)
