use Rattle.base_little_endian.specs.Words.{finite_or}
use Rattle.base_ieee.proofs.Patterns.{finite_no_nan}
use Rattle.base_lists.proofs.Picks.{pick_true}
use Rattle.base_lists.proofs.Bools.{holds}
use lib.Ieee.{binary64, of_bits}
use mathlib.Core.Path.{ap, sym, ◌∙◌}
use Rattle.base_little_endian.proofs.f64_inside.Goals as goal

pub float_from_bits-result : goal.float_from_bits-result
float_from_bits-result c = finite_no_nan binary64 _ (holds _ (rw (← c.u64_inside.ensures) at c.requires.1))

pub returns : goal.returns
unfolding finite_or
returns c = ap (of_bits binary64) c.u64_inside.ensures ∙ sym (pick_true _ _ _ c.requires.1)
