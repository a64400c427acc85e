use lib.Ieee.{binary64}
use Rattle.base_little_endian.specs.Words.{finite_or}
use mathlib.Core.Path.{ap, ◌∙◌}
use Rattle.base_little_endian.proofs.Floats.{no_nan, its_value, zero_for_it}
use Rattle.base_little_endian.proofs.f64_at.Goals as goal

pub float_from_bits-result : goal.float_from_bits-result
float_from_bits-result c = no_nan binary64 _ _ c.finite64.ensures c.if-finite64.true

pub returns-then-finite64 : goal.returns-then-finite64
returns-then-finite64 c = its_value binary64 _ _ c.finite64.ensures c.if-finite64.true ∙ ap (finite_or binary64) c.u64_at-bits.ensures

pub returns-else-finite64 : goal.returns-else-finite64
returns-else-finite64 c = zero_for_it binary64 _ _ c.finite64.ensures c.if-finite64.false ∙ ap (finite_or binary64) c.u64_at-bits.ensures
