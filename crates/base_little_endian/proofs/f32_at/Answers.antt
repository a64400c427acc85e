use lib.Ieee.{binary32}
use Rattle.base_little_endian.specs.Words.{finite_or}
use mathlib.Core.Path.{ap, ◌∙◌}
use Rattle.base_little_endian.proofs.Floats.{no_nan, its_value, zero_for_it}
use Rattle.base_little_endian.proofs.f32_at.Goals as goal

pub float_from_bits-result : goal.float_from_bits-result
float_from_bits-result c = no_nan binary32 _ _ c.finite32.ensures c.if-finite32.true

pub returns-then-finite32 : goal.returns-then-finite32
returns-then-finite32 c = its_value binary32 _ _ c.finite32.ensures c.if-finite32.true ∙ ap (finite_or binary32) c.u32_at-bits.ensures

pub returns-else-finite32 : goal.returns-else-finite32
returns-else-finite32 c = zero_for_it binary32 _ _ c.finite32.ensures c.if-finite32.false ∙ ap (finite_or binary32) c.u32_at-bits.ensures
