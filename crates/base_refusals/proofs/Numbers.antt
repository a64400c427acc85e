-- No fault has the number 0, which says that there is none. Assumes nothing.
use Prim.Native.Nat.{◌<◌}
use native.Mathlib.Omega.{arith}
use Rattle.base_refusals.specs.declared.Fault.{Fault}
use Rattle.base_refusals.specs.declared.Fault.TheVariants.{Size, CutOff, UnknownCode, NotFinite, NoOpenClip, TooMany, GlyphOrder, TrailingByte, BoxNotFinite, NoRoom, NoRow}
use Rattle.base_refusals.specs.Table.{number}

pub number_positive : (f : Fault) → 0 < number f
number_positive Size = omega arith
number_positive CutOff = omega arith
number_positive UnknownCode = omega arith
number_positive NotFinite = omega arith
number_positive NoOpenClip = omega arith
number_positive TooMany = omega arith
number_positive GlyphOrder = omega arith
number_positive TrailingByte = omega arith
number_positive BoxNotFinite = omega arith
number_positive NoRoom = omega arith
number_positive NoRow = omega arith
