use Rattle.std.proofs.Common.{◌*◌}
use Rattle.base_little_endian.specs.Same.{SameBytes}
use Rattle.base_little_endian.proofs.same_bytes.Given as goal

abbrev pub invariant-loop-k : goal.invariant-loop-k
invariant-loop-k l = SameBytes l.s l.p l.q (8 * l.k)
