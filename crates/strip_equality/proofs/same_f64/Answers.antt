-- `strip_equality::same_f64` meets its contract: the same bits are the same number, which is finite. Assumes nothing.
use Rattle.strip_equality.proofs.Places.{same_bits}
use Rattle.strip_equality.proofs.same_f64.Goals as goal

pub returns-then-u64_inside : goal.returns-then-u64_inside
returns-then-u64_inside c = same_bits _ _ _ c.u64_inside.ensures c.u64_inside-2.ensures c.if-u64_inside.true
