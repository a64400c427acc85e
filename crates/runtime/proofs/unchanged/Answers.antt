-- `runtime::unchanged` meets its contract: the same bytes are decoded to the same command. Assumes nothing.
use mathlib.Core.Path.{sym, ◌∙◌}
use native.Mathlib.Omega.{arith}
use borrow.Author.Tests.{leb-true}
use Rattle.runtime.proofs.Repeats.{same_command}
use Rattle.runtime.proofs.unchanged.Goals as goal
use Rattle.runtime.proofs.unchanged.Goals.{then-n-s, else-n-s}

pub returns-then-n-s-2 : goal.returns-then-n-s-2
returns-then-n-s-2 c =
    λ e. elim c.if-n-s.branch [
      | then-n-s w ↦ same_command _ _ _ _ c.whole_length-n.ensures (omega (arith, w.if-n-s.true)) (omega (arith, leb-true _ _ (sym w.value-is ∙ c.if-n-s-2.true))) (c.same_bytes.ensures e)
      | else-n-s w ↦ absurd (omega (arith, w.if-n-s.false, leb-true _ _ (sym w.value-is ∙ c.if-n-s-2.true)))
    ]
