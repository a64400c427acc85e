-- `runtime::same_run` meets its contract: the same bytes are the same command. Assumes nothing.
use mathlib.Core.Path.{sym, ◌∙◌}
use mathlib.Core.Bool.{false≢true}
use native.Mathlib.Omega.{arith}
use Rattle.strip_command_bounds.proofs.Standing.{is_run}
use Rattle.runtime.proofs.InPlace.{run_twice}
use Rattle.runtime.proofs.same_run.Goals as goal
use Rattle.runtime.proofs.same_run.Goals.{then-stands, else-stands}

pub same_bytes-requires : goal.same_bytes-requires
same_bytes-requires c =
    elim c.if-stands.branch [
      | then-stands w ↦ (omega (arith, (is_run _ _ (c.stands.ensures.whole w.if-stands.true)).1), omega (arith, (is_run _ _ (w.stands-then-stands.ensures.whole (sym w.value-is ∙ c.if-stands-2.true))).1))
      | else-stands w ↦ absurd (false≢true (sym w.if-stands.false ∙ sym w.value-is ∙ c.if-stands-2.true))
    ]

pub returns-then-stands-2 : goal.returns-then-stands-2
returns-then-stands-2 c =
    λ e. elim c.if-stands.branch [
      | then-stands w ↦ run_twice _ _ _ (c.stands.ensures.whole w.if-stands.true) (w.stands-then-stands.ensures.whole (sym w.value-is ∙ c.if-stands-2.true)) (c.same_bytes.ensures e)
      | else-stands w ↦ absurd (false≢true (sym w.if-stands.false ∙ sym w.value-is ∙ c.if-stands-2.true))
    ]
