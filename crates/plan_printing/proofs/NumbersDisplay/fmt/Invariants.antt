-- After each turn the numbers up to its own are written.
use Rattle.std.proofs.Common.{take}
use Rattle.std.specs.Fmt.{HasWritten, IsPlainFormatter}
use Rattle.plan_printing.specs.Lines.{numbers}
use Rattle.plan_printing.proofs.NumbersDisplay.fmt.Given as goal

abbrev pub invariant-loop-n : goal.invariant-loop-n
invariant-loop-n g l =
    IsPlainFormatter l.initial.f → HasWritten g.W.Write.write_str_gives l.initial.f (numbers (take l.n-index l.n-items)) l.f
