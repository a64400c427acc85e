use mathlib.Core.Path.{refl}
use Rattle.strip_recording.proofs.Inputs.{new_end}
use Rattle.strip_recording.proofs.record_new.Goals as goal

pub returns-clause-lists : goal.returns-clause-lists
returns-clause-lists c = (new_end c.args.s.now c.args.old _ _ _ c.in_ok-last.ensures.answer c.in_ok-last.ensures.lengths c.in_ok-last.ensures.lists _ refl _ c.in_ok-new.ensures).1.1
