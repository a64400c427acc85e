use Rattle.panels_calls.proofs.Calls.{called_as}
use Rattle.panels_calls.proofs.frame.Goals as goal

pub returns : goal.returns
returns c = called_as _ _ _ _ c.args.entry c.plan.ensures
