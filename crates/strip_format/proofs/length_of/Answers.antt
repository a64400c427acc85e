use mathlib.Core.Path.{sym, subst}
use Rattle.strip_format.specs.Kinds.{Decodes}
use Rattle.strip_format.proofs.Lengths.{length_unknown}
use Rattle.strip_format.proofs.length_of.Goals as goal

pub returns-in-Err : goal.returns-in-Err
returns-in-Err c = sym (length_unknown _ (subst (Decodes _) c.in-Err.is c.try_from.ensures).1)
