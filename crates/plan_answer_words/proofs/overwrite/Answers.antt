-- `overwrite` meets its contract, whether or not every word fits. Assumes nothing.
use mathlib.Core.Path.{◌∙◌}
use native.Mathlib.Omega.{arith}
use Rattle.plan_answer_words.proofs.Overwritten.{all_fit, some_fit}
use Rattle.plan_answer_words.proofs.overwrite.Goals as goal

pub returns-then-words-out : goal.returns-then-words-out
returns-then-words-out c = c.copy_front.ensures ∙ all_fit c.args.words.now c.args.out.now c.if-words-out.true

pub returns-else-words-out : goal.returns-else-words-out
returns-else-words-out c = c.copy_front-else-words-out.ensures ∙ some_fit c.args.words.now c.args.out.now (omega (arith, c.if-words-out.false))
