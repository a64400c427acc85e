-- An exported entry: a plan, and its answer in numbers.
use Rattle.std.specs.Prelude.{◌≡◌, List, ℕ}
use Rattle.plan_answers.specs.Drafts.{Outcome}
use Rattle.plan_answers.specs.Space.{Slices, lent_of}
use Rattle.plan_answers.specs.Answers.{answer_of, number_of}
use Rattle.planner.specs.Calls.{Promise}
use Rattle.plan_answer_words.specs.Words.{overwritten, answer_words}

-- What such an entry promises, by what its bytes come to: document 01's number; the whole answer in the words lent for it, as many as there is room for; and
-- what the plan promises of the slices.
pub record Exported (o : Outcome) (before after : Slices) (old new : List ℕ) (result : ℕ) : Type 0 where
  pub number : result ≡ number_of (answer_of (lent_of before) o)
  pub words : new ≡ overwritten (answer_words (answer_of (lent_of before) o)) old
  pub plan : Promise o before after (answer_of (lent_of before) o)
