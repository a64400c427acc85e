-- What an accepted plan counts fits the space lent, so that the program may read so far. Assumes nothing.
use mathlib.Core.Path.{◌≡◌, sym, subst}
use Rattle.std.specs.Prelude.{◌*◌, ◌≤◌, Ok}
use lib.ListN.{length}
use native.Mathlib.Omega.{arith}
use Rattle.planner.proofs.Published.{Fits, answer_fits}
use Rattle.plan_answers.specs.declared.Plan.{Plan}
use Rattle.plan_answers.specs.Drafts.{Outcome}
use Rattle.plan_answers.specs.Space.{Slices, lent_of}
use Rattle.plan_answers.specs.Answers.{answer_of}

-- the space before the call is s, and behind it t, which has as much room
module _ (s t : Slices) (o : Outcome) (plan : Plan) (e : Ok plan ≡ answer_of (lent_of s) o) (same : lent_of t ≡ lent_of s) where
  fits : Fits (lent_of t) (Ok plan)
  fits = subst (λ z. Fits z (Ok plan)) (sym same) (subst (Fits (lent_of s)) (sym e) (answer_fits (lent_of s) o))

  pub regions_fit : 4 * plan.work.regions_transferred ≤ length t.regions
  regions_fit = let f = fits.regions in omega (arith, f)

  pub words_fit : plan.words ≤ length t.words
  words_fit = let f = fits.words in omega (arith, f)
