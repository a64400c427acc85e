use Rattle.std.proofs.Common.{rules}
use Rattle.plan_entry_calls.specs.Lending.{slices_of}
use Rattle.plan.proofs.Fits.{regions_fit, words_fit}
use Rattle.plan_answers.specs.Drafts.{next_outcome}
use Rattle.plan.proofs.answer.Goals as goal

pub write_planned-requires-clause-regions : goal.write_planned-requires-clause-regions
write_planned-requires-clause-regions g c =
    let fits = regions_fit (slices_of c.args.space.now) (slices_of c.plan.new.self) (next_outcome c.args.input.now) _ c.in-Ok.ensures.promise.answer.plan c.in-Ok.ensures.space in
    search (rules, fits)

pub write_planned-requires-clause-words : goal.write_planned-requires-clause-words
write_planned-requires-clause-words g c =
    let fits = words_fit (slices_of c.args.space.now) (slices_of c.plan.new.self) (next_outcome c.args.input.now) _ c.in-Ok.ensures.promise.answer.plan c.in-Ok.ensures.space in
    search (rules, fits)
