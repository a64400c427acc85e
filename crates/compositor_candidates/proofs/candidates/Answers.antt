-- `candidates` meets its contract: a part that is found lies within the words. Assumes nothing.
use mathlib.Core.Path.{sym, ap, ◌∙◌}
use Rattle.compositor_candidates.proofs.Parts.{part_within}
use Rattle.compositor_candidates.specs.Table.{part_of}
use native.Mathlib.Omega.{arith}
use Rattle.compositor_candidates.proofs.candidates.Goals as goal

pub offset_bounds-words-part : goal.offset_bounds-words-part
offset_bounds-words-part c = omega (arith, part_within _ _ _ c.find.ensures.row c.in-Ok.is)

pub slice_bounds-result-count : goal.slice_bounds-result-count
slice_bounds-result-count c = omega (arith, part_within _ _ _ c.find.ensures.row c.in-Ok.is)

pub slice_bounds-result-start : goal.slice_bounds-result-start
slice_bounds-result-start c = omega (arith, part_within _ _ _ c.find.ensures.row c.in-Ok.is)

pub slice_bounds-result-end : goal.slice_bounds-result-end
slice_bounds-result-end c = omega (arith, part_within _ _ _ c.find.ensures.row c.in-Ok.is)

pub returns-in-Ok : goal.returns-in-Ok
returns-in-Ok c = ap (λ t. part_of t c.args.words.now) (sym c.in-Ok.is ∙ c.find.ensures.row)

pub returns-in-Err : goal.returns-in-Err
returns-in-Err c = ap (λ t. part_of t c.args.words.now) (sym c.in-Err.is ∙ c.find.ensures.row)
