-- `ListSpace::append_bounds` meets its contract: the boxes, one after the other. Assumes nothing.
use native.Mathlib.Omega.{arith}
use mathlib.Core.Path.{◌≡◌, sym, ap, subst, ◌∙◌}
use mathlib.Core.List.{[]}
use Prim.Native.Nat.{◌+◌, ◌-◌, ◌*◌, ◌<◌}
use Rattle.base_rect_words.proofs.Chunks.{chunk_in}
use Rattle.base_rect_list.proofs.Turns.{to_none, to_both, to_as}
use Rattle.base_rect_words.specs.Words.{boxes_to}
use Rattle.runtime.proofs.Changes.{boxes_end, boxes_more}
use Rattle.runtime.proofs.ListSpace.append_bounds.Goals as goal

pub loop-edges-init : goal.loop-edges-init
loop-edges-init c = to_as {k = 0} (sym (boxes_end c.args.self.item_boxes.now c.args.first 0 (omega arith))) (omega arith) to_none

pub loop-edges-preserved : goal.loop-edges-preserved
loop-edges-preserved c =
    let at = c.loop-edges.edges-index in
    let first = c.args.first in
    let box = c.from.ensures ∙ chunk_in (4 * first) (4 * (first + c.args.count) - 4 * first) at (4 * (first + at)) c.args.self.item_boxes.now [] c.as_chunks.ensures.front (subst (λ n. at < n) c.as_chunks.ensures.front_len c.loop-edges-test.true) (omega arith) in
    to_as (sym (boxes_more c.args.self.item_boxes.now first at box)) (omega arith) (to_both c.loop-edges.invariant c.push.ensures)

pub returns : goal.returns
returns c =
    let all : c.loop-edges.edges-index ≡ c.args.count = omega (arith, c.loop-edges.auto, c.loop-edges-test.false, c.as_chunks.ensures.front_len) in
    to_as (ap (boxes_to _) all) (omega arith) c.loop-edges.invariant
