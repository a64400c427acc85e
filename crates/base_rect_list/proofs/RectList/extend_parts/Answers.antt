-- `RectList::extend_parts` meets its contract: the parts, one after the other. Assumes nothing.
use Rattle.std.proofs.lemmas.Iterator.Consumers.{YieldsList-from_shown, YieldsList-at, YieldsList-turn, YieldsList-end}
use Rattle.std.proofs.lemmas.Iterator.Adapters.{YieldsList-from_flatten, YieldsList-from_once}
use Rattle.std.proofs.lemmas.List.{map-id}
use Rattle.std.specs.Array.Iter.{array_into_iter_items}
use mathlib.Core.Path.{◌≡◌, refl, sym, ap, ◌∙◌}
use mathlib.Core.List.{[], ◌∷◌}
use native.Mathlib.Omega.{arith}
use lib.ListN.{length, length-append}
use Rattle.display_list_differences.specs.Differences.{boxes_of, list_of}
use Rattle.base_rect_list.proofs.Parts.{flat_list, flat_most}
use Rattle.base_rect_list.proofs.Turns.{to_none, to_both, to_as}
use Rattle.base_rect_list.proofs.RectList.extend_parts.Goals as goal

pub loop-rect-init : goal.loop-rect-init
loop-rect-init c = to_none

pub push-requires : goal.push-requires
push-requires c =
    let parts = YieldsList-from_shown _ (λ x. x) array_into_iter_items (λ s t e. e.0) (λ s x t e. e) c.into_iter.result in
    let flat = c.flatten-rect-items.ensures in
    let boxes = YieldsList-from_flatten _ _ (λ x. x) boxes_of (λ x j e. YieldsList-from_once x e.0) (YieldsList-at flat.source parts) flat.front flat.back flat.done in
    let road = YieldsList-at c.into_iter-rect-iterator.ensures.into_iter_gives boxes in
    let t = YieldsList-turn road c.loop-rect.yielded _ c.loop-rect.yielded_by _ _ c.in-Some.rect c.in-Some.is c.next.ensures.steps in
    let four : length (array_into_iter_items c.into_iter.result) ≡ 4 = c.into_iter.ensures.into_iter_gives.1 in
    omega (arith, t.0, flat_most (array_into_iter_items c.into_iter.result), four, c.loop-rect.invariant.added.most, c.requires)

pub loop-rect-preserved : goal.loop-rect-preserved
loop-rect-preserved c = to_as refl (omega (arith, length-append c.loop-rect.yielded (c.in-Some.rect ∷ []))) (to_both c.loop-rect.invariant c.push.ensures)

pub returns : goal.returns
returns c =
    let parts = YieldsList-from_shown _ (λ x. x) array_into_iter_items (λ s t e. e.0) (λ s x t e. e) c.into_iter.result in
    let flat = c.flatten-rect-items.ensures in
    let boxes = YieldsList-from_flatten _ _ (λ x. x) boxes_of (λ x j e. YieldsList-from_once x e.0) (YieldsList-at flat.source parts) flat.front flat.back flat.done in
    let road = YieldsList-at c.into_iter-rect-iterator.ensures.into_iter_gives boxes in
    let t = YieldsList-end road c.loop-rect.yielded _ c.loop-rect.yielded_by _ _ c.in-None.is c.next.ensures.steps in
    let four : length (array_into_iter_items c.into_iter.result) ≡ 4 = c.into_iter.ensures.into_iter_gives.1 in
    let same = c.into_iter.ensures.into_iter_gives.0 in
    to_as (sym (map-id c.loop-rect.yielded) ∙ t.0 ∙ flat_list (array_into_iter_items c.into_iter.result) ∙ ap list_of same) (omega (arith, t.1, flat_most (array_into_iter_items c.into_iter.result), four)) c.loop-rect.invariant
