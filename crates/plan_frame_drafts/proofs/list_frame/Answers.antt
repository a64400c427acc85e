use Rattle.std.specs.Prelude.{Err}
use mathlib.Core.Path.{refl, ap, ◌∙◌}
use Rattle.std.proofs.Common.{rules}
use Rattle.base_rect_list.proofs.Turns.{added_lent}
use Rattle.plan_frame_drafts.proofs.Inputs.{items_over, lists_stored, first_stands, next_stands}
use Rattle.plan_frame_drafts.proofs.list_frame.Goals as goal

pub returns-then-not-items_fit : goal.returns-then-not-items_fit
returns-then-not-items_fit c = λ R G W. ap Err c.at.ensures ∙ items_over c.args.entry c.args.s.now c.args.screen c.args.glyph_items.now c.in_ok-both.ensures.answer c.in_ok-both.ensures.lengths c.in_ok-both.ensures.lists refl c.from-count.ensures c.items_fit.ensures c.if-not-items_fit.true R G W

pub diff_dirty-n-requires : goal.diff_dirty-n-requires
diff_dirty-n-requires c = lists_stored c.args.entry c.args.s.now c.args.screen c.args.glyph_items.now c.in_ok-both.ensures.answer c.in_ok-both.ensures.lengths c.in_ok-both.ensures.lists refl c.from-count.ensures c.items_fit.ensures c.if-not-items_fit.false

pub returns-in-First : goal.returns-in-First
returns-in-First c =
    let named = c.push.ensures.same_place ∙ ap (λ w. w.ghost_name) c.new-list.ensures.0 in
    first_stands c.args.entry c.args.s.now c.args.screen c.args.glyph_items.now c.in_ok-both.ensures.answer c.in_ok-both.ensures.lengths c.in_ok-both.ensures.lists refl c.from-count.ensures c.items_fit.ensures c.if-not-items_fit.false c.in-First.is c.screen_rect.ensures (added_lent c.push.ensures (ap (λ w. w.now) c.new-list.ensures.0) c.new-list.ensures.1 (search (rules, named)))

pub returns-in-Next : goal.returns-in-Next
returns-in-Next c = next_stands c.args.entry c.args.s.now c.args.screen c.args.glyph_items.now c.in_ok-both.ensures.answer c.in_ok-both.ensures.lengths c.in_ok-both.ensures.lists refl c.from-count.ensures c.items_fit.ensures c.if-not-items_fit.false c.in-Next.is c.diff_dirty-n.ensures
