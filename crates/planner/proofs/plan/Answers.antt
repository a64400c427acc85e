use Rattle.std.proofs.Common.{rules}
use mathlib.Core.Path.{◌∙◌}
use Rattle.planner.proofs.Published.{copies, publishes}
use Rattle.plan_answers.specs.Drafts.{outcome}
use Rattle.planner.proofs.plan.Goals as goal

pub publish-requires : goal.publish-requires
publish-requires c = copies c.args.rects.now c.args.draft_rects.now c.args.work.now c.args.spare.now c.args.regions.now c.args.draft_regions.now c.args.words.now c.args.draft_words.now _ _ _ c.rect_room.ensures c.min.ensures c.min-2.ensures c.args.boxes.now c.args.below.now c.args.items.now c.args.item_boxes.now c.args.glyph_items.now (outcome c.args.entry c.args.input.now) _ c.draft_frame-plan.ensures.answer _ _ _ c.draft_frame-plan.auto.rects c.draft_frame-plan.auto.regions c.draft_frame-plan.auto.words

pub returns : goal.returns
returns c =
    let p = publishes _ (outcome c.args.entry c.args.input.now) _ c.draft_frame-plan.ensures.answer c.draft_frame-plan.new.rects c.draft_frame-plan.new.regions c.draft_frame-plan.new.words c.draft_frame-plan.ensures.stands c.args.rects.now c.args.regions.now c.args.words.now in
    record {
      answer = (search rules);
      rectangles = c.publish.ensures.rectangles ∙ p.0;
      scheduled = c.publish.ensures.scheduled ∙ p.1.0;
      index = (search rules);
      scratch = (search rules);
    }
