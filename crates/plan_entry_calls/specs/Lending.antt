-- Limits as lent space, space as the slices of a call, and what an entry makes of its bytes.
use Rattle.std.specs.Prelude.{min}
use Rattle.plan_answers.specs.Space.{Lent, Slices}
use Rattle.plan_entry_calls.specs.declared.Limits.{Limits}
use Rattle.plan_entry_calls.specs.declared.Space.{Space}

abbrev pub lent_for : Limits → Lent
lent_for n =
    record {
      commands = n.commands;
      glyphs = n.glyphs;
      clips = n.clips;
      rects = n.rectangles;
      regions = n.regions;
      words = n.index_words;
    }

-- the lesser of both, of each kind
abbrev pub at_most : Limits → Limits → Limits
at_most a b =
    record {
      commands = min a.commands b.commands;
      glyphs = min a.glyphs b.glyphs;
      clips = min a.clips b.clips;
      rectangles = min a.rectangles b.rectangles;
      regions = min a.regions b.regions;
      index_words = min a.index_words b.index_words;
    }

abbrev pub slices_of : Space → Slices
slices_of s =
    record {
      rects = s.rects.items;
      regions = s.regions.items;
      words = s.words.items;
      boxes = s.boxes.items;
      below = s.below.items;
      items = s.items.items;
      item_boxes = s.item_boxes.items;
      glyphs = s.glyph_items.items;
      draft_rects = s.draft_rects.items;
      work = s.work.items;
      spare = s.spare.items;
      draft_regions = s.draft_regions.items;
      draft_words = s.draft_words.items;
    }
