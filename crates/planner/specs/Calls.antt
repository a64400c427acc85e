-- A call's slices, and what is copied from scratch to the output.
use Rattle.base_refusals.specs.declared.Refusal.{Refusal}
use Rattle.std.specs.Prelude.{◌≡◌, List, ℕ, ◌*◌, ◌≤◌, length, replicate, Float, Result, Ok, Err}
use Rattle.std.specs.Float.{binary64}
use Rattle.std.specs.Float.Ieee.{of_bits}
use Rattle.plan_answers.specs.declared.Plan.{Plan}
use Rattle.plan_answers.specs.Drafts.{Outcome}
use Rattle.plan_answers.specs.Space.{Slices, lent_of}
use Rattle.plan_answers.specs.Answers.{Answered, rect_words_of, region_words_of, index_words_of, published}

-- the slices in the order in which the entries take them
abbrev pub slices : List Float → List ℕ → List ℕ → List Float → List ℕ → List ℕ → List Float → List ℕ → List Float → List ℕ → List ℕ → List ℕ → List ℕ → Slices
slices rects regions words boxes below items item_boxes glyphs draft_rects work spare draft_regions draft_words =
    record {
      rects = rects;
      regions = regions;
      words = words;
      boxes = boxes;
      below = below;
      items = items;
      item_boxes = item_boxes;
      glyphs = glyphs;
      draft_rects = draft_rects;
      work = work;
      spare = spare;
      draft_regions = draft_regions;
      draft_words = draft_words;
    }

-- how many words of each output a plan has
abbrev pub rect_count : Result Plan Refusal → ℕ
rect_count (Ok plan) = 4 * plan.rects
rect_count (Err why) = 0

abbrev pub region_count : Result Plan Refusal → ℕ
region_count (Ok plan) = 4 * plan.work.regions_transferred
region_count (Err why) = 0

abbrev pub word_count : Result Plan Refusal → ℕ
word_count (Ok plan) = plan.words
word_count (Err why) = 0

-- scratch and output have as many
pub record Copies
    (plan : Result Plan Refusal) (draft_rects : List Float) (draft_regions draft_words : List ℕ) (rects : List Float) (regions words : List ℕ)
    : Type 0 where
  pub from_rects : rect_count plan ≤ length draft_rects
  pub from_regions : region_count plan ≤ length draft_regions
  pub from_words : word_count plan ≤ length draft_words
  pub to_rects : rect_count plan ≤ length rects
  pub to_regions : region_count plan ≤ length regions
  pub to_words : word_count plan ≤ length words

-- "Scratch space is all zero after every call."
abbrev pub Zeros : List ℕ → List ℕ → Type 0
Zeros before after = after ≡ replicate (length before) 0

abbrev pub ZeroFloats : List Float → List Float → Type 0
ZeroFloats before after = after ≡ replicate (length before) (of_bits binary64 0)

pub record Cleared (before after : Slices) : Type 0 where
  pub boxes : ZeroFloats before.boxes after.boxes
  pub below : Zeros before.below after.below
  pub items : Zeros before.items after.items
  pub item_boxes : ZeroFloats before.item_boxes after.item_boxes
  pub glyphs : Zeros before.glyphs after.glyphs
  pub draft_rects : ZeroFloats before.draft_rects after.draft_rects
  pub work : Zeros before.work after.work
  pub spare : Zeros before.spare after.spare
  pub draft_regions : Zeros before.draft_regions after.draft_regions
  pub draft_words : Zeros before.draft_words after.draft_words

-- What a call promises, by what its bytes come to: its answer, which is that of the space lent; the three outputs; and the scratch.
pub record Promise (o : Outcome) (before after : Slices) (r : Result Plan Refusal) : Type 0 where
  pub answer : Answered (lent_of before) o r
  pub rectangles : after.rects ≡ published r (rect_words_of o) before.rects
  pub scheduled : after.regions ≡ published r (region_words_of o) before.regions
  pub index : after.words ≡ published r (index_words_of o) before.words
  pub scratch : Cleared before after
