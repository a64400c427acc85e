-- The scratch of a call: what it can take, and what a draft leaves there.
use Rattle.base_refusals.specs.declared.Refusal.{Refusal}
use Rattle.std.specs.Prelude.{ℕ, ◌*◌, ◌/◌, ◌≤◌, min, List, length, Float, Result}
use Rattle.plan_answers.specs.declared.Plan.{Plan}
use Rattle.plan_answers.specs.Drafts.{Outcome, refuses, drafted}
use Rattle.plan_answers.specs.Space.{Lent}
use Rattle.plan_drafting.specs.Drafted.{WrittenIf}

-- by the lengths of what is lent for clips, commands and glyphs, and by how many rectangles, regions and index words are lent
abbrev pub lent_scratch : List Float → List ℕ → List ℕ → List Float → List ℕ → ℕ → ℕ → ℕ → Lent
lent_scratch bs ns is ibs glyphs rects regions words =
    record {
      commands = min (length is / 2) (length ibs / 4);
      glyphs = length glyphs;
      clips = min (length bs / 8) (length ns);
      rects = rects;
      regions = regions;
      words = words;
    }

-- the space for the draft is as long as is said
pub record Roomy (rs : List Float) (work gs ws : List ℕ) (rects regions words : ℕ) : Type 0 where
  pub rect_room : 4 * rects ≤ length rs
  pub work_room : rects ≤ length work
  pub region_room : 4 * regions ≤ length gs
  pub word_room : words ≤ length ws

-- where the call is accepted, the words of its draft stand in front of that space
abbrev pub WrittenFor : Result Plan Refusal → Outcome → List Float → List ℕ → List ℕ → Type 0
WrittenFor r (refuses why) rs gs ws = Unit {0}
WrittenFor r (drafted i d) rs gs ws = WrittenIf r d rs gs ws
