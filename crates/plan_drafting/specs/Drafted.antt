-- A draft in scratch: its rectangles stand in `rs`, the boxes of the new strip's commands in `ibs` from place `first` on.
use Rattle.base_refusals.specs.declared.Fault.TheVariants.{NoRoom}
use Rattle.base_refusals.specs.declared.Refusal.{Refusal}
use Rattle.base_refusals.specs.Table.{refused}
use Rattle.std.specs.Prelude.{◌≡◌, true, List, ℕ, ◌*◌, ◌≤◌, leb, length, take, drop, Float, Result, Ok}
use Rattle.base_lists.specs.Pick.{pick}
use Rattle.compositor_rows.specs.Rows.{row_count}
use Rattle.compositor_screen.specs.declared.Screen.{Screen}
use Rattle.compositor_screen.specs.Sizes.{fits}
use Rattle.base_rect_list.specs.Rects as Rects
use Rattle.compositor_scheduler.specs.Schedule as Schedule
use Rattle.compositor_index_words.specs.Index.{index_words}
use Rattle.runtime.specs.Work.{work_of}
use Rattle.plan_answers.specs.declared.Plan.{Plan}
use Rattle.plan_answers.specs.Drafts.{Draft}
use Rattle.plan_answers.specs.Space.{Lent}
use Rattle.plan_answers.specs.Answers.{draft_fits, planned, counts, accepted}
use Rattle.base_rect_words.specs.Words.{boxes_to}

-- the draft of the first n rectangles and of so many commands
abbrev pub draft_in : Screen → List Float → ℕ → List Float → ℕ → ℕ → Draft
draft_in s rs n ibs first commands =
    record {
      rects = boxes_to rs n;
      regions = Schedule.schedule s (boxes_to rs n);
      words = index_words s.band_height (row_count s.height s.band_height) (boxes_to (drop (4 * first) ibs) commands);
      emitted = commands;
    }

-- so many rectangles, regions and index words are lent
abbrev pub rooms : ℕ → ℕ → ℕ → Lent
rooms rects regions words = record { commands = 0; glyphs = 0; clips = 0; rects = rects; regions = regions; words = words }

-- its counts, or 10 where it does not fit
abbrev pub judged : Lent → Draft → Result Plan Refusal
judged z d = pick (draft_fits z d) (counts d) (refused NoRoom 0)

-- the same, of the index words alone, for a frame whose rectangles, regions and pixels are counted
abbrev pub indexed : List ℕ → ℕ → ℕ → ℕ → ℕ → ℕ → Result Plan Refusal
indexed words room rects commands regions pixels =
    pick (leb (length words) room) (Ok (planned rects (length words) (work_of commands regions pixels))) (refused NoRoom 0)

-- the words of a draft stand in front of what was lent for it
pub record DraftWritten (d : Draft) (rs : List Float) (gs ws : List ℕ) : Type 0 where
  pub rects : take (4 * length d.rects) rs ≡ Rects.words_of_rects d.rects
  pub regions : take (4 * length d.regions) gs ≡ Schedule.words_of_regions d.regions
  pub words : take (length d.words) ws ≡ d.words

-- they stand there where the draft is accepted
abbrev pub WrittenIf : Result Plan Refusal → Draft → List Float → List ℕ → List ℕ → Type 0
WrittenIf r d rs gs ws = accepted r ≡ true → DraftWritten d rs gs ws

-- the scratch is long enough for what is said to be lent
pub record Ready (s : Screen) (rs : List Float) (commands : ℕ) (work spans gs ws : List ℕ) (z : Lent) : Type 0 where
  pub sizes : fits s ≡ true
  pub few : commands ≤ 4096
  pub rect_room : 4 * z.rects ≤ length rs
  pub work_room : z.rects ≤ length work
  pub span_room : commands ≤ length spans
  pub region_room : 4 * z.regions ≤ length gs
  pub word_room : z.words ≤ length ws
