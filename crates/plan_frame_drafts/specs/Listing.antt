-- What a draft is made of, once the strips are read and their items fit. Nothing here is to be believed: it is what the parts of
-- `draft_frame` promise one another.
use Rattle.std.specs.Prelude.{◌≡◌, true, ℕ, ◌+◌, ◌*◌, ◌≤◌, List, map, length, drop, Float, Result, Ok, Err}
use Rattle.base_refusals.specs.declared.Refusal.{Refusal}
use Rattle.kurbo_geometry.specs.declared.Rect.{Rect}
use Rattle.compositor_screen.specs.declared.Screen.{Screen}
use Rattle.display_list_commands.specs.Bounds.{Command, bounds}
use Rattle.base_rect_list.specs.Rects.{Listed}
use Rattle.strip_recording.specs.Recorded.{Space}
use Rattle.plan_answers.specs.Drafts.{Items, Outcome, draft, drafted}
use Rattle.plan_answers.specs.Answers.{items_fit, answer_of}
use Rattle.plan_frame_drafts.specs.declared.Changed.{Changed}
use Rattle.plan_frame_drafts.specs.Scratch.{lent_scratch}
use Rattle.base_rect_words.specs.Words.{boxes_to}

-- the draft is that of rectangles and commands that are in scratch, and the items fit in the scratch z that was lent
pub record Stand
    (screen : Screen) (o : Outcome) (z : Space) (glyphs : List ℕ) (before rs : List Float) (is : List ℕ) (ibs : List Float) (c : Changed)
    : Type 0 where
  pub items : Items
  pub rects : List Rect
  pub commands : List Command
  pub is_draft : o ≡ drafted items (draft screen rects commands)
  pub fit : items_fit (lent_scratch z.boxes z.below z.items z.item_boxes glyphs 0 0 0) items ≡ true
  pub listed : Listed before rects rs c.n
  pub boxes : boxes_to (drop (4 * c.first) ibs) c.commands ≡ map bounds commands
  pub count : c.commands ≡ length commands
  pub few : c.commands ≤ 4096
  pub held : 4 * (c.first + c.commands) ≤ length ibs
  pub span_room : c.commands ≤ length is

-- or the call is refused, whatever is lent for its plan
abbrev pub Lists : Screen → Outcome → Space → List ℕ → List Float → List Float → List ℕ → List Float → Result Changed Refusal → Type 0
Lists screen o z glyphs before rs is ibs (Ok c) = Stand screen o z glyphs before rs is ibs c
Lists screen o z glyphs before rs is ibs (Err why) = (R G W : ℕ) → Err why ≡ answer_of (lent_scratch z.boxes z.below z.items z.item_boxes glyphs R G W) o
