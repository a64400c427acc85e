-- What a frame comes to by its bytes alone: a number and a position, or a draft of its plan and the items that scratch must hold. Space is judged later.
use Rattle.base_refusals.specs.declared.Refusal.{Refusal}
use Rattle.std.specs.Prelude.{List, [], ◌∷◌, map, ℕ, ◌+◌, length, Result, Ok, Err}
use Rattle.base_floats.specs.Whole.{whole}
use Rattle.kurbo_geometry.specs.declared.Rect.{Rect}
use Rattle.display_list_commands.specs.Bounds.{Command, bounds}
use Rattle.compositor_rows.specs.Rows.{row_count}
use Rattle.compositor_device.specs.declared.DeviceRegion.{DeviceRegion}
use Rattle.compositor_scheduler.specs.Schedule.{schedule}
use Rattle.compositor_index_words.specs.Index.{index_words}
use Rattle.display_list_changes.specs.Changes.{diff_dirty}
use Rattle.strip.specs.Reading.{commands_of}
use Rattle.compositor_screen.specs.declared.Screen.{Screen}
use Rattle.strip_frame.specs.declared.Strips.{Strips}
use Rattle.strip.specs.declared.Cursor.{Cursor}
use Rattle.strip_frame.specs.declared.Entry.{Entry}
use Rattle.strip_frame.specs.declared.Entry.TheVariants.{First, Next}
use Rattle.strip_frame.specs.Frame.{header_of, strips_of, old_commands}

-- changed rectangles, scheduled regions, index words, and "commands emitted are the new strip's drawing commands"
pub record Draft : Type 0 where
  pub rects : List Rect
  pub regions : List DeviceRegion
  pub words : List ℕ
  pub emitted : ℕ

-- of these rectangles and the new strip's commands, on a screen
abbrev pub draft : Screen → List Rect → List Command → Draft
draft screen rects commands =
    record {
      rects = rects;
      regions = schedule screen rects;
      words = index_words screen.band_height (row_count screen.height screen.band_height) (map bounds commands);
      emitted = length commands;
    }

-- "the commands, glyphs and clips of both strips, counted as items"
pub record Items : Type 0 where
  pub commands : ℕ
  pub glyphs : ℕ
  pub clips : ℕ

pub data Outcome : Type 0 where
  refuses : Refusal → Outcome
  drafted : Items → Draft → Outcome

-- "A first frame has one rectangle, the whole screen."
abbrev pub screen_rect : Screen → Rect
screen_rect screen = record { x0 = whole 0; y0 = whole 0; x1 = whole screen.width; y1 = whole screen.height }

abbrev pub items_of : Cursor → Cursor → Items
items_of old new = record { commands = old.commands + new.commands; glyphs = old.glyphs + new.glyphs; clips = old.clips + new.clips }

-- the changed rectangles, from the old strip's commands to the new one's
abbrev pub rects_since : Entry → Screen → List Command → List Command → List Rect
rects_since First screen old new = screen_rect screen ∷ []
rects_since Next screen old new = diff_dirty old new

abbrev pub on_strips : Entry → Screen → List ℕ → Result Strips Refusal → Outcome
on_strips entry screen s (Ok both) =
    drafted (items_of both.old both.new)
    (draft screen (rects_since entry screen (old_commands entry s) (commands_of s both.old.at)) (commands_of s both.old.at))
on_strips entry screen s (Err why) = refuses why

-- 1 and 2 of the header have position 0
abbrev pub on_header : Result Screen Refusal → (Screen → Outcome) → Outcome
on_header (Ok screen) k = k screen
on_header (Err why) k = refuses why

-- what the bytes come to. "The header .. Then the old strip, then the new."
unfoldable pub outcome : Entry → List ℕ → Outcome
outcome entry s = on_header (header_of s) (λ screen. on_strips entry screen s (strips_of entry s))

-- for the two entries: "A first frame has an entry point of its own: header and one strip, the same checks."
abbrev pub first_outcome : List ℕ → Outcome
first_outcome s = outcome First s

abbrev pub next_outcome : List ℕ → Outcome
next_outcome s = outcome Next s
