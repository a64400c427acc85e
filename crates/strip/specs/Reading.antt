-- Reading a strip to its END: steps, one after the other, and the list of commands that they make.
use Rattle.base_refusals.specs.declared.Fault.TheVariants.{CutOff}
use Rattle.base_refusals.specs.declared.Refusal.{Refusal}
use Rattle.base_refusals.specs.Table.{refused}
use Rattle.std.specs.Prelude.{List, [], ◌∷◌, ◌++◌, ℕ, zero, suc, ◌+◌, ◌-◌, length, take, Result, Ok, Err}
use Rattle.kurbo_geometry.specs.declared.Rect.{Rect}
use Rattle.display_list_commands.specs.Bounds.{Command, glyph_count}
use Rattle.strip_format.specs.Format.{command_at, glyphs_from}
use Rattle.strip_format.specs.Layout as Layout
use Rattle.strip.specs.declared.Cursor.{Cursor}
use Rattle.strip.specs.declared.Step.{Step}
use Rattle.strip.specs.declared.Step.TheVariants.{Next, Clip, Pop, Draw, End}
use Rattle.strip.specs.Steps.{start_at, step_at}

-- ---- the answer
abbrev pub on_step : Result Step Refusal → (Cursor → Result Cursor Refusal) → Result Cursor Refusal
on_step (Ok (Next t)) k = k t
on_step (Ok (Clip t box)) k = k t
on_step (Ok (Pop t)) k = k t
on_step (Ok (Draw t at box)) k = k t
on_step (Ok (End t)) k = Ok t
on_step (Err r) k = Err r

-- each step passes a byte, so one step more than there are bytes is enough
unfoldable pub read_from : ℕ → List ℕ → Cursor → Result Cursor Refusal
read_from zero s st = refused CutOff (length s)
read_from (suc n) s st = on_step (step_at s st) (λ t. read_from n s t)

abbrev pub read_strip : List ℕ → ℕ → Result Cursor Refusal
read_strip s at = read_from (suc (length s)) s (start_at at)

-- ---- the list
-- the command whose first byte stands at an offset, with its glyphs behind it, under the open clips
abbrev pub command_of : List ℕ → ℕ → List Rect → Command
command_of s at under = record { draw = command_at s at; glyphs = glyphs_from s (at + Layout.run_glyphs) (glyph_count (command_at s at)); clips = under }

-- all but the last
abbrev pub drop_last : List Rect → List Rect
drop_last l = take (length l - 1) l

-- what is read: the open clips, oldest first, and the commands
pub record Listing : Type 0 where
  pub clips : List Rect
  pub commands : List Command

-- what a step adds
abbrev pub noted : List ℕ → Listing → Result Step Refusal → Listing
noted s l (Ok (Next t)) = l
noted s l (Ok (Clip t box)) = record l { clips = l.clips ++ (box ∷ []) }
noted s l (Ok (Pop t)) = record l { clips = drop_last l.clips }
noted s l (Ok (Draw t at box)) = record l { commands = l.commands ++ (command_of s at l.clips ∷ []) }
noted s l (Ok (End t)) = l
noted s l (Err r) = l

abbrev pub on_next : Result Step Refusal → Listing → (Cursor → Listing) → Listing
on_next (Ok (Next t)) l k = k t
on_next (Ok (Clip t box)) l k = k t
on_next (Ok (Pop t)) l k = k t
on_next (Ok (Draw t at box)) l k = k t
on_next (Ok (End t)) l k = l
on_next (Err r) l k = l

unfoldable pub list_from : ℕ → List ℕ → Cursor → Listing → Listing
list_from zero s st l = l
list_from (suc n) s st l = on_next (step_at s st) l (λ t. list_from n s t (noted s l (step_at s st)))

-- the commands of the strip that begins at an offset, up to its END or to what is turned away
abbrev pub commands_of : List ℕ → ℕ → List Command
commands_of s at = (list_from (suc (length s)) s (start_at at) (record { clips = []; commands = [] })).commands
