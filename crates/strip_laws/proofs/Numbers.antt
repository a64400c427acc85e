-- Every float that is decoded is finite, so every command that is read is made of finite floats, and so is every open clip. Assumes nothing.
use mathlib.Core.List.{List, [], ◌∷◌}
use Prim.Native.Nat.{ℕ, zero, suc, ◌+◌, ◌-◌}
use lib.ListN.{length}
use Rattle.std.specs.Prelude.{Result, Ok, Err}
use Rattle.base_refusals.specs.declared.Refusal.{Refusal}
use Rattle.base_lists.specs.Members.{All}
use Rattle.base_lists.proofs.Members.{all_append, all_take}
use Rattle.kurbo_geometry.specs.declared.Rect.{Rect}
use Rattle.kurbo_geometry.proofs.Edges.{Edges}
use Rattle.display_list_commands.specs.declared.DrawCommand.{DrawCommand}
use Rattle.display_list_commands.specs.Bounds.{Command, glyph_count}
use Rattle.display_list_commands.proofs.Finite.{Number}
use Rattle.display_list_commands.proofs.Values.{DrawFloats, Floats}
use Rattle.strip_format.specs.Format.{blank, command_at, glyphs_from}
use Rattle.strip_format.proofs.Commands.{command_cases}
use Rattle.strip_format.proofs.Numbers.{zero_number, number_at, rect_numbers, entry_numbers}
use Rattle.strip.specs.declared.Cursor.{Cursor}
use Rattle.strip.specs.declared.Step.{Step}
use Rattle.strip.specs.declared.Step.TheVariants.{Next, Clip, Pop, Draw, End}
use Rattle.strip.specs.Steps.{start_at, step_at}
use Rattle.strip_laws.proofs.Steps.{by_cases, Kept, list_keeps}
use Rattle.strip.specs.Reading.{command_of, Listing, noted, commands_of}

-- ---- commands
abbrev D : DrawCommand → Type 0
D d = DrawFloats Number d

none : D blank
none =
    let z = zero_number in
    (record { x0 = z; y0 = z; x1 = z; y1 = z }, record { a = z; b = z; c = z; d = z; e = z; f = z })

pub draw_numbers : (s : List ℕ) (at : ℕ) → DrawFloats Number (command_at s at)
draw_numbers s at =
    command_cases s at D
    (rect_numbers s (at + 9), entry_numbers s (at + 41))
    (rect_numbers s (at + 9), entry_numbers s (at + 41), number_at s (at + 97), number_at s (at + 97 + 9))
    (λ e. (rect_numbers s (at + 69), entry_numbers s (at + 13)))
    (rect_numbers s (at + 73), entry_numbers s (at + 25))
    none

glyph_numbers : (s : List ℕ) (at n : ℕ) → All (λ g. Edges Number g.bounds) (glyphs_from s at n)
unfolding glyphs_from All
glyph_numbers s at zero = tt
glyph_numbers s at (suc n) = (rect_numbers s (at + 13), glyph_numbers s (at + 45) n)

command_numbers : (s : List ℕ) (at : ℕ) (under : List Rect) → All (Edges Number) under → Floats Number (command_of s at under)
command_numbers s at under h = record { draw = draw_numbers s at; glyphs = glyph_numbers s (at + 103) (glyph_count (command_at s at)); clips = h }

-- ---- steps: what a CLIP opens has finite edges
abbrev pub Opens : Result Step Refusal → Type 0
Opens (Ok (Next t)) = Unit {0}
Opens (Ok (Clip t box)) = Edges Number box
Opens (Ok (Pop t)) = Unit {0}
Opens (Ok (Draw t at box)) = Unit {0}
Opens (Ok (End t)) = Unit {0}
Opens (Err why) = Unit {0}

pub step_opens : (s : List ℕ) (st : Cursor) → Opens (step_at s st)
step_opens s st = by_cases s st Opens record {
  refused = λ n p. tt;
  ended = λ due. tt;
  clip = λ d c due. rect_numbers s (st.at + 1);
  pop = λ d due. tt;
  draw = λ len c due alone box f. tt;
  run = λ c due is fits some. tt;
  glyph = λ g due fits d own o. tt;
  last = λ g fits d own o box f. tt;
}

-- ---- the list
pub record Numbers (l : Listing) : Type 0 where
  pub clips : All (Edges Number) l.clips
  pub commands : All (Floats Number) l.commands

pub one_rect : (b : Rect) → Edges Number b → All (Edges Number) (b ∷ [])
unfolding All
one_rect b h = (h, tt)

one_command : (c : Command) → Floats Number c → All (Floats Number) (c ∷ [])
unfolding All
one_command c h = (h, tt)

noted_numbers : (s : List ℕ) (l : Listing) (x : Result Step Refusal) → Opens x → Numbers l → Numbers (noted s l x)
noted_numbers s l (Ok (Next t)) o h = h
noted_numbers s l (Ok (Clip t box)) o h = record { clips = all_append (Edges Number) l.clips (box ∷ []) h.clips (one_rect box o); commands = h.commands }
noted_numbers s l (Ok (Pop t)) o h = record { clips = all_take (Edges Number) (length l.clips - 1) l.clips h.clips; commands = h.commands }
noted_numbers s l (Ok (Draw t at box)) o h = record { clips = h.clips; commands = all_append (Floats Number) l.commands (command_of s at l.clips ∷ []) h.commands (one_command (command_of s at l.clips) (command_numbers s at l.clips h.clips)) }
noted_numbers s l (Ok (End t)) o h = h
noted_numbers s l (Err why) o h = h

-- no step asks anything of the cursor
pub onward : (x : Result Step Refusal) → Kept (λ st. Unit {0}) (λ st. Unit {0}) x
onward (Ok (Next t)) = tt
onward (Ok (Clip t box)) = tt
onward (Ok (Pop t)) = tt
onward (Ok (Draw t at box)) = tt
onward (Ok (End t)) = tt
onward (Err why) = tt

no_numbers : Numbers (record { clips = []; commands = [] })
unfolding All
no_numbers = record { clips = tt; commands = tt }

-- document 01's number 4 turns away what is not finite; what is listed is finite all the same, whatever the bytes
pub strip_numbers : (s : List ℕ) (at : ℕ) → All (Floats Number) (commands_of s at)
strip_numbers s at = (list_keeps (λ st. Unit {0}) Numbers s (λ st h. onward (step_at s st)) (λ st l h o. noted_numbers s l (step_at s st) (step_opens s st) o) (suc (length s)) (start_at at) (record { clips = []; commands = [] }) tt no_numbers).commands
