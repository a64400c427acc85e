-- Run sizes and the places of glyphs, which no box is made of, are finite f32s in every command that is read. Assumes nothing.
use mathlib.Core.List.{List, [], ◌∷◌}
use Prim.Native.Nat.{ℕ, zero, suc, ◌+◌}
use lib.ListN.{length}
use Rattle.std.specs.Prelude.{Result, Ok, Err}
use Rattle.base_refusals.specs.declared.Refusal.{Refusal}
use Rattle.base_lists.specs.Members.{All}
use Rattle.base_lists.proofs.Members.{all_none, all_append}
use Rattle.kurbo_geometry.specs.declared.Rect.{Rect}
use Rattle.display_list_commands.specs.declared.DrawCommand.{DrawCommand}
use Rattle.display_list_commands.specs.Bounds.{Command, glyph_count}
use Rattle.display_list_commands.specs.Sizes.{size_of}
use Rattle.strip_format.specs.Format.{command_at, glyphs_from}
use Rattle.strip_format.proofs.Commands.{command_cases}
use Rattle.strip_format.proofs.Numbers.{Single, single_zero, single_at}
use Rattle.strip.specs.declared.Step.{Step}
use Rattle.strip.specs.declared.Step.TheVariants.{Next, Clip, Pop, Draw, End}
use Rattle.strip.specs.Steps.{start_at, step_at}
use Rattle.strip.specs.Reading.{command_of, Listing, noted, commands_of}
use Rattle.strip_laws.proofs.Steps.{list_keeps}
use Rattle.strip_laws.proofs.Numbers.{onward}

-- ---- a command, wherever it stands
abbrev D : DrawCommand → Type 0
D d = Single (size_of d)

pub size_single : (s : List ℕ) (at : ℕ) → Single (size_of (command_at s at))
size_single s at = command_cases s at D single_zero single_zero (λ e. single_at s (at + 9)) single_zero single_zero

place_singles : (s : List ℕ) (at n : ℕ) → All (λ g. Single g.x × Single g.y) (glyphs_from s at n)
unfolding glyphs_from All
place_singles s at zero = tt
place_singles s at (suc n) = ((single_at s (at + 5), single_at s (at + 9)), place_singles s (at + 45) n)

-- ---- the list: what holds of a command wherever it stands, and under whichever clips, holds of all that are listed
module _ (s : List ℕ) (P : Command → Type 0) (f : (at : ℕ) (under : List Rect) → P (command_of s at under)) where
  noted_all : (l : Listing) (x : Result Step Refusal) → All P l.commands → All P (noted s l x).commands
  unfolding All
  noted_all l (Ok (Next t)) h = h
  noted_all l (Ok (Clip t box)) h = h
  noted_all l (Ok (Pop t)) h = h
  noted_all l (Ok (Draw t at box)) h = all_append P l.commands (command_of s at l.clips ∷ []) h (f at l.clips, tt)
  noted_all l (Ok (End t)) h = h
  noted_all l (Err why) h = h

  pub all_listed : (at : ℕ) → All P (commands_of s at)
  all_listed at = list_keeps (λ st. Unit {0}) (λ l. All P l.commands) s (λ st h. onward (step_at s st)) (λ st l h o. noted_all l (step_at s st) o) (suc (length s)) (start_at at) (record { clips = []; commands = [] }) tt (all_none P)

pub record Singles (c : Command) : Type 0 where
  pub size : Single (size_of c.draw)
  pub places : All (λ g. Single g.x × Single g.y) c.glyphs

pub strip_singles : (s : List ℕ) (at : ℕ) → All Singles (commands_of s at)
strip_singles s at = all_listed s Singles (λ p under. record { size = size_single s p; places = place_singles s (p + 103) (glyph_count (command_at s p)) }) at
