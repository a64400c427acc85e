-- Commands at two places of a list in lent space, compared.
use Rattle.std.specs.Prelude.{◌≡◌, Bool, true, false, List, ℕ, ◌+◌, ◌*◌, ◌<◌, eqb, get_or, Some, Float}
use Rattle.base_lists.specs.Pick.{pick}
use Rattle.base_little_endian.specs.Words.{u16_at}
use Rattle.display_list_commands.specs.Bounds.{Command, transform_of, glyph_count}
use Rattle.display_list_operand_equality.specs.Operands.{same_clips}
use Rattle.display_list_clips.specs.Chains.{chain}
use Rattle.display_list.specs.Lists.{offset_at, clip_number_at}
use Rattle.display_list_equality.specs.Drawings.{same_drawing, equal}
use Rattle.strip_format.specs.declared.Kind.TheVariants.{Run as RunKind}
use Rattle.strip_format.specs.Format.{length_of, command_at}
use Rattle.strip_format.specs.Layout as Layout
use Rattle.strip_command_bounds.specs.Kinds.{kind_at}
use Rattle.display_list_stored.specs.Stored.{Stored}
use Rattle.display_list_glyph_changes.specs.declared.Run.{Run}
use Rattle.display_list_changes.specs.declared.Change.{Change}
use Rattle.display_list_changes.specs.declared.Change.TheVariants.{Same}
use Rattle.display_list_changes.specs.Changes.{rects_of, changed_bounds}

-- two places of a list that the space holds
pub record Both (i j : ℕ) (s : List ℕ) (bs : List Float) (ns is : List ℕ) (ibs : List Float) : Type 0 where
  pub count : ℕ
  pub stored : Stored count s bs ns is ibs
  pub old : i < count
  pub new : j < count

-- ---- one command
abbrev pub run_at : List ℕ → List ℕ → ℕ → Run
run_at s is i =
    record {
      glyphs = offset_at is i + Layout.run_glyphs;
      count = glyph_count (command_at s (offset_at is i));
      transform = transform_of (command_at s (offset_at is i));
      clip = clip_number_at is i;
    }

-- how many bytes it has, its glyphs' among them
unfoldable pub whole_length : List ℕ → ℕ → ℕ
whole_length s at =
    pick (eqb (get_or s at 0) Layout.run_code)
    (Layout.run_length + Layout.glyph_length * u16_at s (at + Layout.run_count))
    (length_of (get_or s at 0))

-- ---- two commands
-- the clips up to two numbers are the same
abbrev pub AlikeClips : List Float → List ℕ → ℕ → ℕ → Type 0
AlikeClips bs ns x y = same_clips (chain bs ns x) (chain bs ns y) ≡ true

-- the first is no RUN, and the two differ in an operand
unfoldable pub apart : List ℕ → ℕ → ℕ → Bool
apart s p q = pick (eqb (get_or s p 0) Layout.run_code) false (pick (same_drawing (command_at s p) (command_at s q)) false true)

-- a RUN stands whole at p, and at q another with the same operands and as many glyphs
abbrev pub SameRun : List ℕ → ℕ → ℕ → Type 0
SameRun s p q = (kind_at s p ≡ Some RunKind) × (kind_at s q ≡ Some RunKind) × (command_at s p ≡ command_at s q)

-- a case whose rectangles are those of what changed from a command to another; equal commands may be told as RUNs alike too, since equal glyphs list
-- nothing, but as the same only they are told
pub record Tells (x : Change) (old new : Command) : Type 0 where
  pub rects : rects_of x old new ≡ changed_bounds old new
  pub equals : x ≡ Same → equal old new ≡ true
