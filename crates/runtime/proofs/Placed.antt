-- The commands at two places of a list in lent space: where their bytes begin, and their glyphs' boxes on the window. Assumes nothing.
use mathlib.Core.Path.{◌≡◌}
use mathlib.Core.List.{List}
use Prim.Native.Nat.{ℕ, ◌<◌}
use native.Mathlib.Omega.{arith}
use lib.ListN.{length, get_or}
use lib.Ieee.{Float}
use Rattle.display_list_commands.specs.Bounds.{glyph_bounds}
use Rattle.display_list_operand_equality.specs.Operands.{same_clips}
use Rattle.display_list_clips.specs.Chains.{chain}
use Rattle.display_list.specs.Lists.{offset_at, clip_number_at}
use Rattle.display_list.proofs.Holding.{glyph_bounds_is}
use Rattle.strip_format.specs.Format.{command_at}
use Rattle.strip_format.proofs.Lengths.{length_pos}
use Rattle.display_list_changes.specs.Changes.{changed_glyphs}
use Rattle.display_list_stored.specs.Stored.{Stored, command_in}
use Rattle.display_list_glyph_changes.specs.Runs.{glyphs_of, windowed}
use Rattle.runtime.specs.Placed.{run_at}

-- clips compared by the numbers read
pub clips_at : (bs : List Float) (ns : List ℕ) {x y p q : ℕ} → x ≡ p → y ≡ q → same_clips (chain bs ns x) (chain bs ns y) ≡ same_clips (chain bs ns p) (chain bs ns q)
clips_at bs ns e f = λ t. same_clips (chain bs ns (e t)) (chain bs ns (f t))

module _ (n : ℕ) (s : List ℕ) (bs : List Float) (ns is : List ℕ) (ibs : List Float) (w : Stored n s bs ns is ibs) where
  module _ (i : ℕ) (h : i < n) where
    pub begins : offset_at is i < length s
    begins = omega (arith, (w.whole i h).fits, length_pos (get_or s (offset_at is i) 0))

    -- a glyph's box by its run is the glyph's box by the command
    pub glyph_is : windowed bs (run_at s is i) ≡ glyph_bounds (command_in s bs ns is i)
    unfolding windowed
    glyph_is = λ t g. glyph_bounds_is w.used bs ns w.clips (clip_number_at is i) (w.lower i h) (command_at s (offset_at is i)) (glyphs_of s (run_at s is i)) g t

  module _ (i j : ℕ) (h : i < n) (k : j < n) where
    pub glyphs_changed : changed_glyphs (windowed bs (run_at s is i)) (windowed bs (run_at s is j)) (glyphs_of s (run_at s is i)) (glyphs_of s (run_at s is j)) ≡ changed_glyphs (glyph_bounds (command_in s bs ns is i)) (glyph_bounds (command_in s bs ns is j)) (command_in s bs ns is i).glyphs (command_in s bs ns is j).glyphs
    glyphs_changed = λ t. changed_glyphs (glyph_is i h t) (glyph_is j k t) (glyphs_of s (run_at s is i)) (glyphs_of s (run_at s is j))
