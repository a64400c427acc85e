-- Agreement, field by field: numbers are equal, run sizes have the same bits, and every other float is the same but for the sign of a zero.
use Rattle.std.specs.Prelude.{◌≡◌, List, ℕ, Float}
use Rattle.std.specs.Float.{binary32}
use Rattle.std.specs.Float.Ieee.{to_bits}
use Rattle.base_lists.specs.Places.{ByPlace}
use Rattle.base_ieee.specs.Values.{Same}
use Rattle.kurbo_geometry.specs.declared.Rect.{Rect}
use Rattle.display_list_commands.specs.declared.Glyph.{Glyph}
use Rattle.display_list_commands.specs.Bounds.{Command}
use Rattle.display_list_commands.specs.Sizes.{size_of}
use Rattle.display_list_operand_equality.specs.Fields.{edges_of, glyph_numbers, glyph_floats}
use Rattle.display_list_equality.specs.Fields.{numbers_of, floats_of}
use Rattle.strip.specs.Reading.{commands_of}
use Rattle.plan_agreement.specs.Agree.{AgreeAll}

abbrev pub SameFloats : List Float → List Float → Type 0
SameFloats l m = ByPlace Same l m

pub record SameGlyph (g h : Glyph) : Type 0 where
  pub numbers : glyph_numbers g ≡ glyph_numbers h
  pub floats : SameFloats (glyph_floats g) (glyph_floats h)

pub record SameFields (c d : Command) : Type 0 where
  pub numbers : numbers_of c.draw ≡ numbers_of d.draw
  pub size : to_bits binary32 (size_of c.draw) ≡ to_bits binary32 (size_of d.draw)
  pub floats : SameFloats (floats_of c.draw) (floats_of d.draw)
  pub glyphs : ByPlace SameGlyph c.glyphs d.glyphs
  pub clips : ByPlace (λ (a b : Rect). SameFloats (edges_of a) (edges_of b)) c.clips d.clips

-- commands that are read, from any bytes and at any offset, agree just where all their fields do
pub record AgreeInFields : Type 0 where
  pub fields : (s t : List ℕ) (p q : ℕ) → AgreeAll (commands_of s p) (commands_of t q) → ByPlace SameFields (commands_of s p) (commands_of t q)
  pub agree : (s t : List ℕ) (p q : ℕ) → ByPlace SameFields (commands_of s p) (commands_of t q) → AgreeAll (commands_of s p) (commands_of t q)
