-- A glyph that is due, and its floats, tested one after another. Assumes nothing.
use mathlib.Core.Path.{◌≡◌, subst}
use mathlib.Core.Bool.{true}
use mathlib.Core.List.{List}
use Prim.Native.Nat.{ℕ, ◌+◌, ◌≤◌, ◌<◌}
use lib.ListN.{length}
use Rattle.std.specs.Prelude.{Some}
use Rattle.kurbo_affine.specs.declared.Affine.{Affine}
use Rattle.kurbo_affine.specs.Affines.{finite_corners}
use Rattle.strip_format.specs.declared.Kind.TheVariants.{Run, Glyph}
use Rattle.strip_format.specs.Format.{rect_at}
use Rattle.strip_format.specs.Finite.{AllFinite}
use Rattle.strip_format.proofs.Lengths.{length_glyph}
use Rattle.strip_command_bounds.specs.Kinds.{kind_at}
use Rattle.strip_command_bounds.proofs.Standing.{stands, is_run}
use Rattle.strip_operand_checks.specs.Operands.{finite_glyph}
use Rattle.strip_operand_checks.proofs.Finite.{from_all}
use Rattle.strip.specs.declared.Cursor.{Cursor}
use Rattle.strip.specs.Effects.{GlyphDue, GlyphPlaced, GoesOn}

module _ (s : List ℕ) (st : Cursor) where
  pub due_stands : (2 ≤ st.due) × (st.glyphs < 16384) → kind_at s st.at ≡ Some Glyph → GlyphDue s st
  due_stands m q = let w = stands s st.at Glyph q in record { more = m.0; room = subst (λ n. st.at + n ≤ length s) length_glyph w.1; byte = w.0; count = m.1 }

  -- for the reading of its floats
  pub due_inside : GlyphDue s st → st.at + 45 ≤ length s
  due_inside w = w.room

  pub placed_inside : GlyphPlaced s st → st.at + 45 ≤ length s
  placed_inside w = w.0.room

  pub placed_goes_on : (t : Affine) → GlyphPlaced s st → AllFinite s (st.at + 13) 4 → finite_corners t (rect_at s (st.at + 13)) ≡ true → GoesOn s st t
  unfolding finite_glyph
  placed_goes_on t w f c = record { due = w.0; operands = rw (w.1, w.2) (from_all s (st.at + 13) 4 f); corners = c }

pub run_inside : (s : List ℕ) (at : ℕ) → kind_at s at ≡ Some Run → at + 103 ≤ length s
run_inside s at q = (is_run s at q).1
