-- What is read from bytes: every float is of its format and no NaN, so that nothing has to be assumed. Assumes nothing.
use mathlib.Core.List.{List}
use Prim.Native.Nat.{ℕ}
use lib.Ieee.{Float}
use lib.Ieee.Fits.{fits_widens}
use Rattle.base_lists.specs.Members.{All}
use Rattle.base_lists.specs.Places.{ByPlace}
use Rattle.base_lists.proofs.Members.{all_map, all_both}
use Rattle.base_lists.proofs.Bools.{is_true}
use Rattle.base_lists.proofs.Places.{place_with}
use Rattle.base_ieee.proofs.Rank.{finite_not_nan}
use Rattle.display_list_commands.specs.declared.Glyph.{Glyph}
use Rattle.display_list_commands.specs.Bounds.{Command}
use Rattle.display_list_commands.specs.Sizes.{size_of}
use Rattle.display_list_commands.proofs.Finite.{Number, number_ordered}
use Rattle.display_list_commands.proofs.Values.{Floats, floats_map}
use Rattle.display_list_operand_equality.specs.Operands.{same_bits}
use Rattle.display_list_equality.specs.Drawings.{equal}
use Rattle.display_list_equality.proofs.Values.{Good}
use Rattle.display_list_changes.proofs.Values.{Matched}
use Rattle.strip_format.proofs.Numbers.{Single}
use Rattle.strip.specs.Reading.{commands_of}
use Rattle.strip_laws.proofs.Numbers.{strip_numbers}
use Rattle.strip_laws.proofs.Singles.{Singles, strip_singles}
use Rattle.plan_agreement.specs.Agree.{Agree, AgreeAll}
use Rattle.plan_agreement.specs.Fields.{SameFields, AgreeInFields}
use Rattle.plan_agreement.proofs.Agreement.{agree_parts}
use Rattle.plan_agreement.proofs.Fields.{Numeric, agree_fields, fields_agree}

single_good : (x : Float) → Single x → Good x
single_good x n = number_ordered x (n.0, fits_widens x n.1)

numeric : (c : Command) → Floats Number c → Singles c → Numeric c
numeric c f s = record {
  floats = floats_map Number Good number_ordered c f;
  places = all_map (λ (g : Glyph). Single g.x × Single g.y) (λ g. Good g.x × Good g.y) (λ g p. (single_good g.x p.0, single_good g.y p.1)) c.glyphs s.places;
  size = (s.size.1, finite_not_nan (size_of c.draw) s.size.0);
}

pub strip_numeric : (s : List ℕ) (at : ℕ) → All Numeric (commands_of s at)
strip_numeric s at = all_both (Floats Number) Singles Numeric numeric (commands_of s at) (strip_numbers s at) (strip_singles s at)

module _ (s t : List ℕ) (p q : ℕ) where
  abbrev cs : List Command
  cs = commands_of s p

  abbrev ds : List Command
  ds = commands_of t q

  pub strips_fields : AgreeAll cs ds → ByPlace SameFields cs ds
  strips_fields = place_with Agree Numeric SameFields agree_fields cs ds (strip_numeric s p) (strip_numeric t q)

  pub fields_strips : ByPlace SameFields cs ds → AgreeAll cs ds
  fields_strips = place_with SameFields Numeric Agree fields_agree cs ds (strip_numeric s p) (strip_numeric t q)

  -- what laws of changes ask for
  pub strips_matched : AgreeAll cs ds → ByPlace Matched cs ds
  strips_matched = place_with Agree Numeric Matched
      (λ c d m n a.
      let p = agree_parts c d a in
      record { equals = is_true (equal c d) p.0; sizes = is_true (same_bits (size_of c.draw) (size_of d.draw)) p.1; floats = m.floats; others = n.floats })
      cs ds (strip_numeric s p) (strip_numeric t q)

pub agree_in_fields : AgreeInFields
agree_in_fields = record { fields = strips_fields; agree = fields_strips }
