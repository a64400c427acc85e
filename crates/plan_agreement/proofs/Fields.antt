-- Commands agree just where all their fields do. Every float is of its format, and none is a NaN. Assumes nothing.
use mathlib.Core.Path.{◌≡◌}
use mathlib.Core.Logic.{inl}
use mathlib.Core.List.{◌++◌}
use lib.Dec.{T}
use lib.Ieee.{Float, binary32, eq, fits, to_bits}
use borrow.Author.Tests.{eq-eqb}
use Rattle.base_lists.specs.Members.{All}
use Rattle.base_lists.specs.Places.{ByPlace}
use Rattle.base_lists.proofs.Members.{all_map, all_both, all_append}
use Rattle.base_lists.proofs.Places.{place_with, place_equal, equal_place}
use Rattle.base_lists.proofs.Relations.{Passes}
use Rattle.base_ieee.proofs.Rank.{not_nan}
use Rattle.base_ieee.proofs.Values.{value_same}
use Rattle.base_ieee.proofs.Comparisons.{equals_same, same_equals}
use Rattle.kurbo_geometry.specs.declared.Rect.{Rect}
use Rattle.kurbo_geometry.specs.Boxes.{same_edges}
use Rattle.kurbo_geometry.proofs.Edges.{Edges}
use Rattle.kurbo_affine.specs.declared.Affine.{Affine}
use Rattle.display_list_commands.specs.declared.Glyph.{Glyph}
use Rattle.display_list_commands.specs.declared.DrawCommand.{DrawCommand}
use Rattle.display_list_commands.specs.declared.DrawCommand.TheVariants.{FillPath, StrokePath, GlyphRun, Scene}
use Rattle.display_list_commands.specs.Bounds.{Command}
use Rattle.display_list_commands.specs.Sizes.{size_of}
use Rattle.display_list_commands.proofs.Values.{Entries, DrawFloats, Floats}
use Rattle.display_list_operand_equality.specs.Operands.{equal_glyph}
use Rattle.display_list_operand_equality.specs.Fields.{edges_of, entries_of, stroke_floats, glyph_numbers, glyph_floats}
use Rattle.display_list_operand_equality.proofs.Bits.{bits_size}
use Rattle.display_list_operand_equality.proofs.Compared.{edges_fields, bits_fields, inked_fields, glyphs_told, glyphs_tell, clips_told, clips_tell}
use Rattle.display_list_equality.specs.Fields.{numbers_of, floats_of}
use Rattle.display_list_equality.proofs.Values.{Good}
use Rattle.display_list_equality.proofs.Compared.{drawing_compared, equal_parts, parts_equal}
use Rattle.plan_agreement.specs.Agree.{Agree}
use Rattle.plan_agreement.specs.Fields.{SameFloats, SameGlyph, SameFields}
use Rattle.plan_agreement.proofs.Agreement.{agree_parts, agree_of}

-- ---- the floats of a command, as lists
edges_all : (P : Float → Type 0) (b : Rect) → Edges P b → All P (edges_of b)
unfolding All
edges_all P b e = (e.x0, (e.y0, (e.x1, (e.y1, tt))))

entries_all : (P : Float → Type 0) (t : Affine) → Entries P t → All P (entries_of t)
unfolding All
entries_all P t e = (e.a, (e.b, (e.c, (e.d, (e.e, (e.f, tt))))))

draw_all : (P : Float → Type 0) (d : DrawCommand) → DrawFloats P d → All P (floats_of d)
unfolding All
draw_all P (FillPath n b t k) f = all_append P (edges_of b) (entries_of t) (edges_all P b f.0) (entries_all P t f.1)
draw_all P (StrokePath n b t s k) f = all_append P (edges_of b ++ entries_of t) (stroke_floats s) (all_append P (edges_of b) (entries_of t) (edges_all P b f.0) (entries_all P t f.1)) (f.2, (f.3, tt))
draw_all P (GlyphRun n z t k b i) f = all_append P (entries_of t) (edges_of b) (entries_all P t f.1) (edges_all P b f.0)
draw_all P (Scene n g y t b) f = all_append P (entries_of t) (edges_of b) (entries_all P t f.1) (edges_all P b f.0)

-- an f32 that is no NaN
abbrev pub Short : Float → Type 0
Short z = T (fits binary32 z) × T (not_nan z)

-- every float is of its format, and no NaN. An f32 is an f64 too.
pub record Numeric (c : Command) : Type 0 where
  pub floats : Floats Good c
  pub places : All (λ g. Good g.x × Good g.y) c.glyphs
  pub size : Short (size_of c.draw)

module _ (c : Command) (n : Numeric c) where
  draw_good : All Good (floats_of c.draw)
  draw_good = draw_all Good c.draw n.floats.draw

  glyphs_good : All (λ g. All Good (glyph_floats g)) c.glyphs
  unfolding All
  glyphs_good = all_both (λ (g : Glyph). Edges Good g.bounds) (λ g. Good g.x × Good g.y) (λ g. All Good (glyph_floats g)) (λ g e p. (p.0, (p.1, edges_all Good g.bounds e))) c.glyphs n.floats.glyphs n.places

  clips_good : All (λ b. All Good (edges_of b)) c.clips
  clips_good = all_map (Edges Good) (λ b. All Good (edges_of b)) (edges_all Good) c.clips n.floats.clips

module _ (c d : Command) (m : Numeric c) (n : Numeric d) where
  -- ---- from the fields to agreement
  sizes_equal : to_bits binary32 (size_of c.draw) ≡ to_bits binary32 (size_of d.draw) → T (eq (size_of c.draw) (size_of d.draw))
  sizes_equal e = value_same (size_of c.draw) (size_of d.draw) m.size.1 (inl (bits_size (size_of c.draw) (size_of d.draw) m.size.0 n.size.0 (eq-eqb _ _ e)))

  pub fields_agree : SameFields c d → Agree c d
  unfolding ByPlace
  fields_agree k = agree_of c d
      (parts_equal c d (record {
        draw = drawing_compared.tells c.draw d.draw (equal_place (numbers_of c.draw) (numbers_of d.draw) k.numbers)
            (sizes_equal k.size, same_equals (floats_of c.draw) (floats_of d.draw) (draw_good c m) (draw_good d n) k.floats);
        glyphs = glyphs_tell c.glyphs d.glyphs
            (place_with SameGlyph (λ g. All Good (glyph_floats g)) (Passes equal_glyph)
            (λ g h f e s. inked_fields.compares.tells g h (equal_place (glyph_numbers g) (glyph_numbers h) s.numbers) (same_equals (glyph_floats g) (glyph_floats h) f e s.floats))
            c.glyphs d.glyphs (glyphs_good c m) (glyphs_good d n) k.glyphs);
        clips = clips_tell c.clips d.clips
            (place_with (λ a b. SameFloats (edges_of a) (edges_of b)) (λ b. All Good (edges_of b)) (Passes same_edges)
            (λ x y f e s. edges_fields.compares.tells x y tt (same_equals (edges_of x) (edges_of y) f e s))
            c.clips d.clips (clips_good c m) (clips_good d n) k.clips);
      }))
      (bits_fields.compares.tells (size_of c.draw) (size_of d.draw) (k.size, tt) (sizes_equal k.size, tt))

  -- ---- and from agreement to the fields
  pub agree_fields : Agree c d → SameFields c d
  unfolding ByPlace
  agree_fields a =
      let b = agree_parts c d a in
      let p = equal_parts c d b.0 in
      record {
        numbers = place_equal (numbers_of c.draw) (numbers_of d.draw) (drawing_compared.numbers_told c.draw d.draw p.draw);
        size = (bits_fields.compares.numbers_told (size_of c.draw) (size_of d.draw) b.1).0;
        floats = equals_same (floats_of c.draw) (floats_of d.draw) (draw_good c m) (draw_good d n) (drawing_compared.floats_told c.draw d.draw p.draw).1;
        glyphs = place_with (Passes equal_glyph) (λ g. All Good (glyph_floats g)) SameGlyph
            (λ g h f e t. record {
              numbers = place_equal (glyph_numbers g) (glyph_numbers h) (inked_fields.compares.numbers_told g h t);
              floats = equals_same (glyph_floats g) (glyph_floats h) f e (inked_fields.compares.floats_told g h t);
            })
            c.glyphs d.glyphs (glyphs_good c m) (glyphs_good d n) (glyphs_told c.glyphs d.glyphs p.glyphs);
        clips = place_with (Passes same_edges) (λ b. All Good (edges_of b)) (λ a b. SameFloats (edges_of a) (edges_of b))
            (λ x y f e t. equals_same (edges_of x) (edges_of y) f e (edges_fields.compares.floats_told x y t))
            c.clips d.clips (clips_good c m) (clips_good d n) (clips_told c.clips d.clips p.clips);
      }
