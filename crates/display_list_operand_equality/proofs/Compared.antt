-- What each test of operands compares; so it goes both ways and follows on itself. Assumes nothing.
use mathlib.Core.Path.{refl}
use mathlib.Core.List.{List, [], ◌∷◌}
use lib.Dec.{T}
use lib.Ieee.{binary32, to_bits}
use Rattle.base_lists.specs.Places.{ByPlace}
use Rattle.base_lists.proofs.Relations.{Per, Passes, per_places, per_as}
use Rattle.base_lists.proofs.Places.{test_places, places_test}
use Rattle.base_ieee.proofs.Comparisons.{Fields, per_compared, number_field, float_field, record_field, both_fields}
use Rattle.kurbo_geometry.specs.declared.Rect.{Rect}
use Rattle.kurbo_geometry.specs.Boxes.{same_edges}
use Rattle.kurbo_affine.specs.declared.Affine.{Affine}
use Rattle.display_list_commands.specs.declared.Stroke.{Stroke}
use Rattle.display_list_commands.specs.declared.Glyph.{Glyph}
use Rattle.display_list_operand_equality.specs.Operands.{same_affine, join_code, cap_code, same_cap, same_stroke, same_bits, same_glyph, equal_glyph, equal_glyphs, same_clips}
use Rattle.display_list_operand_equality.specs.Fields.{edges_of, entries_of, stroke_numbers, stroke_floats, glyph_numbers, glyph_floats}

-- ---- operands, field by field
pub edges_fields : Fields same_edges (λ b. []) edges_of
unfolding same_edges
edges_fields = both_fields (both_fields (both_fields (float_field (λ (b : Rect). b.x0)) (float_field (λ b. b.y0))) (float_field (λ b. b.x1))) (float_field (λ b. b.y1))

pub affine_fields : Fields same_affine (λ t. []) entries_of
unfolding same_affine
affine_fields = both_fields
    (both_fields (both_fields (float_field (λ (t : Affine). t.a)) (float_field (λ t. t.b))) (both_fields (float_field (λ (t : Affine). t.c)) (float_field (λ t. t.d))))
    (both_fields (float_field (λ (t : Affine). t.e)) (float_field (λ t. t.f)))

pub stroke_fields : Fields same_stroke stroke_numbers stroke_floats
unfolding same_stroke same_cap
stroke_fields =
    let caps = both_fields (number_field (λ (s : Stroke). cap_code s.start_cap)) (number_field (λ s. cap_code s.end_cap)) in
    both_fields (both_fields (both_fields (float_field (λ (s : Stroke). s.width)) (float_field (λ s. s.miter_limit))) (both_fields (number_field (λ (s : Stroke). join_code s.join)) caps))
    (number_field (λ s. s.dash))

-- sizes, by value and by their bits
pub bits_fields : Fields same_bits (λ x. to_bits binary32 x ∷ []) (λ x. x ∷ [])
unfolding same_bits
bits_fields = both_fields (float_field (λ x. x)) (number_field (to_bits binary32))

-- id, x and y; and with the box
glyph_fields : Fields same_glyph glyph_numbers (λ g. g.x ∷ g.y ∷ [])
unfolding same_glyph
glyph_fields = both_fields (number_field (λ (g : Glyph). g.id)) (both_fields (float_field (λ (g : Glyph). g.x)) (float_field (λ g. g.y)))

pub inked_fields : Fields equal_glyph glyph_numbers glyph_floats
unfolding equal_glyph
inked_fields = both_fields glyph_fields (record_field (λ (g : Glyph). g.bounds) edges_fields)

-- ---- the tests go both ways, and follow on themselves
pub per_edges : Per (Passes same_edges)
per_edges = per_compared edges_fields.compares

pub per_bits : Per (Passes same_bits)
per_bits = per_compared bits_fields.compares

pub per_glyph : Per (Passes same_glyph)
per_glyph = per_compared glyph_fields.compares

-- ---- lists, place by place
pub glyphs_told : (gs hs : List Glyph) → T (equal_glyphs gs hs) → ByPlace (Passes equal_glyph) gs hs
unfolding equal_glyphs
glyphs_told = test_places equal_glyph equal_glyphs refl (λ h hs. refl) (λ g gs. refl) (λ g h gs hs. refl)

pub glyphs_tell : (gs hs : List Glyph) → ByPlace (Passes equal_glyph) gs hs → T (equal_glyphs gs hs)
unfolding equal_glyphs
glyphs_tell = places_test equal_glyph equal_glyphs refl (λ h hs. refl) (λ g gs. refl) (λ g h gs hs. refl)

pub clips_told : (cs ds : List Rect) → T (same_clips cs ds) → ByPlace (Passes same_edges) cs ds
unfolding same_clips
clips_told = test_places same_edges same_clips refl (λ d ds. refl) (λ c cs. refl) (λ c d cs ds. refl)

pub clips_tell : (cs ds : List Rect) → ByPlace (Passes same_edges) cs ds → T (same_clips cs ds)
unfolding same_clips
clips_tell = places_test same_edges same_clips refl (λ d ds. refl) (λ c cs. refl) (λ c d cs ds. refl)

pub per_glyphs : Per (Passes equal_glyphs)
per_glyphs = per_as (Passes equal_glyphs) (ByPlace (Passes equal_glyph)) glyphs_told glyphs_tell (per_places (Passes equal_glyph) (per_compared inked_fields.compares))

pub per_clips : Per (Passes same_clips)
per_clips = per_as (Passes same_clips) (ByPlace (Passes same_edges)) clips_told clips_tell (per_places (Passes same_edges) per_edges)
