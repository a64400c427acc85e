-- Operands compared: "equal numbers mean equal things", floats by value.
use Rattle.std.specs.Prelude.{Bool, true, false, ◌&&◌, List, [], ◌∷◌, ℕ, eqb, Float}
use Rattle.std.specs.Float.{binary32}
use Rattle.std.specs.Float.Ieee.{eq, to_bits}
use Rattle.kurbo_geometry.specs.declared.Rect.{Rect}
use Rattle.kurbo_geometry.specs.Boxes.{same_edges}
use Rattle.kurbo_affine.specs.declared.Affine.{Affine}
use Rattle.display_list_commands.specs.declared.Join.{Join}
use Rattle.display_list_commands.specs.declared.Join.TheVariants as J
use Rattle.display_list_commands.specs.declared.Cap.{Cap}
use Rattle.display_list_commands.specs.declared.Cap.TheVariants as C
use Rattle.display_list_commands.specs.declared.Stroke.{Stroke}
use Rattle.display_list_commands.specs.declared.Glyph.{Glyph}

unfoldable pub same_affine : Affine → Affine → Bool
same_affine s t = (eq s.a t.a && eq s.b t.b) && (eq s.c t.c && eq s.d t.d) && (eq s.e t.e && eq s.f t.f)

-- "Join: 0 bevel, 1 miter, 2 round. Cap: 0 butt, 1 square, 2 round."
abbrev pub join_code : Join → ℕ
join_code J.Bevel = 0
join_code J.Miter = 1
join_code J.Round = 2

abbrev pub cap_code : Cap → ℕ
cap_code C.Butt = 0
cap_code C.Square = 1
cap_code C.Round = 2

unfoldable pub same_cap : Cap → Cap → Bool
same_cap a b = eqb (cap_code a) (cap_code b)

-- dew's `stroke_eq`; the dash number stands for pattern and offset
unfoldable pub same_stroke : Stroke → Stroke → Bool
same_stroke s t =
    (eq s.width t.width && eq s.miter_limit t.miter_limit)
    && (eqb (join_code s.join) (join_code t.join) && (same_cap s.start_cap t.start_cap && same_cap s.end_cap t.end_cap))
    && eqb s.dash t.dash

-- "size bits" are equal. A NaN, which no accepted strip holds, is the same as nothing.
unfoldable pub same_bits : Float → Float → Bool
same_bits a b = eq a b && eqb (to_bits binary32 a) (to_bits binary32 b)

-- dew's `glyph_eq`: glyphs "whose id, x or y differ" are not the same
unfoldable pub same_glyph : Glyph → Glyph → Bool
same_glyph a b = eqb a.id b.id && (eq a.x b.x && eq a.y b.y)

unfoldable pub equal_glyph : Glyph → Glyph → Bool
equal_glyph a b = same_glyph a b && same_edges a.bounds b.bounds

-- dew's paths: "path equality there is number and box"
unfoldable pub same_path : ℕ → Rect → Affine → ℕ → ℕ → Rect → Affine → ℕ → Bool
same_path path b t brush path' b' t' brush' = (eqb path path' && same_edges b b') && (same_affine t t' && eqb brush brush')

-- ---- lists, place by place
unfoldable pub equal_glyphs : List Glyph → List Glyph → Bool
equal_glyphs [] [] = true
equal_glyphs [] (h ∷ hs) = false
equal_glyphs (g ∷ gs) [] = false
equal_glyphs (g ∷ gs) (h ∷ hs) = equal_glyph g h && equal_glyphs gs hs

-- "clips as lists of boxes"
unfoldable pub same_clips : List Rect → List Rect → Bool
same_clips [] [] = true
same_clips [] (d ∷ ds) = false
same_clips (c ∷ cs) [] = false
same_clips (c ∷ cs) (d ∷ ds) = same_edges c d && same_clips cs ds
