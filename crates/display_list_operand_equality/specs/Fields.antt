-- The fields of operands, numbers by themselves and floats by themselves, in the order in which the strip has them.
use Rattle.std.specs.Prelude.{List, [], ◌∷◌, ℕ, Float}
use Rattle.kurbo_geometry.specs.declared.Rect.{Rect}
use Rattle.kurbo_affine.specs.declared.Affine.{Affine}
use Rattle.display_list_commands.specs.declared.Stroke.{Stroke}
use Rattle.display_list_commands.specs.declared.Glyph.{Glyph}
use Rattle.display_list_operand_equality.specs.Operands.{join_code, cap_code}

-- "A box is x0, y0, x1, y1"
abbrev pub edges_of : Rect → List Float
edges_of b = b.x0 ∷ b.y0 ∷ b.x1 ∷ b.y1 ∷ []

-- "An affine is a, b, c, d, e, f."
abbrev pub entries_of : Affine → List Float
entries_of t = t.a ∷ t.b ∷ t.c ∷ t.d ∷ t.e ∷ t.f ∷ []

-- "width, join u8, miter limit, start cap u8, end cap u8, dash"
abbrev pub stroke_numbers : Stroke → List ℕ
stroke_numbers s = join_code s.join ∷ cap_code s.start_cap ∷ cap_code s.end_cap ∷ s.dash ∷ []

abbrev pub stroke_floats : Stroke → List Float
stroke_floats s = s.width ∷ s.miter_limit ∷ []

-- "id u32, x f32, y f32, box"
abbrev pub glyph_numbers : Glyph → List ℕ
glyph_numbers g = g.id ∷ []

abbrev pub glyph_floats : Glyph → List Float
glyph_floats g = g.x ∷ g.y ∷ edges_of g.bounds
