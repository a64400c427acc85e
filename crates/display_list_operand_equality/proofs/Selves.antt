-- Operands whose floats are finite are equal to themselves: only a NaN is not. Assumes nothing.
use mathlib.Core.Path.{◌≡◌, refl}
use mathlib.Core.Bool.{true}
use mathlib.Core.Logic.{inl}
use Prim.Native.Nat.{ℕ}
use lib.Dec.{T, eqb}
use lib.Ieee.{Float, nan, inf, fin, eq}
use lib.Ieee.Scale.{finite}
use borrow.Author.Tests.{eq-eqb}
use Rattle.std.proofs.lemmas.Bool.{and_from}
use Rattle.base_lists.proofs.Bools.{is_true}
use Rattle.base_ieee.proofs.Rank.{not_nan}
use Rattle.base_ieee.proofs.Values.{value_same}
use Rattle.kurbo_geometry.specs.declared.Rect.{Rect}
use Rattle.kurbo_geometry.specs.Boxes.{same_edges}
use Rattle.kurbo_geometry.proofs.Edges.{Edges}
use Rattle.kurbo_affine.specs.declared.Affine.{Affine}
use Rattle.display_list_commands.specs.declared.Stroke.{Stroke}
use Rattle.display_list_commands.specs.declared.Glyph.{Glyph}
use Rattle.display_list_commands.proofs.Finite.{Number}
use Rattle.display_list_commands.proofs.Values.{Entries}
use Rattle.display_list_operand_equality.specs.Operands.{same_affine, join_code, cap_code, same_cap, same_stroke, same_glyph, equal_glyph, same_path}

-- ---- numbers
no_nan : (x : Float) → T (finite x) → T (not_nan x)
no_nan nan t = t
no_nan (inf s) t = tt
no_nan (fin s m e) t = tt

pub float_self : (x : Float) → T (finite x) → eq x x ≡ true
float_self x t = is_true (eq x x) (value_same x x (no_nan x t) (inl refl))

own : (x : Float) → Number x → eq x x ≡ true
own x n = float_self x n.0

pub number_self : (n : ℕ) → eqb n n ≡ true
number_self n = eq-eqb n n refl

-- ---- operands
pub edges_self : (b : Rect) → Edges Number b → same_edges b b ≡ true
unfolding same_edges
edges_self b w = rw (own b.x0 w.x0, own b.y0 w.y0, own b.x1 w.x1, own b.y1 w.y1)

pub affine_self : (t : Affine) → Entries Number t → same_affine t t ≡ true
unfolding same_affine
affine_self t w = rw (own t.a w.a, own t.b w.b, own t.c w.c, own t.d w.d, own t.e w.e, own t.f w.f)

pub stroke_self : (s : Stroke) → Number s.width → Number s.miter_limit → same_stroke s s ≡ true
unfolding same_stroke same_cap
stroke_self s w l = rw (own s.width w, own s.miter_limit l, number_self (join_code s.join), number_self (cap_code s.start_cap), number_self (cap_code s.end_cap), number_self s.dash)

pub path_self : (n : ℕ) (b : Rect) (t : Affine) (k : ℕ) → Edges Number b → Entries Number t → same_path n b t k n b t k ≡ true
unfolding same_path
path_self n b t k p q = rw (number_self n, edges_self b p, affine_self t q, number_self k)

-- ---- glyphs
module _ (g : Glyph) (x : T (finite g.x)) (y : T (finite g.y)) where
  pub glyph_self : same_glyph g g ≡ true
  unfolding same_glyph
  glyph_self = rw (number_self g.id, float_self g.x x, float_self g.y y)

  pub equal_glyph_self : Edges Number g.bounds → equal_glyph g g ≡ true
  unfolding equal_glyph
  equal_glyph_self b = and_from _ _ glyph_self (edges_self g.bounds b)
