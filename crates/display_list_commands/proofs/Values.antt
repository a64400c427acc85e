-- Boxes of commands are functions of values: operands that differ in the signs of zeros alone give boxes that do. Assumes nothing.
use mathlib.Core.Path.{◌≡◌, refl, subst}
use mathlib.Core.List.{List, [], ◌∷◌}
use mathlib.Core.Logic.{inl}
use Prim.Native.Nat.{◌<◌}
use native.Mathlib.Omega.{arith}
use lib.ListN.{length}
use lib.Ieee.{Float}
use Rattle.base_ieee.specs.Values.{Same}
use Rattle.base_ieee.proofs.Values.{mul_same, div_same}
use Rattle.base_floats.proofs.Orders.{larger_same}
use Rattle.kurbo_geometry.specs.declared.Rect.{Rect}
use Rattle.kurbo_geometry.specs.Boxes.{intersect, union}
use Rattle.kurbo_geometry.proofs.Edges.{Edges, edges_map}
use Rattle.kurbo_geometry.proofs.Values.{SameBox, SameBoxes, union_same, intersect_same}
use Rattle.kurbo_affine.specs.declared.Affine.{Affine}
use Rattle.kurbo_affine.proofs.Values.{SameAffine, transform_same}
use Rattle.base_lists.specs.Places.{ByPlace}
use Rattle.base_lists.specs.Members.{All}
use Rattle.base_lists.proofs.Members.{all_map}
use Rattle.display_list_commands.specs.declared.Join.{Join}
use Rattle.display_list_commands.specs.declared.Join.TheVariants as J
use Rattle.display_list_commands.specs.declared.Stroke.{Stroke}
use Rattle.display_list_commands.specs.declared.Glyph.{Glyph}
use Rattle.display_list_commands.specs.declared.DrawCommand.{DrawCommand}
use Rattle.display_list_commands.specs.declared.DrawCommand.TheVariants.{FillPath, StrokePath, GlyphRun, Scene}
use Rattle.display_list_commands.specs.Strokes.{one, two, join_scale, cap_scale, stroke_bounds_inflation}
use Rattle.display_list_commands.specs.Bounds.{Command, transform_of, united_from, united, local_bounds, clip_from, clip_box, clipped, bounds, glyph_bounds}

-- ---- the floats that a command's boxes are made of, each with a property
pub record Entries (P : Float → Type 0) (t : Affine) : Type 0 where
  pub a : P t.a
  pub b : P t.b
  pub c : P t.c
  pub d : P t.d
  pub e : P t.e
  pub f : P t.f

abbrev pub DrawFloats : (Float → Type 0) → DrawCommand → Type 0
DrawFloats P (FillPath path b t brush) = Edges P b × Entries P t
DrawFloats P (StrokePath path b t stroke brush) = Edges P b × Entries P t × P stroke.width × P stroke.miter_limit
DrawFloats P (GlyphRun font size t brush b n) = Edges P b × Entries P t
DrawFloats P (Scene content generation target t b) = Edges P b × Entries P t

pub record Floats (P : Float → Type 0) (c : Command) : Type 0 where
  pub draw : DrawFloats P c.draw
  pub glyphs : All (λ g. Edges P g.bounds) c.glyphs
  pub clips : All (Edges P) c.clips

-- what follows of each float
module _ (P Q : Float → Type 0) (f : (x : Float) → P x → Q x) where
  entries_map : (t : Affine) → Entries P t → Entries Q t
  entries_map t e = record { a = f t.a e.a; b = f t.b e.b; c = f t.c e.c; d = f t.d e.d; e = f t.e e.e; f = f t.f e.f }

  draw_map : (d : DrawCommand) → DrawFloats P d → DrawFloats Q d
  draw_map (FillPath path b t brush) e = (edges_map P Q f b e.0, entries_map t e.1)
  draw_map (StrokePath path b t stroke brush) e = (edges_map P Q f b e.0, entries_map t e.1, f stroke.width e.2, f stroke.miter_limit e.3)
  draw_map (GlyphRun font size t brush b n) e = (edges_map P Q f b e.0, entries_map t e.1)
  draw_map (Scene content generation target t b) e = (edges_map P Q f b e.0, entries_map t e.1)

  pub floats_map : (c : Command) → Floats P c → Floats Q c
  floats_map c e = record {
    draw = draw_map c.draw e.draw;
    glyphs = all_map (λ (g : Glyph). Edges P g.bounds) (λ g. Edges Q g.bounds) (λ g. edges_map P Q f g.bounds) c.glyphs e.glyphs;
    clips = all_map (Edges P) (Edges Q) (edges_map P Q f) c.clips e.clips;
  }

-- ---- strokes
pub record SameStroke (s t : Stroke) : Type 0 where
  pub width : Same s.width t.width
  pub limit : Same s.miter_limit t.miter_limit
  pub join : s.join ≡ t.join
  pub start : s.start_cap ≡ t.start_cap
  pub end : s.end_cap ≡ t.end_cap

limit_same : (j : Join) (l m : Float) → Same l m → Same (join_scale j l) (join_scale j m)
limit_same J.Bevel l m p = inl refl
limit_same J.Miter l m p = larger_same l m one one p (inl refl)
limit_same J.Round l m p = inl refl

join_same : (j k : Join) (l m : Float) → j ≡ k → Same l m → Same (join_scale j l) (join_scale k m)
join_same j k l m e p = subst (λ z. Same (join_scale j l) (join_scale z m)) e (limit_same j l m p)

pub inflation_same : (s t : Stroke) → SameStroke s t → Same (stroke_bounds_inflation s) (stroke_bounds_inflation t)
unfolding stroke_bounds_inflation
inflation_same s t k =
    mul_same _ _ _ _ (div_same s.width t.width two k.width) (larger_same _ _ _ _ (join_same s.join t.join s.miter_limit t.miter_limit k.join k.limit) (inl (λ i. cap_scale (k.start i) (cap_scale (k.end i) one))))

-- ---- the boxes of glyphs, and lists of clips, place by place
abbrev pub SameInk : List Glyph → List Glyph → Type 0
SameInk gs hs = ByPlace (λ g h. SameBox g.bounds h.bounds) gs hs

united_from_lem : (a b : Rect) (gs hs : List Glyph) → SameBox a b → SameInk gs hs → SameBox (united_from a gs) (united_from b hs)
unfolding united_from ByPlace
united_from_lem a b [] [] p q = p
united_from_lem a b [] (h ∷ hs) p q = absurd q
united_from_lem a b (g ∷ gs) [] p q = absurd q
united_from_lem a b (g ∷ gs) (h ∷ hs) p q = united_from_lem (union a g.bounds) (union b h.bounds) gs hs (union_same a b g.bounds h.bounds p q.0) q.1

pub united_same : (a b : Rect) (gs hs : List Glyph) → SameBox a b → SameInk gs hs → SameBox (united a gs) (united b hs)
unfolding ByPlace
united_same a b [] [] p q = p
united_same a b [] (h ∷ hs) p q = absurd q
united_same a b (g ∷ gs) [] p q = absurd q
united_same a b (g ∷ gs) (h ∷ hs) p q = united_from_lem g.bounds h.bounds gs hs q.0 q.1

clip_from_lem : (a b : Rect) (cs ds : List Rect) → SameBox a b → SameBoxes cs ds → SameBox (clip_from a cs) (clip_from b ds)
unfolding clip_from ByPlace
clip_from_lem a b [] [] p q = p
clip_from_lem a b [] (d ∷ ds) p q = absurd q
clip_from_lem a b (c ∷ cs) [] p q = absurd q
clip_from_lem a b (c ∷ cs) (d ∷ ds) p q = clip_from_lem (intersect a c) (intersect b d) cs ds (intersect_same a b c d p q.0) q.1

-- equal lists of clips have equal active clip boxes, so dew's second comparison of them tells nothing new
pub clip_box_same : (cs ds : List Rect) → 0 < length cs → SameBoxes cs ds → SameBox (clip_box cs) (clip_box ds)
unfolding ByPlace
clip_box_same [] ds h q = absurd (omega arith)
clip_box_same (c ∷ cs) [] h q = absurd q
clip_box_same (c ∷ cs) (d ∷ ds) h q = clip_from_lem c d cs ds q.0 q.1

pub clipped_same : (cs ds : List Rect) (a b : Rect) → SameBoxes cs ds → SameBox a b → SameBox (clipped cs a) (clipped ds b)
unfolding ByPlace
clipped_same [] [] a b q p = p
clipped_same [] (d ∷ ds) a b q p = absurd q
clipped_same (c ∷ cs) [] a b q p = absurd q
clipped_same (c ∷ cs) (d ∷ ds) a b q p = intersect_same a b (clip_box (c ∷ cs)) (clip_box (d ∷ ds)) p (clip_box_same (c ∷ cs) (d ∷ ds) (omega arith) q)

-- ---- the box of a command, and that of a glyph of it
module _ (c d : Command) (t : SameAffine (transform_of c.draw) (transform_of d.draw)) (k : SameBoxes c.clips d.clips) where
  pub bounds_same : SameBox (local_bounds c.draw c.glyphs) (local_bounds d.draw d.glyphs) → SameBox (bounds c) (bounds d)
  unfolding bounds
  bounds_same p = clipped_same c.clips d.clips _ _ k (transform_same (transform_of c.draw) (transform_of d.draw) _ _ t p)

  pub glyph_bounds_same : (g h : Glyph) → SameBox g.bounds h.bounds → SameBox (glyph_bounds c g) (glyph_bounds d h)
  unfolding glyph_bounds
  glyph_bounds_same g h p = clipped_same c.clips d.clips _ _ k (transform_same (transform_of c.draw) (transform_of d.draw) g.bounds h.bounds t p)
