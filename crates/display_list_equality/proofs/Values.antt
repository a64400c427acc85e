-- Equal commands have equal boxes, by value, and so have the parts of commands that are alike. Every float compared is an f64 and no NaN. Assumes nothing.
use mathlib.Core.Path.{◌≡◌, refl, sym}
use mathlib.Core.Bool.{true, ◌&&◌, true≢false}
use mathlib.Core.List.{List, [], ◌∷◌}
use Prim.Native.Nat.{ℕ}
use lib.Dec.{T, eqb}
use lib.Ieee.{Float, eq}
use Rattle.std.proofs.lemmas.Bool.{and_parts}
use Rattle.base_lists.specs.Places.{ByPlace}
use Rattle.base_lists.specs.Members.{All}
use Rattle.base_lists.proofs.Bools.{holds}
use Rattle.base_ieee.proofs.Rank.{ordered}
use Rattle.base_ieee.specs.Values.{Same}
use Rattle.base_ieee.proofs.Values.{same_value}
use Rattle.kurbo_geometry.specs.declared.Rect.{Rect}
use Rattle.kurbo_geometry.specs.Boxes.{same_edges, inflate}
use Rattle.kurbo_geometry.proofs.Edges.{Edges, Ordered}
use Rattle.kurbo_geometry.proofs.Values.{SameBox, SameBoxes, edges_same, inflate_same}
use Rattle.kurbo_affine.specs.declared.Affine.{Affine}
use Rattle.kurbo_affine.proofs.Values.{SameAffine}
use Rattle.display_list_commands.specs.declared.Join.{Join}
use Rattle.display_list_commands.specs.declared.Join.TheVariants as J
use Rattle.display_list_commands.specs.declared.Cap.{Cap}
use Rattle.display_list_commands.specs.declared.Cap.TheVariants as C
use Rattle.display_list_commands.specs.declared.Stroke.{Stroke}
use Rattle.display_list_commands.specs.declared.Glyph.{Glyph}
use Rattle.display_list_commands.specs.declared.DrawCommand.{DrawCommand}
use Rattle.display_list_commands.specs.declared.DrawCommand.TheVariants.{FillPath, StrokePath, GlyphRun, Scene}
use Rattle.display_list_commands.specs.Strokes.{stroke_bounds_inflation}
use Rattle.display_list_commands.specs.Bounds.{Command, transform_of, united, local_bounds, bounds, glyph_bounds}
use Rattle.display_list_commands.proofs.Values.{Entries, DrawFloats, Floats, SameStroke, inflation_same, SameInk, united_same, bounds_same, glyph_bounds_same}
use Rattle.display_list_operand_equality.specs.Operands.{same_affine, join_code, same_cap, same_stroke, same_bits, same_glyph, equal_glyph, same_path, equal_glyphs, same_clips}
use Rattle.display_list_equality.specs.Drawings.{same_fill, same_stroked, same_run, same_scene, run_alike, same_drawing, runs_alike, equal}

-- the property of every float
abbrev pub Good : Float → Type 0
Good x = T (ordered x)

value : (x y : Float) → Good x → Good y → eq x y ≡ true → Same x y
value x y p q e = same_value x y p q (holds (eq x y) e)

-- ---- operands
pub affine_same : (s t : Affine) → Entries Good s → Entries Good t → same_affine s t ≡ true → SameAffine s t
unfolding same_affine
affine_same s t p q e =
    let h = and_parts _ _ e in
    let k = and_parts _ _ h.0 in
    let m = and_parts _ _ k.0 in
    let n = and_parts _ _ k.1 in
    let o = and_parts _ _ h.1 in
    record {
      a = value s.a t.a p.a q.a m.0;
      b = value s.b t.b p.b q.b m.1;
      c = value s.c t.c p.c q.c n.0;
      d = value s.d t.d p.d q.d n.1;
      e = value s.e t.e p.e q.e o.0;
      f = value s.f t.f p.f q.f o.1;
    }

join_is : (j k : Join) → eqb (join_code j) (join_code k) ≡ true → j ≡ k
join_is J.Bevel J.Bevel e = refl
join_is J.Miter J.Miter e = refl
join_is J.Round J.Round e = refl
join_is J.Bevel J.Miter e = absurd (true≢false (sym e))
join_is J.Bevel J.Round e = absurd (true≢false (sym e))
join_is J.Miter J.Bevel e = absurd (true≢false (sym e))
join_is J.Miter J.Round e = absurd (true≢false (sym e))
join_is J.Round J.Bevel e = absurd (true≢false (sym e))
join_is J.Round J.Miter e = absurd (true≢false (sym e))

cap_is : (c d : Cap) → same_cap c d ≡ true → c ≡ d
unfolding same_cap
cap_is C.Butt C.Butt e = refl
cap_is C.Square C.Square e = refl
cap_is C.Round C.Round e = refl
cap_is C.Butt C.Square e = absurd (true≢false (sym e))
cap_is C.Butt C.Round e = absurd (true≢false (sym e))
cap_is C.Square C.Butt e = absurd (true≢false (sym e))
cap_is C.Square C.Round e = absurd (true≢false (sym e))
cap_is C.Round C.Butt e = absurd (true≢false (sym e))
cap_is C.Round C.Square e = absurd (true≢false (sym e))

pub stroke_same : (s t : Stroke) → Good s.width → Good s.miter_limit → Good t.width → Good t.miter_limit → same_stroke s t ≡ true → SameStroke s t
unfolding same_stroke
stroke_same s t a b c d e =
    let h = and_parts _ _ (and_parts _ _ e).0 in
    let k = and_parts _ _ h.0 in
    let m = and_parts _ _ h.1 in
    let n = and_parts _ _ m.1 in
    record {
      width = value s.width t.width a c k.0;
      limit = value s.miter_limit t.miter_limit b d k.1;
      join = join_is s.join t.join m.0;
      start = cap_is s.start_cap t.start_cap n.0;
      end = cap_is s.end_cap t.end_cap n.1;
    }

-- ---- lists
pub clips_same : (cs ds : List Rect) → All Ordered cs → All Ordered ds → same_clips cs ds ≡ true → SameBoxes cs ds
unfolding same_clips ByPlace All
clips_same [] [] p q e = tt
clips_same [] (d ∷ ds) p q e = true≢false (sym e)
clips_same (c ∷ cs) [] p q e = true≢false (sym e)
clips_same (c ∷ cs) (d ∷ ds) p q e = let h = and_parts (same_edges c d) (same_clips cs ds) e in (edges_same c d p.0 q.0 h.0, clips_same cs ds p.1 q.1 h.1)

pub glyphs_same : (gs hs : List Glyph) → All (λ g. Ordered g.bounds) gs → All (λ g. Ordered g.bounds) hs → equal_glyphs gs hs ≡ true → SameInk gs hs
unfolding equal_glyphs equal_glyph ByPlace All
glyphs_same [] [] p q e = tt
glyphs_same [] (h ∷ hs) p q e = true≢false (sym e)
glyphs_same (g ∷ gs) [] p q e = true≢false (sym e)
glyphs_same (g ∷ gs) (h ∷ hs) p q e =
    let k = and_parts (same_glyph g h && same_edges g.bounds h.bounds) (equal_glyphs gs hs) e in
    (edges_same g.bounds h.bounds p.0 q.0 (and_parts (same_glyph g h) (same_edges g.bounds h.bounds) k.0).1, glyphs_same gs hs p.1 q.1 k.1)

-- ---- commands: equal affines and local boxes
-- what the operands shared by fills and strokes tell
path_same : (n m : ℕ) (b b' : Rect) (t t' : Affine) (k l : ℕ) → Edges Good b → Edges Good b' → Entries Good t → Entries Good t' → same_path n b t k m b' t' l ≡ true → SameAffine t t' × SameBox b b'
unfolding same_path
path_same n m b b' t t' k l p p' q q' e =
    let h = and_parts (eqb n m && same_edges b b') (same_affine t t' && eqb k l) e in
    (affine_same t t' q q' (and_parts (same_affine t t') (eqb k l) h.1).0, edges_same b b' p p' (and_parts (eqb n m) (same_edges b b') h.0).1)

module _ (b : Rect) (t : Affine) (p : Edges Good b) (q : Entries Good t) (hs : List Glyph) where
  fill_same : (n k : ℕ) (d : DrawCommand) → DrawFloats Good d → same_fill n b t k d ≡ true → SameAffine t (transform_of d) × SameBox b (local_bounds d hs)
  unfolding same_fill
  fill_same n k (FillPath m b' t' l) r e = path_same n m b b' t t' k l p r.0 q r.1 e
  fill_same n k (StrokePath m b' t' s l) r e = absurd (true≢false (sym e))
  fill_same n k (GlyphRun f z t' l b' i) r e = absurd (true≢false (sym e))
  fill_same n k (Scene x g y t' b') r e = absurd (true≢false (sym e))

  stroked_same : (n k : ℕ) (s : Stroke) (d : DrawCommand) → Good s.width → Good s.miter_limit → DrawFloats Good d → same_stroked n b t s k d ≡ true → SameAffine t (transform_of d) × SameBox (inflate b (stroke_bounds_inflation s) (stroke_bounds_inflation s)) (local_bounds d hs)
  unfolding same_stroked
  stroked_same n k s (StrokePath m b' t' s' l) w x r e =
      let h = and_parts (same_path n b t k m b' t' l) (same_stroke s s') e in
      let u = path_same n m b b' t t' k l p r.0 q r.1 h.0 in
      let v = inflation_same s s' (stroke_same s s' w x r.2 r.3 h.1) in
      (u.0, inflate_same b b' _ _ _ _ u.1 v v)
  stroked_same n k s (FillPath m b' t' l) w x r e = absurd (true≢false (sym e))
  stroked_same n k s (GlyphRun f z t' l b' i) w x r e = absurd (true≢false (sym e))
  stroked_same n k s (Scene x' g y t' b') w x r e = absurd (true≢false (sym e))

  scene_same : (x g y : ℕ) (d : DrawCommand) → DrawFloats Good d → same_scene x g y t b d ≡ true → SameAffine t (transform_of d) × SameBox b (local_bounds d hs)
  unfolding same_scene
  scene_same x g y (Scene x' g' y' t' b') r e =
      let h = and_parts ((eqb x x' && eqb g g') && (eqb y y' && same_affine t t')) (same_edges b b') e in
      let k = and_parts (eqb x x' && eqb g g') (eqb y y' && same_affine t t') h.0 in
      (affine_same t t' q r.1 (and_parts (eqb y y') (same_affine t t') k.1).1, edges_same b b' p r.0 h.1)
  scene_same x g y (FillPath m b' t' l) r e = absurd (true≢false (sym e))
  scene_same x g y (StrokePath m b' t' s l) r e = absurd (true≢false (sym e))
  scene_same x g y (GlyphRun f z t' l b' i) r e = absurd (true≢false (sym e))

  run_same : (f : ℕ) (z : Float) (k : ℕ) (gs : List Glyph) (d : DrawCommand) → DrawFloats Good d → SameInk gs hs → same_run f z t k b d ≡ true → SameAffine t (transform_of d) × SameBox (united b gs) (local_bounds d hs)
  unfolding same_run
  run_same f z k gs (GlyphRun f' z' t' l b' i) r w e =
      let h = and_parts ((eqb f f' && eq z z') && (same_affine t t' && eqb k l)) (same_edges b b') e in
      let m = and_parts (eqb f f' && eq z z') (same_affine t t' && eqb k l) h.0 in
      (affine_same t t' q r.1 (and_parts (same_affine t t') (eqb k l) m.1).0, united_same b b' gs hs (edges_same b b' p r.0 h.1) w)
  run_same f z k gs (FillPath m b' t' l) r w e = absurd (true≢false (sym e))
  run_same f z k gs (StrokePath m b' t' s l) r w e = absurd (true≢false (sym e))
  run_same f z k gs (Scene x g y t' b') r w e = absurd (true≢false (sym e))

  alike_same : (f : ℕ) (z : Float) (k : ℕ) (d : DrawCommand) → DrawFloats Good d → run_alike f z t k d ≡ true → SameAffine t (transform_of d)
  unfolding run_alike
  alike_same f z k (GlyphRun f' z' t' l b' i) r e =
      let h = and_parts (eqb f f' && same_bits z z') (same_affine t t' && eqb k l) e in
      affine_same t t' q r.1 (and_parts (same_affine t t') (eqb k l) h.1).0
  alike_same f z k (FillPath m b' t' l) r e = absurd (true≢false (sym e))
  alike_same f z k (StrokePath m b' t' s l) r e = absurd (true≢false (sym e))
  alike_same f z k (Scene x g y t' b') r e = absurd (true≢false (sym e))

-- equal drawings, with equal glyphs, have equal affines and local boxes
pub drawing_same : (c d : DrawCommand) (gs hs : List Glyph) → DrawFloats Good c → DrawFloats Good d → SameInk gs hs → same_drawing c d ≡ true → SameAffine (transform_of c) (transform_of d) × SameBox (local_bounds c gs) (local_bounds d hs)
unfolding same_drawing
drawing_same (FillPath n b t k) d gs hs p q w e = fill_same b t p.0 p.1 hs n k d q e
drawing_same (StrokePath n b t s k) d gs hs p q w e = stroked_same b t p.0 p.1 hs n k s d p.2 p.3 q e
drawing_same (GlyphRun f z t k b i) d gs hs p q w e = run_same b t p.0 p.1 hs f z k gs d q w e
drawing_same (Scene x g y t b) d gs hs p q w e = scene_same b t p.0 p.1 hs x g y d q e

runs_same : (c d : DrawCommand) → DrawFloats Good c → DrawFloats Good d → runs_alike c d ≡ true → SameAffine (transform_of c) (transform_of d)
unfolding runs_alike
runs_same (GlyphRun f z t k b i) d p q e = alike_same b t p.0 p.1 [] f z k d q e
runs_same (FillPath n b t k) d p q e = absurd (true≢false (sym e))
runs_same (StrokePath n b t s k) d p q e = absurd (true≢false (sym e))
runs_same (Scene x g y t b) d p q e = absurd (true≢false (sym e))

-- ---- with clips
module _ (c d : Command) (p : Floats Good c) (q : Floats Good d) where
  pub equal_bounds : equal c d ≡ true → SameBox (bounds c) (bounds d)
  unfolding equal
  equal_bounds e =
      let h = and_parts (same_drawing c.draw d.draw && equal_glyphs c.glyphs d.glyphs) (same_clips c.clips d.clips) e in
      let k = and_parts (same_drawing c.draw d.draw) (equal_glyphs c.glyphs d.glyphs) h.0 in
      let s = drawing_same c.draw d.draw c.glyphs d.glyphs p.draw q.draw (glyphs_same c.glyphs d.glyphs p.glyphs q.glyphs k.1) k.0 in
      bounds_same c d s.0 (clips_same c.clips d.clips p.clips q.clips h.1) s.1

  -- a glyph's box is the same under either of two equal commands
  pub equal_glyph_bounds : equal c d ≡ true → (g h : Glyph) → SameBox g.bounds h.bounds → SameBox (glyph_bounds c g) (glyph_bounds d h)
  unfolding equal
  equal_glyph_bounds e g h s =
      let m = and_parts (same_drawing c.draw d.draw && equal_glyphs c.glyphs d.glyphs) (same_clips c.clips d.clips) e in
      let k = and_parts (same_drawing c.draw d.draw) (equal_glyphs c.glyphs d.glyphs) m.0 in
      let a = drawing_same c.draw d.draw c.glyphs d.glyphs p.draw q.draw (glyphs_same c.glyphs d.glyphs p.glyphs q.glyphs k.1) k.0 in
      glyph_bounds_same c d a.0 (clips_same c.clips d.clips p.clips q.clips m.1) g h s
