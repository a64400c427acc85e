-- The rules can be met: painters that give a shape its brush where its box touches, and a glyph its brush where a box of ink touches that lies
-- within the glyph's. Assumes nothing.
use mathlib.Core.Path.{◌≡◌, refl, sym, ap, ◌∙◌}
use mathlib.Core.Bool.{Bool, true, false, ◌&&◌, false≢true}
use mathlib.Core.List.{List, [], ◌∷◌}
use Prim.Native.Nat.{ℕ, ◌^◌, ◌<◌}
use native.Mathlib.Omega.{arith}
use borrow.Author.Tests.{eqb-true}
use lib.Dec.{T, eqb}
use lib.Ieee.{Float, eq}
use lib.Ieee.Fits.{and_l, and_r}
use Rattle.base_lists.specs.Pick.{pick}
use Rattle.base_lists.specs.Members.{All}
use Rattle.base_lists.proofs.Members.{all_map, in_all}
use Rattle.base_lists.proofs.Bools.{holds, is_true, is_false, not_both}
use Rattle.kurbo_geometry.specs.declared.Rect.{Rect}
use Rattle.kurbo_geometry.specs.Boxes.{same_edges}
use Rattle.kurbo_geometry.specs.Pixels.{touches}
use Rattle.kurbo_geometry.proofs.Edges.{Ordered}
use Rattle.kurbo_geometry.proofs.Cuts.{part_touches}
use Rattle.kurbo_geometry.proofs.Values.{touches_same}
use Rattle.kurbo_affine.specs.declared.Affine.{Affine}
use Rattle.display_list_commands.specs.declared.Stroke.{Stroke}
use Rattle.display_list_commands.specs.declared.Glyph.{Glyph}
use Rattle.display_list_commands.specs.declared.DrawCommand.{DrawCommand}
use Rattle.display_list_commands.specs.declared.DrawCommand.TheVariants.{FillPath, StrokePath, GlyphRun, Scene}
use Rattle.display_list_commands.specs.Bounds.{Command, bounds, glyph_bounds}
use Rattle.display_list_commands.proofs.Values.{Floats}
use Rattle.display_list_operand_equality.specs.Operands.{same_affine, same_stroke, same_path, same_glyph, equal_glyph, equal_glyphs, same_clips}
use Rattle.display_list_equality.specs.Drawings.{same_fill, same_stroked, same_run, same_scene, same_drawing, fills_alike, equal}
use Rattle.display_list_equality.proofs.Values.{Good, equal_bounds}
use Rattle.compositor_index_words.specs.Painting.{paint_all}
use Rattle.panels_painting.specs.Painters.{Pixel, is_run, brush_of, Key, key_of, same_key, Rules}
use Rattle.panels_painting.proofs.Keys.{same_ink, key_of_parts}

-- ---- what equal drawings have in common
pub record Kin (c d : DrawCommand) : Type 0 where
  pub run : is_run c ≡ is_run d
  pub brush : brush_of c ≡ brush_of d
  pub ink : is_run c ≡ true → T (same_ink c d)

path_brush : (n m : ℕ) (b b' : Rect) (t t' : Affine) (k l : ℕ) → T (same_path n b t k m b' t' l) → k ≡ l
unfolding same_path
path_brush n m b b' t t' k l e = eqb-true k l (is_true (eqb k l) (and_r (same_affine t t') (eqb k l) (and_r (eqb n m && same_edges b b') (same_affine t t' && eqb k l) e)))

fill_kin : (n : ℕ) (b : Rect) (t : Affine) (k : ℕ) (d : DrawCommand) → T (same_fill n b t k d) → Kin (FillPath n b t k) d
unfolding same_fill
fill_kin n b t k (FillPath m b' t' l) e = record { run = refl; brush = path_brush n m b b' t t' k l e; ink = λ z. absurd (false≢true z) }
fill_kin n b t k (StrokePath m b' t' s l) e = absurd e
fill_kin n b t k (GlyphRun f z t' l b' i) e = absurd e
fill_kin n b t k (Scene x g y t' b') e = absurd e

stroke_kin : (n : ℕ) (b : Rect) (t : Affine) (s : Stroke) (k : ℕ) (d : DrawCommand) → T (same_stroked n b t s k d) → Kin (StrokePath n b t s k) d
unfolding same_stroked
stroke_kin n b t s k (StrokePath m b' t' s' l) e = record { run = refl; brush = path_brush n m b b' t t' k l (and_l (same_path n b t k m b' t' l) (same_stroke s s') e); ink = λ z. absurd (false≢true z) }
stroke_kin n b t s k (FillPath m b' t' l) e = absurd e
stroke_kin n b t s k (GlyphRun f z t' l b' i) e = absurd e
stroke_kin n b t s k (Scene x g y t' b') e = absurd e

run_kin : (f : ℕ) (z : Float) (t : Affine) (k : ℕ) (b : Rect) (i : ℕ) (d : DrawCommand) → T (same_run f z t k b d) → Kin (GlyphRun f z t k b i) d
unfolding same_run
run_kin f z t k b i (GlyphRun f' z' t' l b' j) e =
    let F = eqb f f' && eq z z' in
    let A = same_affine t t' && eqb k l in
    let u = and_l (F && A) (same_edges b b') e in
    record { run = refl; brush = eqb-true k l (is_true (eqb k l) (and_r (same_affine t t') (eqb k l) (and_r F A u))); ink = λ _. u }
run_kin f z t k b i (FillPath m b' t' l) e = absurd e
run_kin f z t k b i (StrokePath m b' t' s l) e = absurd e
run_kin f z t k b i (Scene x g y t' b') e = absurd e

scene_kin : (x g y : ℕ) (t : Affine) (b : Rect) (d : DrawCommand) → T (same_scene x g y t b d) → Kin (Scene x g y t b) d
unfolding same_scene
scene_kin x g y t b (Scene x' g' y' t' b') e = record { run = refl; brush = refl; ink = λ z. absurd (false≢true z) }
scene_kin x g y t b (FillPath m b' t' l) e = absurd e
scene_kin x g y t b (StrokePath m b' t' s l) e = absurd e
scene_kin x g y t b (GlyphRun f z t' l b' i) e = absurd e

pub drawing_kin : (c d : DrawCommand) → T (same_drawing c d) → Kin c d
unfolding same_drawing
drawing_kin (FillPath n b t k) d e = fill_kin n b t k d e
drawing_kin (StrokePath n b t s k) d e = stroke_kin n b t s k d e
drawing_kin (GlyphRun f z t k b i) d e = run_kin f z t k b i d e
drawing_kin (Scene x g y t b) d e = scene_kin x g y t b d e

pub fills_kin : (c d : DrawCommand) → T (fills_alike c d) → (is_run c ≡ false) × Kin c d
unfolding fills_alike
fills_kin (FillPath n b t k) d e = (refl, fill_kin n b t k d e)
fills_kin (StrokePath n b t s k) d e = absurd e
fills_kin (GlyphRun f z t k b i) d e = absurd e
fills_kin (Scene x g y t b) d e = absurd e

key_brush : (j k : Key) → T (same_key j k) → j.brush ≡ k.brush
unfolding same_key
key_brush j k e =
    let F = eqb j.font k.font && eq j.size k.size in
    let A = same_affine j.transform k.transform in
    let B = eqb j.brush k.brush in
    let K = same_clips j.clips k.clips in
    let G = eqb j.id k.id && (eq j.x k.x && eq j.y k.y) in
    eqb-true j.brush k.brush (is_true B (and_r A B (and_r F (A && B) (and_l (F && (A && B)) K (and_l (F && (A && B) && K) G e)))))

-- ---- the painters: `ink` is any box of a key that is the same for keys equal by value
module _ (w h : ℕ) (wl : w < 2 ^ 53) (hl : h < 2 ^ 53) (ink : Key → Rect) (ink-same : (j k : Key) → same_key j k ≡ true → (p q : ℕ) → touches (ink j) p q ≡ touches (ink k) p q) where
  unfoldable mark : Key → Pixel w h → ℕ → ℕ
  mark j px k = pick (touches (ink j) px.p px.q) j.brush k

  unfoldable shape : Command → Pixel w h → ℕ → ℕ
  shape c px k = pick (touches (bounds c) px.p px.q) (brush_of c.draw) k

  unfoldable text : Command → Pixel w h → ℕ → ℕ
  text c px k = paint_all (λ g. mark (key_of c g) px) c.glyphs k

  unfoldable paint : Command → Pixel w h → ℕ → ℕ
  paint c px k = pick (is_run c.draw) (text c px k) (shape c px k)

  -- commands of numbers, whose glyphs' ink lies within the glyphs' boxes and the command's
  record Inked (c : Command) : Type 0 where
    floats : Floats Good c
    box : Ordered (bounds c)
    within : All (λ g. (p q : ℕ) → T (touches (ink (key_of c g)) p q) → T (touches (glyph_bounds c g) p q) × T (touches (bounds c) p q)) c.glyphs

  mark_silent : (j : Key) (px : Pixel w h) → touches (ink j) px.p px.q ≡ false → (k : ℕ) → mark j px k ≡ k
  unfolding mark
  mark_silent j px e k = rw e

  mark_same : (j j' : Key) → T (same_key j j') → (px : Pixel w h) (k : ℕ) → mark j px k ≡ mark j' px k
  unfolding mark
  mark_same j j' e px k = λ i. pick (ink-same j j' (is_true _ e) px.p px.q i) (key_brush j j' e i) k

  -- text of equal glyphs, place by place
  glyphs_same : (c d : Command) → T (same_ink c.draw d.draw) → T (same_clips c.clips d.clips) → (px : Pixel w h) (gs hs : List Glyph) → T (equal_glyphs gs hs) → (k : ℕ) → paint_all (λ g. mark (key_of c g) px) gs k ≡ paint_all (λ g. mark (key_of d g) px) hs k
  unfolding equal_glyphs equal_glyph paint_all
  glyphs_same c d i l px [] [] e k = refl
  glyphs_same c d i l px [] (j ∷ hs) e k = absurd e
  glyphs_same c d i l px (g ∷ gs) [] e k = absurd e
  glyphs_same c d i l px (g ∷ gs) (j ∷ hs) e k =
      let S = same_glyph g j && same_edges g.bounds j.bounds in
      ap (paint_all (λ x. mark (key_of c x) px) gs) (mark_same (key_of c g) (key_of d j) (key_of_parts c d g j i l (and_l (same_glyph g j) (same_edges g.bounds j.bounds) (and_l S (equal_glyphs gs hs) e))) px k)
      ∙ glyphs_same c d i l px gs hs (and_r S (equal_glyphs gs hs) e) (mark (key_of d j) px k)

  -- text none of whose ink touches
  glyphs_silent : (c : Command) (px : Pixel w h) (gs : List Glyph) → All (λ g. touches (ink (key_of c g)) px.p px.q ≡ false) gs → (k : ℕ) → paint_all (λ g. mark (key_of c g) px) gs k ≡ k
  unfolding paint_all All
  glyphs_silent c px [] a k = refl
  glyphs_silent c px (g ∷ gs) a k = ap (paint_all (λ x. mark (key_of c x) px) gs) (mark_silent (key_of c g) px a.0 k) ∙ glyphs_silent c px gs a.1 k

  -- commands that are both runs, or neither
  paints : (c d : Command) (px : Pixel w h) (k : ℕ) → is_run c.draw ≡ is_run d.draw → (is_run c.draw ≡ true → text c px k ≡ text d px k) → (is_run c.draw ≡ false → shape c px k ≡ shape d px k) → paint c px k ≡ paint d px k
  unfolding paint
  paints c d px k e f g = go (is_run c.draw) refl ∙ ap (λ t. pick t (text d px k) (shape d px k)) e
    where
      go : (t : Bool) → is_run c.draw ≡ t → pick t (text c px k) (shape c px k) ≡ pick t (text d px k) (shape d px k)
      go true r = f r
      go false r = g r

  shapes : (c d : Command) (px : Pixel w h) (k : ℕ) → Kin c.draw d.draw → touches (bounds c) px.p px.q ≡ touches (bounds d) px.p px.q → shape c px k ≡ shape d px k
  unfolding shape
  shapes c d px k n e = λ i. pick (e i) (n.brush i) k

  equals : (c d : Command) → Inked c → Inked d → equal c d ≡ true → (px : Pixel w h) (k : ℕ) → paint c px k ≡ paint d px k
  unfolding equal text
  equals c d mc md e px k =
      let D = same_drawing c.draw d.draw in
      let G = equal_glyphs c.glyphs d.glyphs in
      let K = same_clips c.clips d.clips in
      let t = holds (D && G && K) e in
      let n = drawing_kin c.draw d.draw (and_l D G (and_l (D && G) K t)) in
      paints c d px k n.run
      (λ r. glyphs_same c d (n.ink r) (and_r (D && G) K t) px c.glyphs d.glyphs (and_r D G (and_l (D && G) K t)) k)
      (λ r. shapes c d px k n (touches_same (bounds c) (bounds d) (equal_bounds c d mc.floats md.floats e) px.p px.q))

  untouched : (c : Command) → Inked c → (px : Pixel w h) → touches (bounds c) px.p px.q ≡ false → (k : ℕ) → paint c px k ≡ k
  unfolding paint text shape
  untouched c m px e k = go (is_run c.draw)
    where
      go : (t : Bool) → pick t (text c px k) (shape c px k) ≡ k
      go true = glyphs_silent c px c.glyphs (all_map (λ g. (p q : ℕ) → T (touches (ink (key_of c g)) p q) → T (touches (glyph_bounds c g) p q) × T (touches (bounds c) p q)) (λ g. touches (ink (key_of c g)) px.p px.q ≡ false)
          (λ g f. is_false (touches (ink (key_of c g)) px.p px.q) (λ t. not_both (touches (bounds c) px.p px.q) e (f px.p px.q t).1)) c.glyphs m.within) k
      go false = rw e

  inked_rules : Rules w h ℕ Inked paint mark
  unfolding paint text
  inked_rules = record {
    equals = equals;
    untouched = untouched;
    fills = λ c d mc md e px s k. let n = fills_kin c.draw d.draw (holds _ e) in
        paints c d px k n.1.run (λ r. absurd (false≢true (sym n.0 ∙ r)))
        (λ r. shapes c d px k n.1 (part_touches px.p px.q (omega (arith, px.across)) (omega (arith, px.down)) (bounds c) (bounds d) mc.box md.box s));
    glyph_by_glyph = λ c m r px k. rw r;
    by_value = λ c d mc md r s g j x y e px k. mark_same (key_of c g) (key_of d j) (holds _ e) px k;
    glyph_untouched = λ c m r g i px e k. mark_silent (key_of c g) px
        (is_false (touches (ink (key_of c g)) px.p px.q) (λ t. not_both (touches (glyph_bounds c g) px.p px.q) e
        (in_all (λ x. (p q : ℕ) → T (touches (ink (key_of c x)) p q) → T (touches (glyph_bounds c x) p q) × T (touches (bounds c) p q)) g c.glyphs i m.within px.p px.q t).0)) k;
  }
