-- The painters of `Inked` keep the rules over commands whose glyphs have their ink within the glyphs' boxes. Assumes nothing.
use mathlib.Core.Path.{◌≡◌, refl, sym, ap, ◌∙◌}
use mathlib.Core.Bool.{Bool, true, false, ◌&&◌, false≢true}
use mathlib.Core.List.{List, [], ◌∷◌}
use Prim.Native.Nat.{ℕ, ◌^◌, ◌<◌}
use native.Mathlib.Omega.{arith}
use borrow.Author.Tests.{eqb-true}
use lib.Dec.{T}
use lib.Ieee.Fits.{and_l, and_r}
use Rattle.base_lists.specs.Pick.{pick}
use Rattle.base_lists.specs.Members.{All, In}
use Rattle.base_lists.proofs.Members.{all_map, in_all}
use Rattle.base_lists.proofs.Bools.{holds, is_true, is_false, not_both}
use Rattle.kurbo_geometry.specs.declared.Rect.{Rect}
use Rattle.kurbo_geometry.specs.Boxes.{same_edges}
use Rattle.kurbo_geometry.specs.Pixels.{touches}
use Rattle.kurbo_geometry.proofs.Edges.{Ordered}
use Rattle.kurbo_geometry.proofs.Cuts.{part_touches}
use Rattle.kurbo_geometry.proofs.Values.{touches_same}
use Rattle.display_list_commands.specs.declared.Glyph.{Glyph}
use Rattle.display_list_commands.specs.Bounds.{Command, bounds, glyph_bounds}
use Rattle.display_list_commands.proofs.Values.{Floats}
use Rattle.display_list_operand_equality.specs.Operands.{same_glyph, equal_glyph, equal_glyphs, same_clips}
use Rattle.display_list_equality.specs.Drawings.{same_drawing, equal}
use Rattle.display_list_equality.proofs.Values.{Good, equal_bounds}
use Rattle.compositor_index_words.specs.Painting.{paint_all}
use Rattle.panels_painting.specs.Painters.{Pixel, is_run, Key, key_of, same_key, Rules}
use Rattle.panels_painting.specs.Inked.{shape, mark, text, paint}
use Rattle.panels_painting.proofs.Keys.{key_parts, same_ink, key_of_parts}
use Rattle.panels_painting.proofs.Examples.{Kin, drawing_kin, fills_kin}

-- ---- the painters: `ink` is any box of a key that is the same, to the pixel, for keys equal by value; asked of keys that fit alone
module _ (w h : ℕ) (wl : w < 2 ^ 53) (hl : h < 2 ^ 53) (ink : Key → Rect) (Fit : Key → Type 0) (ink_same : (j k : Key) → Fit j → Fit k → T (same_key j k) → (p q : ℕ) → touches (ink j) p q ≡ touches (ink k) p q) where
  -- a glyph's ink lies within the glyph's box and the command's
  abbrev pub InkWithin : Command → Glyph → Type 0
  InkWithin c g = (px : Pixel w h) → T (touches (ink (key_of c g)) px.p px.q) → T (touches (glyph_bounds c g) px.p px.q) × T (touches (bounds c) px.p px.q)

  -- commands of numbers, with such glyphs
  pub record Inked (c : Command) : Type 0 where
    pub floats : Floats Good c
    pub box : Ordered (bounds c)
    pub fit : All (λ g. Fit (key_of c g)) c.glyphs
    pub within : All (InkWithin c) c.glyphs

  mark_silent : (j : Key) (px : Pixel w h) → touches (ink j) px.p px.q ≡ false → (k : ℕ) → mark ink j px k ≡ k
  unfolding mark
  mark_silent j px e k = rw e

  mark_same : (j j' : Key) → Fit j → Fit j' → T (same_key j j') → (px : Pixel w h) (k : ℕ) → mark ink j px k ≡ mark ink j' px k
  unfolding mark
  mark_same j j' f f' e px k =
      let b = eqb-true j.brush j'.brush (is_true _ (key_parts j j' e).brush) in
      λ i. pick (ink_same j j' f f' e px.p px.q i) (b i) k

  -- text of equal glyphs, place by place
  glyphs_same : (c d : Command) → T (same_ink c.draw d.draw) → T (same_clips c.clips d.clips) → (px : Pixel w h) (gs hs : List Glyph) → All (λ g. Fit (key_of c g)) gs → All (λ g. Fit (key_of d g)) hs → T (equal_glyphs gs hs) → (k : ℕ) → paint_all (λ g. mark ink (key_of c g) px) gs k ≡ paint_all (λ g. mark ink (key_of d g) px) hs k
  unfolding equal_glyphs equal_glyph paint_all All
  glyphs_same c d i l px [] [] a b e k = refl
  glyphs_same c d i l px [] (j ∷ hs) a b e k = absurd e
  glyphs_same c d i l px (g ∷ gs) [] a b e k = absurd e
  glyphs_same c d i l px (g ∷ gs) (j ∷ hs) a b e k =
      let S = same_glyph g j && same_edges g.bounds j.bounds in
      ap (paint_all (λ x. mark ink (key_of c x) px) gs) (mark_same (key_of c g) (key_of d j) a.0 b.0 (key_of_parts c d g j i l (and_l (same_glyph g j) (same_edges g.bounds j.bounds) (and_l S (equal_glyphs gs hs) e))) px k)
      ∙ glyphs_same c d i l px gs hs a.1 b.1 (and_r S (equal_glyphs gs hs) e) (mark ink (key_of d j) px k)

  -- text none of whose ink touches
  glyphs_silent : (c : Command) (px : Pixel w h) (gs : List Glyph) → All (λ g. touches (ink (key_of c g)) px.p px.q ≡ false) gs → (k : ℕ) → paint_all (λ g. mark ink (key_of c g) px) gs k ≡ k
  unfolding paint_all All
  glyphs_silent c px [] a k = refl
  glyphs_silent c px (g ∷ gs) a k = ap (paint_all (λ x. mark ink (key_of c x) px) gs) (mark_silent (key_of c g) px a.0 k) ∙ glyphs_silent c px gs a.1 k

  -- commands that are both runs, or neither
  paints : (c d : Command) (px : Pixel w h) (k : ℕ) → is_run c.draw ≡ is_run d.draw → (is_run c.draw ≡ true → text ink c px k ≡ text ink d px k) → (is_run c.draw ≡ false → shape c px k ≡ shape d px k) → paint ink c px k ≡ paint ink d px k
  unfolding paint
  paints c d px k e f g = go (is_run c.draw) refl ∙ ap (λ t. pick t (text ink d px k) (shape d px k)) e
    where
      go : (t : Bool) → is_run c.draw ≡ t → pick t (text ink c px k) (shape c px k) ≡ pick t (text ink d px k) (shape d px k)
      go true r = f r
      go false r = g r

  shapes : (c d : Command) (px : Pixel w h) (k : ℕ) → Kin c.draw d.draw → touches (bounds c) px.p px.q ≡ touches (bounds d) px.p px.q → shape c px k ≡ shape d px k
  unfolding shape
  shapes c d px k n e = λ i. pick (e i) (n.brush i) k

  equals : (c d : Command) → Inked c → Inked d → equal c d ≡ true → (px : Pixel w h) (k : ℕ) → paint ink c px k ≡ paint ink d px k
  unfolding equal text
  equals c d mc md e px k =
      let D = same_drawing c.draw d.draw in
      let G = equal_glyphs c.glyphs d.glyphs in
      let K = same_clips c.clips d.clips in
      let t = holds (D && G && K) e in
      let n = drawing_kin c.draw d.draw (and_l D G (and_l (D && G) K t)) in
      paints c d px k n.run
      (λ r. glyphs_same c d (n.ink r) (and_r (D && G) K t) px c.glyphs d.glyphs mc.fit md.fit (and_r D G (and_l (D && G) K t)) k)
      (λ r. shapes c d px k n (touches_same (bounds c) (bounds d) (equal_bounds c d mc.floats md.floats e) px.p px.q))

  untouched : (c : Command) → Inked c → (px : Pixel w h) → touches (bounds c) px.p px.q ≡ false → (k : ℕ) → paint ink c px k ≡ k
  unfolding paint text shape
  untouched c m px e k = go (is_run c.draw)
    where
      go : (t : Bool) → pick t (text ink c px k) (shape c px k) ≡ k
      go true = glyphs_silent c px c.glyphs (all_map (InkWithin c) (λ g. touches (ink (key_of c g)) px.p px.q ≡ false)
          (λ g f. is_false (touches (ink (key_of c g)) px.p px.q) (λ t. not_both (touches (bounds c) px.p px.q) e (f px t).1)) c.glyphs m.within) k
      go false = rw e

  fit_at : (c : Command) → Inked c → (g : Glyph) → In g c.glyphs → Fit (key_of c g)
  fit_at c m g i = in_all (λ x. Fit (key_of c x)) g c.glyphs i m.fit

  pub inked_rules : Rules w h ℕ Inked (paint ink) (mark ink)
  unfolding paint text
  inked_rules = record {
    equals = equals;
    untouched = untouched;
    fills = λ c d mc md e px s k. let n = fills_kin c.draw d.draw (holds _ e) in
        paints c d px k n.1.run (λ r. absurd (false≢true (sym n.0 ∙ r)))
        (λ r. shapes c d px k n.1 (part_touches px.p px.q (omega (arith, px.across)) (omega (arith, px.down)) (bounds c) (bounds d) mc.box md.box s));
    glyph_by_glyph = λ c m r px k. rw r;
    by_value = λ c d mc md r s g j x y e px k. mark_same (key_of c g) (key_of d j) (fit_at c mc g x) (fit_at d md j y) (holds _ e) px k;
    glyph_untouched = λ c m r g i px e k. mark_silent (key_of c g) px
        (is_false (touches (ink (key_of c g)) px.p px.q) (λ t. not_both (touches (glyph_bounds c g) px.p px.q) e
        (in_all (InkWithin c) g c.glyphs i m.within px t).0)) k;
  }
