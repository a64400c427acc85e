-- D3, D4, D5, L1: two commands, and two lists of them, paint a pixel alike that meets no box of what changed. Assumes nothing.
use mathlib.Core.Path.{◌≡◌, refl, sym, ap, ◌∙◌}
use mathlib.Core.Bool.{Bool, true, false}
use mathlib.Core.Logic.{◌⊎◌, ⊎_elim}
use mathlib.Core.List.{List, [], ◌∷◌}
use Prim.Native.Nat.{ℕ, ◌^◌, ◌<◌}
use lib.Dec.{T}
use Rattle.base_lists.specs.Pick.{pick}
use Rattle.base_lists.specs.Members.{All, In}
use Rattle.base_lists.proofs.Members.{all_in, all_left, all_right}
use Rattle.base_lists.proofs.Bools.{holds, is_true}
use Rattle.base_ieee.proofs.Rank.{ordered}
use Rattle.kurbo_geometry.specs.declared.Rect.{Rect}
use Rattle.kurbo_geometry.specs.Boxes.{union}
use Rattle.kurbo_geometry.specs.Pixels.{meets}
use Rattle.kurbo_geometry.proofs.Meets.{unmet_untouched, unmet_left, unmet_right}
use Rattle.display_list_commands.specs.declared.Glyph.{Glyph}
use Rattle.display_list_commands.specs.Bounds.{Command, bounds, glyph_bounds}
use Rattle.display_list_operand_equality.specs.Operands.{same_glyph}
use Rattle.display_list_equality.specs.Drawings.{equal, fills_alike, runs_alike_clipped}
use Rattle.display_list_differences.specs.Differences.{rect_symmetric_difference}
use Rattle.display_list_differences.proofs.Pixels.{difference_cuts}
use Rattle.display_list_changes.specs.declared.Change.TheVariants.{Same, Fills, Runs, Other}
use Rattle.display_list_changes.specs.Changes.{change, rects_of, changed_bounds, diff_dirty}
use Rattle.display_list_changes.proofs.Edges.{Bounded}
use Rattle.display_list_changes.proofs.Glyphs.{OldClear, NewClear, GlyphsAlike, glyphs_alike}
use Rattle.compositor_index_words.specs.Painting.{paint_all}
use Rattle.compositor_index_words.proofs.Painting.{Silent}
use Rattle.panels_painting.specs.Painters.{Pixel, Key, key_of, Rules}
use Rattle.panels_painting.proofs.Keys.{old_run, new_run, same_key_lem}

-- no edge of the command's box or of its glyphs' boxes is a NaN
abbrev pub Sound : Command → Type 0
Sound c = Bounded (λ x. T (ordered x)) c

-- the box does not meet the pixel
abbrev pub Unmet : {w h : ℕ} → Pixel w h → Rect → Type 0
Unmet px b = meets b px.p px.q ≡ false

module _ {w h : ℕ} {C : Type 0} {M : Command → Type 0} {paint : Command → Pixel w h → C → C} {mark : Key → Pixel w h → C → C} (R : Rules w h C M paint mark) (px : Pixel w h) where
  -- what a command makes of a colour at the pixel, and a glyph of a run
  abbrev by : Command → C → C
  by c = paint c px

  abbrev glyph_of : Command → Glyph → C → C
  glyph_of c g = mark (key_of c g) px

  -- D5: a command whose box does not meet the pixel is silent
  unmet_silent : (c : Command) → M c → Unmet px (bounds c) → Silent (λ c. paint c px) c
  unmet_silent c m u k = R.untouched c m px (unmet_untouched (bounds c) px.p px.q u) k

  -- ---- D3
  module _ (o n : Command) (mo : M o) (mn : M n) (e : T (runs_alike_clipped o n)) where
    one_place : (g j : Glyph) → In g o.glyphs → In j n.glyphs → (same_glyph g j ≡ true) ⊎ (OldClear px.p px.q o n g × NewClear px.p px.q o n j) → (k : C) → glyph_of o g k ≡ glyph_of n j k
    one_place g j x y a k = ⊎_elim
        (λ s. R.by_value o n mo mn (old_run o n e) (new_run o n e) g j x y (is_true _ (same_key_lem o n e g j (holds (same_glyph g j) s))) px k)
        (λ u. R.glyph_untouched o mo (old_run o n e) g x px u.0 k ∙ sym (R.glyph_untouched n mn (new_run o n e) j y px u.1 k))
        a

    places_alike : (gs hs : List Glyph) → All (λ g. In g o.glyphs) gs → All (λ j. In j n.glyphs) hs → GlyphsAlike px.p px.q o n gs hs → (k : C) → paint_all (glyph_of o) gs k ≡ paint_all (glyph_of n) hs k
    unfolding paint_all GlyphsAlike All
    places_alike [] [] x y a k = refl
    places_alike [] (j ∷ hs) x y a k = places_alike [] hs x y.1 a.1 k ∙ ap (paint_all (glyph_of n) hs) (sym (R.glyph_untouched n mn (new_run o n e) j y.0 px a.0 k))
    places_alike (g ∷ gs) [] x y a k = ap (paint_all (glyph_of o) gs) (R.glyph_untouched o mo (old_run o n e) g x.0 px a.0 k) ∙ places_alike gs [] x.1 y a.1 k
    places_alike (g ∷ gs) (j ∷ hs) x y a k = ap (paint_all (glyph_of o) gs) (one_place g j x.0 y.0 a.0 k) ∙ places_alike gs hs x.1 y.1 a.1 (glyph_of n j k)

    runs_alike_lem : GlyphsAlike px.p px.q o n o.glyphs n.glyphs → (k : C) → by o k ≡ by n k
    runs_alike_lem a k = R.glyph_by_glyph o mo (old_run o n e) px k ∙ places_alike o.glyphs n.glyphs (all_in o.glyphs) (all_in n.glyphs) a k ∙ sym (R.glyph_by_glyph n mn (new_run o n e) px k)

  module _ (pl : px.p < 2 ^ 53) (ql : px.q < 2 ^ 53) where
    -- D4
    pub commands_alike : (o n : Command) → M o → M n → Sound o → Sound n → All (Unmet px) (changed_bounds o n) → (k : C) → paint o px k ≡ paint n px k
    unfolding change changed_bounds All
    commands_alike o n mo mn so sn u k = go (equal o n) (fills_alike o.draw n.draw) (runs_alike_clipped o n) refl refl refl u
      where
        go : (a b c : Bool) → equal o n ≡ a → fills_alike o.draw n.draw ≡ b → runs_alike_clipped o n ≡ c
            → All (Unmet px) (rects_of (pick a Same (pick b Fills (pick c Runs Other))) o n)
            → paint o px k ≡ paint n px k
        go true b c e f g v = R.equals o n mo mn e px k
        go false true c e f g v = ⊎_elim
            (λ x. R.untouched o mo px x.0 k ∙ sym (R.untouched n mn px x.1 k))
            (λ x. R.fills o n mo mn f px x k)
            (difference_cuts px.p px.q pl ql (bounds o) (bounds n) so.box sn.box v)
        go false false true e f g v = runs_alike_lem o n mo mn (holds (runs_alike_clipped o n) g) (glyphs_alike px.p px.q o n pl ql o.glyphs n.glyphs so.glyphs sn.glyphs v) k
        go false false false e f g v =
            R.untouched o mo px (unmet_left (bounds o) (bounds n) so.box sn.box px.p px.q pl ql v.0) k
            ∙ sym (R.untouched n mn px (unmet_right (bounds o) (bounds n) so.box sn.box px.p px.q pl ql v.0) k)

    -- L1
    pub lists_alike : (os ns : List Command) → All M os → All M ns → All Sound os → All Sound ns → All (Unmet px) (diff_dirty os ns) → (k : C) → paint_all (λ c. paint c px) os k ≡ paint_all (λ c. paint c px) ns k
    unfolding diff_dirty paint_all All
    lists_alike [] [] mo mn so sn u k = refl
    lists_alike [] (n ∷ ns) mo mn so sn u k = lists_alike [] ns mo mn.1 so sn.1 u.1 k ∙ ap (paint_all by ns) (sym (unmet_silent n mn.0 u.0 k))
    lists_alike (o ∷ os) [] mo mn so sn u k = ap (paint_all by os) (unmet_silent o mo.0 u.0 k) ∙ lists_alike os [] mo.1 mn so.1 sn u.1 k
    lists_alike (o ∷ os) (n ∷ ns) mo mn so sn u k =
        ap (paint_all by os) (commands_alike o n mo.0 mn.0 so.0 sn.0 (all_left (Unmet px) (changed_bounds o n) (diff_dirty os ns) u) k)
        ∙ lists_alike os ns mo.1 mn.1 so.1 sn.1 (all_right (Unmet px) (changed_bounds o n) (diff_dirty os ns) u) (by n k)
