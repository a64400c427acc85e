-- D3 for the boxes of two runs: where a pixel meets no box of two runs' changed glyphs, glyphs at one place are the same or touch it neither, and a glyph
-- of a remainder does not touch it. Assumes nothing.
use mathlib.Core.Path.{◌≡◌, refl}
use mathlib.Core.Bool.{Bool, true, false}
use mathlib.Core.Logic.{◌⊎◌, inl, inr}
use mathlib.Core.List.{List, [], ◌∷◌, map}
use Prim.Native.Nat.{ℕ, ◌^◌, ◌<◌}
use Rattle.base_lists.specs.Pick.{pick}
use Rattle.base_lists.specs.Members.{All}
use Rattle.base_lists.proofs.Members.{all_left, all_map, all_mapped, all_right}
use Rattle.kurbo_geometry.specs.declared.Rect.{Rect}
use Rattle.kurbo_geometry.specs.Boxes.{union}
use Rattle.kurbo_geometry.specs.Pixels.{meets, touches}
use Rattle.kurbo_geometry.proofs.Edges.{Ordered}
use Rattle.kurbo_geometry.proofs.Meets.{unmet_untouched, unmet_left, unmet_right}
use Rattle.display_list_commands.specs.declared.Glyph.{Glyph}
use Rattle.display_list_commands.specs.Bounds.{Command, glyph_bounds}
use Rattle.display_list_operand_equality.specs.Operands.{same_glyph}
use Rattle.display_list_changes.specs.Changes.{changed_at, changed_glyphs}

-- ---- D3
module _ (p q : ℕ) where
  abbrev Unmet : Rect → Type 0
  Unmet b = meets b p q ≡ false

  abbrev Clear : Rect → Type 0
  Clear b = touches b p q ≡ false

  -- at one place, whatever becomes of a glyph's box
  one_place : p < 2 ^ 53 → q < 2 ^ 53 → (old new : Glyph → Rect) (g h : Glyph) → Ordered (old g) → Ordered (new h) → All Unmet (changed_at old new g h) → (same_glyph g h ≡ true) ⊎ (Clear (old g) × Clear (new h))
  unfolding changed_at All
  one_place pl ql old new g h x y m = go (same_glyph g h) refl m
    where
      go : (t : Bool) → same_glyph g h ≡ t → All Unmet (pick t [] (union (old g) (new h) ∷ [])) → (same_glyph g h ≡ true) ⊎ (Clear (old g) × Clear (new h))
      go true e k = inl e
      go false e k = inr (unmet_left (old g) (new h) x y p q pl ql k.0, unmet_right (old g) (new h) x y p q pl ql k.0)

  -- the remainders
  all_clear : (f : Glyph → Rect) (l : List Glyph) → All Unmet (map f l) → All (λ g. Clear (f g)) l
  all_clear f l m = all_map (λ g. Unmet (f g)) (λ g. Clear (f g)) (λ g. unmet_untouched (f g) p q) l (rw (all_mapped f Unmet l) at m)

  new_clear : (old new : Glyph → Rect) (hs : List Glyph) → All Unmet (changed_glyphs old new [] hs) → All (λ h. Clear (new h)) hs
  unfolding changed_glyphs
  new_clear old new hs m = all_clear new hs m

  old_clear : (old new : Glyph → Rect) (gs : List Glyph) → All Unmet (changed_glyphs old new gs []) → All (λ g. Clear (old g)) gs
  unfolding changed_glyphs
  old_clear old new [] m = all_clear old [] m
  old_clear old new (g ∷ gs) m = all_clear old (g ∷ gs) m

module _ (p q : ℕ) (o n : Command) where
  -- a glyph of the old command does not touch the pixel, or one of the new
  abbrev pub OldClear : Glyph → Type 0
  OldClear g = Clear p q (glyph_bounds o g)

  abbrev pub NewClear : Glyph → Type 0
  NewClear h = Clear p q (glyph_bounds n h)

  -- place by place: the same glyph, or neither touches the pixel; then a remainder that does not touch it
  unfoldable pub GlyphsAlike : List Glyph → List Glyph → Type 0
  GlyphsAlike [] [] = Unit {0}
  GlyphsAlike [] (h ∷ hs) = NewClear h × GlyphsAlike [] hs
  GlyphsAlike (g ∷ gs) [] = OldClear g × GlyphsAlike gs []
  GlyphsAlike (g ∷ gs) (h ∷ hs) = ((same_glyph g h ≡ true) ⊎ (OldClear g × NewClear h)) × GlyphsAlike gs hs

  new_alike : (hs : List Glyph) → All NewClear hs → GlyphsAlike [] hs
  unfolding GlyphsAlike All
  new_alike [] c = tt
  new_alike (h ∷ hs) c = (c.0, new_alike hs c.1)

  old_alike : (gs : List Glyph) → All OldClear gs → GlyphsAlike gs []
  unfolding GlyphsAlike All
  old_alike [] c = tt
  old_alike (g ∷ gs) c = (c.0, old_alike gs c.1)

  module _ (pl : p < 2 ^ 53) (ql : q < 2 ^ 53) where
    pub glyphs_alike : (gs hs : List Glyph) → All (λ g. Ordered (glyph_bounds o g)) gs → All (λ h. Ordered (glyph_bounds n h)) hs → All (Unmet p q) (changed_glyphs (glyph_bounds o) (glyph_bounds n) gs hs) → GlyphsAlike gs hs
    unfolding changed_glyphs GlyphsAlike All
    glyphs_alike [] hs x y m = new_alike hs (new_clear p q (glyph_bounds o) (glyph_bounds n) hs m)
    glyphs_alike (g ∷ gs) [] x y m = old_alike (g ∷ gs) (old_clear p q (glyph_bounds o) (glyph_bounds n) (g ∷ gs) m)
    glyphs_alike (g ∷ gs) (h ∷ hs) x y m =
        let c = changed_at (glyph_bounds o) (glyph_bounds n) g h in
        let r = changed_glyphs (glyph_bounds o) (glyph_bounds n) gs hs in
        (one_place p q pl ql (glyph_bounds o) (glyph_bounds n) g h x.0 y.0 (all_left (Unmet p q) c r m), glyphs_alike gs hs x.1 y.1 (all_right (Unmet p q) c r m))
