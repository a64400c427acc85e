-- What changed is a function of values: of commands that match others, the changed boxes differ in the signs of zeros alone, place by place. Assumes nothing.
use mathlib.Core.Path.{◌≡◌, subst}
use mathlib.Core.Bool.{true}
use mathlib.Core.List.{List, [], ◌∷◌, map}
use lib.Dec.{T}
use lib.Ieee.Fits.{and_l, and_r}
use Rattle.base_lists.specs.Pick.{pick}
use Rattle.base_lists.specs.Places.{ByPlace}
use Rattle.base_lists.proofs.Bools.{holds, is_true}
use Rattle.base_lists.proofs.Places.{place_none, place_one, place_append, place_pick, place_map, place_mapped, place_with}
use Rattle.base_lists.proofs.Relations.{Passes, per_same}
use Rattle.kurbo_geometry.specs.declared.Rect.{Rect}
use Rattle.kurbo_geometry.specs.Boxes.{union, same_edges}
use Rattle.kurbo_geometry.proofs.Edges.{Ordered}
use Rattle.kurbo_geometry.proofs.Values.{SameBox, SameBoxes, edges_same, union_same}
use Rattle.display_list_commands.specs.declared.Glyph.{Glyph}
use Rattle.display_list_commands.specs.Bounds.{Command, bounds, glyph_bounds}
use Rattle.display_list_commands.specs.Sizes.{size_of}
use Rattle.display_list_commands.proofs.Values.{Floats}
use Rattle.display_list_operand_equality.specs.Operands.{same_bits, same_glyph, equal_glyph}
use Rattle.display_list_operand_equality.proofs.Compared.{per_glyph, glyphs_told}
use Rattle.display_list_equality.specs.Drawings.{equal}
use Rattle.display_list_equality.proofs.Values.{Good, equal_bounds, equal_glyph_bounds}
use Rattle.display_list_equality.proofs.Compared.{equal_parts, equal_same, fills_same, runs_same}
use Rattle.display_list_differences.proofs.Values.{symmetric_difference_same}
use Rattle.display_list_changes.specs.declared.Change.{Change}
use Rattle.display_list_changes.specs.declared.Change.TheVariants.{Same, Fills, Runs, Other}
use Rattle.display_list_changes.specs.Changes.{changed_at, changed_glyphs, change, rects_of, changed_bounds, diff_dirty}

-- equal commands, run sizes by bits, whose floats are f64 and no NaN
pub record Matched (c d : Command) : Type 0 where
  pub equals : equal c d ≡ true
  pub sizes : same_bits (size_of c.draw) (size_of d.draw) ≡ true
  pub floats : Floats Good c
  pub others : Floats Good d

pub matched_bounds : (c d : Command) → Matched c d → SameBox (bounds c) (bounds d)
matched_bounds c d m = equal_bounds c d m.floats m.others m.equals

-- ---- glyphs: the same in id, x and y, with boxes that differ in the signs of zeros alone
abbrev SameGlyphs : List Glyph → List Glyph → Type 0
SameGlyphs gs hs = ByPlace (λ g h. T (same_glyph g h) × SameBox g.bounds h.bounds) gs hs

matched_glyphs : (c d : Command) → Matched c d → SameGlyphs c.glyphs d.glyphs
unfolding equal_glyph
matched_glyphs c d m = place_with (Passes equal_glyph) (λ g. Ordered g.bounds) (λ g h. T (same_glyph g h) × SameBox g.bounds h.bounds)
    (λ g h p q t. let s = same_glyph g h in let e = same_edges g.bounds h.bounds in (and_l s e t, edges_same g.bounds h.bounds p q (is_true e (and_r s e t))))
    c.glyphs d.glyphs m.floats.glyphs m.others.glyphs (glyphs_told c.glyphs d.glyphs (equal_parts c d (holds _ m.equals)).glyphs)

-- a glyph's box by two functions that differ in the signs of zeros alone
abbrev SameBy : (Glyph → Rect) → (Glyph → Rect) → Type 0
SameBy f f' = (g g' : Glyph) → SameBox g.bounds g'.bounds → SameBox (f g) (f' g')

boxes_same : (f f' : Glyph → Rect) → SameBy f f' → (gs gs' : List Glyph) → SameGlyphs gs gs' → SameBoxes (map f gs) (map f' gs')
boxes_same f f' p gs gs' a = place_mapped SameBox f f' gs gs' (place_map (λ g h. T (same_glyph g h) × SameBox g.bounds h.bounds) (λ g h. SameBox (f g) (f' h)) (λ g h k. p g h k.1) gs gs' a)

module _ (f f' m m' : Glyph → Rect) (p : SameBy f f') (q : SameBy m m') where
  changed_glyphs_same : (gs gs' hs hs' : List Glyph) → SameGlyphs gs gs' → SameGlyphs hs hs' → SameBoxes (changed_glyphs f m gs hs) (changed_glyphs f' m' gs' hs')
  unfolding changed_at changed_glyphs ByPlace
  changed_glyphs_same [] (g' ∷ gs') hs hs' a b = absurd a
  changed_glyphs_same (g ∷ gs) [] hs hs' a b = absurd a
  changed_glyphs_same [] [] hs hs' a b = boxes_same m m' q hs hs' b
  changed_glyphs_same (g ∷ gs) (g' ∷ gs') [] (h' ∷ hs') a b = absurd b
  changed_glyphs_same (g ∷ gs) (g' ∷ gs') (h ∷ hs) [] a b = absurd b
  changed_glyphs_same (g ∷ gs) (g' ∷ gs') [] [] a b = boxes_same f f' p (g ∷ gs) (g' ∷ gs') a
  changed_glyphs_same (g ∷ gs) (g' ∷ gs') (h ∷ hs) (h' ∷ hs') a b =
      let u = union (f g) (m h) in
      let v = union (f' g') (m' h') in
      place_append SameBox (pick (same_glyph g h) [] (u ∷ [])) (changed_glyphs f m gs hs) (pick (same_glyph g' h') [] (v ∷ [])) (changed_glyphs f' m' gs' hs')
      (place_pick SameBox (same_glyph g h) (same_glyph g' h') [] (u ∷ []) [] (v ∷ []) (per_same same_glyph per_glyph g g' h h' a.0.0 b.0.0) tt (union_same (f g) (f' g') (m h) (m' h') (p g g' a.0.1) (q h h' b.0.1), tt))
      (changed_glyphs_same gs gs' hs hs' a.1 b.1)

-- ---- two commands
module _ (o o' n n' : Command) (p : Matched o o') (q : Matched n n') where
  -- one case of both
  change_same : change o n ≡ change o' n'
  unfolding change
  change_same =
      let e = holds (equal o o') p.equals in
      let f = holds (equal n n') q.equals in
      λ i. pick (equal_same o o' n n' e f i) Same (pick (fills_same o o' n n' e f i) Fills (pick (runs_same o o' n n' e f (holds _ p.sizes) (holds _ q.sizes) i) Runs Other))

  case_same : (c : Change) → SameBoxes (rects_of c o n) (rects_of c o' n')
  case_same Same = place_none SameBox
  case_same Fills = symmetric_difference_same (bounds o) (bounds o') (bounds n) (bounds n') (matched_bounds o o' p) (matched_bounds n n' q)
  case_same Runs =
      changed_glyphs_same (glyph_bounds o) (glyph_bounds o') (glyph_bounds n) (glyph_bounds n') (equal_glyph_bounds o o' p.floats p.others p.equals) (equal_glyph_bounds n n' q.floats q.others q.equals)
      o.glyphs o'.glyphs n.glyphs n'.glyphs (matched_glyphs o o' p) (matched_glyphs n n' q)
  case_same Other = place_one SameBox (union (bounds o) (bounds n)) (union (bounds o') (bounds n')) (union_same (bounds o) (bounds o') (bounds n) (bounds n') (matched_bounds o o' p) (matched_bounds n n' q))

  pub changed_bounds_same : SameBoxes (changed_bounds o n) (changed_bounds o' n')
  unfolding changed_bounds
  changed_bounds_same = subst (λ c. SameBoxes (changed_bounds o n) (rects_of c o' n')) change_same (case_same (change o n))

-- ---- lists
pub diff_dirty_same : (os os' ns ns' : List Command) → ByPlace Matched os os' → ByPlace Matched ns ns' → SameBoxes (diff_dirty os ns) (diff_dirty os' ns')
unfolding diff_dirty ByPlace
diff_dirty_same [] (o' ∷ os') ns ns' a b = absurd a
diff_dirty_same (o ∷ os) [] ns ns' a b = absurd a
diff_dirty_same [] [] [] [] a b = tt
diff_dirty_same [] [] [] (n' ∷ ns') a b = absurd b
diff_dirty_same [] [] (n ∷ ns) [] a b = absurd b
diff_dirty_same [] [] (n ∷ ns) (n' ∷ ns') a b = (matched_bounds n n' b.0, diff_dirty_same [] [] ns ns' a b.1)
diff_dirty_same (o ∷ os) (o' ∷ os') [] (n' ∷ ns') a b = absurd b
diff_dirty_same (o ∷ os) (o' ∷ os') (n ∷ ns) [] a b = absurd b
diff_dirty_same (o ∷ os) (o' ∷ os') [] [] a b = (matched_bounds o o' a.0, diff_dirty_same os os' [] [] a.1 b)
diff_dirty_same (o ∷ os) (o' ∷ os') (n ∷ ns) (n' ∷ ns') a b =
    place_append SameBox (changed_bounds o n) (diff_dirty os ns) (changed_bounds o' n') (diff_dirty os' ns') (changed_bounds_same o o' n n' a.0 b.0) (diff_dirty_same os os' ns ns' a.1 b.1)
