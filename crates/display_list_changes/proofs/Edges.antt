-- Changes have no new edges: what holds of every edge of the commands' boxes and of their glyphs' boxes holds of the changed ones.
-- Assumes nothing.
use mathlib.Core.List.{List, [], ◌∷◌, map}
use lib.Ieee.{Float}
use Rattle.base_lists.specs.Pick.{pick}
use Rattle.base_lists.specs.Members.{All}
use Rattle.base_lists.proofs.Members.{all_append, all_mapped}
use Rattle.base_lists.proofs.Picks.{pick_cases}
use Rattle.kurbo_geometry.specs.declared.Rect.{Rect}
use Rattle.kurbo_geometry.specs.Boxes.{intersect, union, positive_area}
use Rattle.kurbo_geometry.specs.Parts.{top_part, bottom_part, left_part, right_part}
use Rattle.kurbo_geometry.proofs.Edges.{Edges, union_edges, intersect_edges}
use Rattle.display_list_commands.specs.declared.Glyph.{Glyph}
use Rattle.display_list_commands.specs.Bounds.{Command, bounds, glyph_bounds}
use Rattle.display_list_operand_equality.specs.Operands.{same_glyph}
use Rattle.display_list_differences.specs.Differences.{with_area, rect_difference, rect_symmetric_difference}
use Rattle.display_list_changes.specs.declared.Change.{Change}
use Rattle.display_list_changes.specs.declared.Change.TheVariants.{Same, Fills, Runs, Other}
use Rattle.display_list_changes.specs.Changes.{changed_at, changed_glyphs, change, rects_of, changed_bounds, diff_dirty}

module _ (P : Float → Type 0) where
  -- P holds of every edge of the command's box and of its glyphs' boxes
  pub record Bounded (c : Command) : Type 0 where
    pub box : Edges P (bounds c)
    pub glyphs : All (λ g. Edges P (glyph_bounds c g)) c.glyphs

  -- ---- differences
  area_edges : (l : List Rect) → All (Edges P) l → All (Edges P) (with_area l)
  unfolding with_area All
  area_edges [] h = tt
  area_edges (b ∷ l) h = let k = area_edges l h.1 in
      pick_cases (All (Edges P)) (positive_area b) (b ∷ with_area l) (with_area l) (λ _. (h.0, k)) (λ _. k)

  difference_edges : (r s : Rect) → Edges P r → Edges P s → All (Edges P) (rect_difference r s)
  unfolding rect_difference All
  difference_edges r s f g =
      let v = intersect r s in
      let k = intersect_edges P r s f g in
      area_edges (pick (positive_area v) (top_part r v ∷ bottom_part r v ∷ left_part r v ∷ right_part r v ∷ []) (r ∷ []))
      (pick_cases (All (Edges P)) (positive_area v) (top_part r v ∷ bottom_part r v ∷ left_part r v ∷ right_part r v ∷ []) (r ∷ [])
      (λ _. (
        record { x0 = f.x0; y0 = f.y0; x1 = f.x1; y1 = k.y0 },
        (record { x0 = f.x0; y0 = k.y1; x1 = f.x1; y1 = f.y1 }, (record { x0 = f.x0; y0 = k.y0; x1 = k.x0; y1 = k.y1 }, (record { x0 = k.x1; y0 = k.y0; x1 = f.x1; y1 = k.y1 }, tt))),
      ))
      (λ _. (f, tt)))

  symmetric_edges : (r s : Rect) → Edges P r → Edges P s → All (Edges P) (rect_symmetric_difference r s)
  unfolding rect_symmetric_difference
  symmetric_edges r s f g = all_append (Edges P) (rect_difference r s) (rect_difference s r) (difference_edges r s f g) (difference_edges s r g f)

  -- ---- glyphs
  every_edges : (f : Glyph → Rect) (l : List Glyph) → All (λ g. Edges P (f g)) l → All (Edges P) (map f l)
  every_edges f l h = rw (all_mapped f (Edges P) l) h

  module _ (old new : Glyph → Rect) where
    abbrev OldEdges : Glyph → Type 0
    OldEdges g = Edges P (old g)

    abbrev NewEdges : Glyph → Type 0
    NewEdges h = Edges P (new h)

    glyphs_edges : (gs hs : List Glyph) → All OldEdges gs → All NewEdges hs → All (Edges P) (changed_glyphs old new gs hs)
    unfolding changed_at changed_glyphs All
    glyphs_edges [] hs f g = every_edges new hs g
    glyphs_edges (j ∷ gs) [] f g = every_edges old (j ∷ gs) f
    glyphs_edges (j ∷ gs) (h ∷ hs) f g =
        let u = union (old j) (new h) in
        all_append (Edges P) (pick (same_glyph j h) [] (u ∷ [])) (changed_glyphs old new gs hs)
        (pick_cases (All (Edges P)) (same_glyph j h) [] (u ∷ []) (λ _. tt) (λ _. (union_edges P (old j) (new h) f.0 g.0, tt)))
        (glyphs_edges gs hs f.1 g.1)

  -- ---- commands, and lists of them
  case_edges : (c : Change) (o n : Command) → Bounded o → Bounded n → All (Edges P) (rects_of c o n)
  unfolding All
  case_edges Same o n f g = tt
  case_edges Fills o n f g = symmetric_edges (bounds o) (bounds n) f.box g.box
  case_edges Runs o n f g = glyphs_edges (glyph_bounds o) (glyph_bounds n) o.glyphs n.glyphs f.glyphs g.glyphs
  case_edges Other o n f g = (union_edges P (bounds o) (bounds n) f.box g.box, tt)

  pub changed_edges : (o n : Command) → Bounded o → Bounded n → All (Edges P) (changed_bounds o n)
  unfolding changed_bounds
  changed_edges o n = case_edges (change o n) o n

  pub dirty_edges : (os ns : List Command) → All Bounded os → All Bounded ns → All (Edges P) (diff_dirty os ns)
  unfolding diff_dirty All
  dirty_edges [] [] f g = tt
  dirty_edges [] (n ∷ ns) f g = (g.0.box, dirty_edges [] ns f g.1)
  dirty_edges (o ∷ os) [] f g = (f.0.box, dirty_edges os [] f.1 g)
  dirty_edges (o ∷ os) (n ∷ ns) f g = all_append (Edges P) (changed_bounds o n) (diff_dirty os ns) (changed_edges o n f.0 g.0) (dirty_edges os ns f.1 g.1)
