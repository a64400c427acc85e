-- What a box leaves of another is a function of values: boxes that differ in the signs of zeros alone leave boxes that do, place by place. Assumes nothing.
use mathlib.Core.List.{List, [], ◌∷◌}
use Rattle.base_lists.specs.Pick.{pick}
use Rattle.base_lists.specs.Places.{ByPlace}
use Rattle.base_lists.proofs.Places.{place_append, place_pick}
use Rattle.kurbo_geometry.specs.declared.Rect.{Rect}
use Rattle.kurbo_geometry.specs.Boxes.{intersect, positive_area}
use Rattle.kurbo_geometry.specs.Parts.{top_part, bottom_part, left_part, right_part}
use Rattle.kurbo_geometry.proofs.Values.{SameBox, SameBoxes, intersect_same, area_same}
use Rattle.display_list_differences.specs.Differences.{with_area, rect_difference, rect_symmetric_difference}

area_kept : (l m : List Rect) → SameBoxes l m → SameBoxes (with_area l) (with_area m)
unfolding with_area ByPlace
area_kept [] [] h = tt
area_kept [] (b ∷ m) h = absurd h
area_kept (a ∷ l) [] h = absurd h
area_kept (a ∷ l) (b ∷ m) h =
    let k = area_kept l m h.1 in
    place_pick SameBox (positive_area a) (positive_area b) (a ∷ with_area l) (with_area l) (b ∷ with_area m) (with_area m) (area_same a b h.0) (h.0, k) k

-- the four parts around an overlap
abbrev around : Rect → Rect → List Rect
around r v = top_part r v ∷ bottom_part r v ∷ left_part r v ∷ right_part r v ∷ []

around_same : (r r' v v' : Rect) → SameBox r r' → SameBox v v' → SameBoxes (around r v) (around r' v')
unfolding ByPlace
around_same r r' v v' p k = (
  record { x0 = p.x0; y0 = p.y0; x1 = p.x1; y1 = k.y0 },
  (record { x0 = p.x0; y0 = k.y1; x1 = p.x1; y1 = p.y1 }, (record { x0 = p.x0; y0 = k.y0; x1 = k.x0; y1 = k.y1 }, (record { x0 = k.x1; y0 = k.y0; x1 = p.x1; y1 = k.y1 }, tt))),
)

module _ (r r' s s' : Rect) (p : SameBox r r') (q : SameBox s s') where
  pub rect_difference_same : SameBoxes (rect_difference r s) (rect_difference r' s')
  unfolding rect_difference ByPlace
  rect_difference_same =
      let v = intersect r s in
      let v' = intersect r' s' in
      let k = intersect_same r r' s s' p q in
      area_kept (pick (positive_area v) (around r v) (r ∷ [])) (pick (positive_area v') (around r' v') (r' ∷ []))
      (place_pick SameBox (positive_area v) (positive_area v') (around r v) (r ∷ []) (around r' v') (r' ∷ []) (area_same v v' k) (around_same r r' v v' p k) (p, tt))

pub symmetric_difference_same : (r r' s s' : Rect) → SameBox r r' → SameBox s s' → SameBoxes (rect_symmetric_difference r s) (rect_symmetric_difference r' s')
unfolding rect_symmetric_difference
symmetric_difference_same r r' s s' p q =
    place_append SameBox (rect_difference r s) (rect_difference s r) (rect_difference r' s') (rect_difference s' r') (rect_difference_same r r' s s' p q) (rect_difference_same s s' r r' q p)
