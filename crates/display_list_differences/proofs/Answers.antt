-- The code's answers as lists of boxes. Assumes nothing.
use mathlib.Core.Path.{◌≡◌, refl, sym, ap, ◌∙◌}
use mathlib.Core.Bool.{Bool, true, false}
use mathlib.Core.List.{List, [], ◌∷◌, ◌++◌, map}
use Rattle.base_lists.specs.Pick.{pick}
use Rattle.base_lists.proofs.Picks.{pick_true, pick_false}
use Rattle.kurbo_geometry.specs.declared.Rect.{Rect}
use Rattle.kurbo_geometry.specs.Boxes.{intersect, positive_area}
use Rattle.kurbo_geometry.specs.Parts.{top_part, bottom_part, left_part, right_part}
use Rattle.display_list_differences.specs.Differences.{with_area, rect_difference, boxes_of, list_of, keep, around}
use Rattle.std.specs.Prelude.{Option, Some, None}

-- a box in front of others, kept if it has an area
kept : (b : Rect) (l m : List Rect) → l ≡ with_area m → boxes_of (keep b) ++ l ≡ with_area (b ∷ m)
unfolding keep with_area
kept b l m e = go (positive_area b)
  where
    go : (t : Bool) → boxes_of (pick t (Some b) None) ++ l ≡ pick t (b ∷ with_area m) (with_area m)
    go true = ap (λ (z : List Rect). b ∷ z) e
    go false = e

kept_all : (l : List Rect) → list_of (map keep l) ≡ with_area l
unfolding with_area
kept_all [] = refl
kept_all (b ∷ l) = kept b (list_of (map keep l)) l (kept_all l)

around_list : (r v : Rect) → list_of (around r v) ≡ with_area (top_part r v ∷ bottom_part r v ∷ left_part r v ∷ right_part r v ∷ [])
unfolding around
around_list r v = kept_all (top_part r v ∷ bottom_part r v ∷ left_part r v ∷ right_part r v ∷ [])

-- the two ways to answer
module _ (r s : Rect) where
  pub parted : (v : Rect) (p : List (Option Rect)) → v ≡ intersect r s → positive_area v ≡ true → p ≡ around r v → list_of p ≡ rect_difference r s
  unfolding rect_difference
  parted v p e a q = ap list_of (q ∙ ap (around r) e) ∙ around_list r (intersect r s) ∙ ap with_area (sym (pick_true (positive_area (intersect r s)) _ _ (ap positive_area (sym e) ∙ a)))

  pub apart : (v : Rect) (p : Option Rect) → v ≡ intersect r s → positive_area v ≡ false → p ≡ keep r → boxes_of p ++ [] ≡ rect_difference r s
  unfolding rect_difference
  apart v p e a q = ap (λ (z : Option Rect). boxes_of z ++ []) q ∙ kept_all (r ∷ []) ∙ ap with_area (sym (pick_false (positive_area (intersect r s)) _ _ (ap positive_area (sym e) ∙ a)))
