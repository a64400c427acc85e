-- What a box leaves of another, as a list of boxes. The parts themselves are those of crate `kurbo_geometry`.
use Rattle.std.specs.Prelude.{List, [], ◌∷◌, ◌++◌, Option, Some, None}
use Rattle.base_lists.specs.Pick.{pick}
use Rattle.kurbo_geometry.specs.declared.Rect.{Rect}
use Rattle.kurbo_geometry.specs.Boxes.{intersect, positive_area}
use Rattle.kurbo_geometry.specs.Parts.{top_part, bottom_part, left_part, right_part}

-- "positive area only"
unfoldable pub with_area : List Rect → List Rect
with_area [] = []
with_area (b ∷ l) = pick (positive_area b) (b ∷ with_area l) (with_area l)

-- "each top, bottom, left, right, positive area only"; the box itself where the overlap has no area
unfoldable pub rect_difference : Rect → Rect → List Rect
rect_difference r s =
    let v = intersect r s in
    with_area (pick (positive_area v) (top_part r v ∷ bottom_part r v ∷ left_part r v ∷ right_part r v ∷ []) (r ∷ []))

-- "`rect_difference` of old from new box parts, old minus new, then new minus old"
unfoldable pub rect_symmetric_difference : Rect → Rect → List Rect
rect_symmetric_difference old new = rect_difference old new ++ rect_difference new old

-- ---- the code's answers
-- a part, and the boxes that it stands for
abbrev pub boxes_of : Option Rect → List Rect
boxes_of (Some b) = b ∷ []
boxes_of None = []

abbrev pub list_of : List (Option Rect) → List Rect
list_of [] = []
list_of (p ∷ ps) = boxes_of p ++ list_of ps

unfoldable pub keep : Rect → Option Rect
keep b = pick (positive_area b) (Some b) None

unfoldable pub around : Rect → Rect → List (Option Rect)
around b v = keep (top_part b v) ∷ keep (bottom_part b v) ∷ keep (left_part b v) ∷ keep (right_part b v) ∷ []
