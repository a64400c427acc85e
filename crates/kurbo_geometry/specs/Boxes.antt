-- Boxes, as document 01 gives kurbo's: "A box is x0, y0, x1, y1, and may be reversed."
use Rattle.std.specs.Prelude.{Bool, ◌&&◌, List, [], ◌∷◌, get_or, Float}
use Rattle.std.specs.Float.{nan, binary64}
use Rattle.std.specs.Float.Ieee.{add, sub, lt, eq}
use Rattle.base_floats.specs.Order.{larger, smaller}
use Rattle.kurbo_geometry.specs.declared.Rect.{Rect}

-- "A box is x0, y0, x1, y1": the box of four numbers, and its edges. No code reads past the fourth.
abbrev pub of_edges : List Float → Rect
of_edges es = record { x0 = get_or es 0 nan; y0 = get_or es 1 nan; x1 = get_or es 2 nan; y1 = get_or es 3 nan }

abbrev pub edges : Rect → List Float
edges b = b.x0 ∷ b.y0 ∷ b.x1 ∷ b.y1 ∷ []

-- "Intersect: x0 is the larger x0; x1 the smaller x1, raised to x0 if below it; y alike."
abbrev pub intersect : Rect → Rect → Rect
intersect a b =
    let x = larger a.x0 b.x0 in
    let y = larger a.y0 b.y0 in
    record { x0 = x; y0 = y; x1 = larger (smaller a.x1 b.x1) x; y1 = larger (smaller a.y1 b.y1) y }

-- "Union: smaller low edges, larger high ones."
abbrev pub union : Rect → Rect → Rect
union a b = record { x0 = smaller a.x0 b.x0; y0 = smaller a.y0 b.y0; x1 = larger a.x1 b.x1; y1 = larger a.y1 b.y1 }

-- "Inflate by w: low edges minus w, high edges plus w." Kurbo's function takes one number for x and one for y.
abbrev pub inflate : Rect → Float → Float → Rect
inflate b w h = record { x0 = sub binary64 b.x0 w; y0 = sub binary64 b.y0 h; x1 = add binary64 b.x1 w; y1 = add binary64 b.y1 h }

-- "Positive area means x0 < x1 and y0 < y1"
unfoldable pub positive_area : Rect → Bool
positive_area b = lt b.x0 b.x1 && lt b.y0 b.y1

-- "Edges are compared by value, so -0 equals 0."
unfoldable pub same_edges : Rect → Rect → Bool
same_edges a b = eq a.x0 b.x0 && eq a.y0 b.y0 && eq a.x1 b.x1 && eq a.y1 b.y1
