-- Boxes among the words of lent space, four words a box, read and stored.
use Rattle.std.specs.Prelude.{List, [], ◌∷◌, ◌++◌, ℕ, zero, suc, ◌+◌, ◌*◌, get_or, set, Float}
use Rattle.std.specs.Float.{nan}
use Rattle.kurbo_geometry.specs.declared.Rect.{Rect}

-- the box whose words begin at i; past the end, where no code reads, a word counts as a NaN
abbrev pub rect_from : List Float → ℕ → Rect
rect_from ws i = record { x0 = get_or ws i nan; y0 = get_or ws (i + 1) nan; x1 = get_or ws (i + 2) nan; y1 = get_or ws (i + 3) nan }

-- box i, from 0, and the first n
abbrev pub box_at : List Float → ℕ → Rect
box_at ws i = rect_from ws (4 * i)

unfoldable pub boxes_to : List Float → ℕ → List Rect
boxes_to ws zero = []
boxes_to ws (suc n) = boxes_to ws n ++ (box_at ws n ∷ [])

unfoldable pub put_rect : List Float → ℕ → Rect → List Float
put_rect ws i b = set (set (set (set ws i b.x0) (i + 1) b.y0) (i + 2) b.x1) (i + 3) b.y1
