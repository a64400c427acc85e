-- The index of document 01's 402-byte example, and of its starred heights, by computing. Assumes nothing.
use mathlib.Core.Path.{◌≡◌, refl}
use mathlib.Core.List.{[], ◌∷◌}
use lib.Ieee.{Float, binary64, neg, div, lt, of_int, of_bits, to_bits}
use Rattle.base_floats.specs.Whole.{whole, floor}
use Rattle.base_floats.specs.Next.{next_down}
use Rattle.kurbo_geometry.specs.declared.Rect.{Rect}
use Rattle.kurbo_geometry.specs.Boxes.{positive_area}
use Rattle.compositor_rows.specs.Rows.{row_count}
use Rattle.compositor_index_words.specs.Index.{stands_in, places, row_list, entries_to, start_of, starts_to, layout, index_words}

abbrev box : Float → Float → Float → Float → Rect
box a b c d = record { x0 = a; y0 = b; x1 = c; y1 = d }

-- 40 by 40 in bands of 16: the moved FILL in its new place, (12.5, 14) to (16.5, 18), and the unmoved one, (0, 0) to (40, 16)
abbrev moved : Rect
moved = box (div binary64 (whole 25) (whole 2)) (whole 14) (div binary64 (whole 33) (whole 2)) (whole 18)

abbrev unmoved : Rect
unmoved = box (whole 0) (whole 0) (whole 40) (whole 16)

-- "draw 0 1", "draw 0", and a last row without commands
pub example : index_words 16 (row_count 40 16) (moved ∷ unmoved ∷ []) ≡ 0 ∷ 2 ∷ 3 ∷ 3 ∷ 0 ∷ 1 ∷ 0 ∷ []
unfolding index_words layout starts_to start_of entries_to row_list places stands_in positive_area floor next_down lt neg div of_int of_bits to_bits
example = refl

-- "y 100 to 120 in row 2", "y -8 to -2 in row 0", and a box without area in none
pub outside : index_words 16 (row_count 40 16) (box (whole 3) (whole 100) (whole 4) (whole 120) ∷ box (whole 3) (whole 3) (whole 3) (whole 5) ∷ box (whole 3) (neg (whole 8)) (whole 4) (neg (whole 2)) ∷ []) ≡ 0 ∷ 1 ∷ 1 ∷ 2 ∷ 2 ∷ 0 ∷ []
unfolding index_words layout starts_to start_of entries_to row_list places stands_in positive_area floor next_down lt neg div of_int of_bits to_bits
outside = refl
