-- What is left of a box around an overlap, as `rect_difference` lists it: "each top, bottom, left, right".
use Rattle.kurbo_geometry.specs.declared.Rect.{Rect}

abbrev pub top_part : Rect → Rect → Rect
top_part b v = record { x0 = b.x0; y0 = b.y0; x1 = b.x1; y1 = v.y0 }

abbrev pub bottom_part : Rect → Rect → Rect
bottom_part b v = record { x0 = b.x0; y0 = v.y1; x1 = b.x1; y1 = b.y1 }

abbrev pub left_part : Rect → Rect → Rect
left_part b v = record { x0 = b.x0; y0 = v.y0; x1 = v.x0; y1 = v.y1 }

abbrev pub right_part : Rect → Rect → Rect
right_part b v = record { x0 = v.x1; y0 = v.y0; x1 = b.x1; y1 = v.y1 }
