-- Number 9's case in the table's words: "a box's inflated edge or transformed corner is not finite", edge by edge and corner by corner. Reading
-- tests corners alone (`try_transform`): that this decides the case, edges included, is a law (`no_box_unbounded`, `unbounded_no_box`).
use Rattle.std.specs.Prelude.{◌≡◌, false, ◌⊎◌, Float}
use Rattle.std.specs.Float.Ieee.Scale.{finite}
use Rattle.kurbo_geometry.specs.declared.Rect.{Rect}
use Rattle.kurbo_affine.specs.declared.Affine.{Affine}
use Rattle.kurbo_affine.specs.declared.Point.{Point}
use Rattle.kurbo_affine.specs.Affines.{transform_point}

-- a number is "not finite": infinite or a NaN
abbrev pub Unbounded : Float → Type 0
Unbounded x = finite x ≡ false

abbrev pub UnboundedPoint : Point → Type 0
UnboundedPoint p = Unbounded p.x ⊎ Unbounded p.y

-- an edge of the box is not finite
abbrev pub UnboundedEdge : Rect → Type 0
UnboundedEdge b = Unbounded b.x0 ⊎ Unbounded b.y0 ⊎ Unbounded b.x1 ⊎ Unbounded b.y1

-- a corner of the box, transformed, is not finite
abbrev pub UnboundedCorner : Affine → Rect → Type 0
UnboundedCorner t b =
    UnboundedPoint (transform_point t b.x0 b.y0)
    ⊎ UnboundedPoint (transform_point t b.x1 b.y0)
    ⊎ UnboundedPoint (transform_point t b.x0 b.y1)
    ⊎ UnboundedPoint (transform_point t b.x1 b.y1)

-- the case, of a box before its transform: a STROKE's is inflated by then
abbrev pub UnboundedBox : Affine → Rect → Type 0
UnboundedBox t b = UnboundedEdge b ⊎ UnboundedCorner t b
