-- Boxes that are the same by value convert alike: 0 and -0 give the same region. Assumes nothing.
use mathlib.Core.Path.{◌≡◌}
use Prim.Native.Nat.{ℕ, min}
use Rattle.base_floats.proofs.Values.{floor_same, ceil_same}
use Rattle.kurbo_geometry.specs.declared.Rect.{Rect}
use Rattle.kurbo_geometry.proofs.Values.{SameBox}
use Rattle.compositor_device.specs.Region.{between, from_logical}

pub from_logical_same : (a b : Rect) (w h : ℕ) → SameBox a b → from_logical a w h ≡ from_logical b w h
from_logical_same a b w h k = λ i. between (floor_same a.x0 b.x0 k.x0 i) (floor_same a.y0 b.y0 k.y0 i) (min (ceil_same a.x1 b.x1 k.x1 i) w) (min (ceil_same a.y1 b.y1 k.y1 i) h)
