-- Heights that are the same by value lie in one row, and end in one: 0 and -0 alike. Assumes nothing.
use mathlib.Core.Path.{◌≡◌, ap}
use Prim.Native.Nat.{ℕ, ◌-◌, ◌/◌, min}
use lib.Ieee.{Float}
use Rattle.base_ieee.specs.Values.{Same}
use Rattle.base_floats.proofs.Values.{floor_same, next_down_same}
use Rattle.compositor_rows.specs.Rows.{row_of, final_row}

pub row_same : (x y : Float) (b rows : ℕ) → Same x y → row_of b rows x ≡ row_of b rows y
row_same x y b rows p = ap (λ (z : ℕ). min (z / b) (rows - 1)) (floor_same x y p)

pub final_row_same : (x y : Float) (b rows : ℕ) → Same x y → final_row b rows x ≡ final_row b rows y
final_row_same x y b rows p = ap (row_of b rows) (next_down_same x y p)
