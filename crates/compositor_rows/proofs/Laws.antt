-- N4: a row of pixels lies in a band row; the rows of a box that meets a pixel hold the pixel's row. Assumes nothing.
use mathlib.Core.Path.{◌≡◌, ap, ◌∙◌}
use mathlib.Core.Bool.{true, false}
use Prim.Native.Nat.{ℕ, ◌+◌, ◌-◌, ◌*◌, ◌/◌, ◌^◌, ◌≤◌, ◌<◌}
use native.Mathlib.Nat.{mul-le-mul_right, div-div-eq-div-mul, add-div_right}
use native.Mathlib.Omega.{arith}
use lib.IntN.{ℤ}
use lib.Dec.{T}
use lib.Ieee.{Float, fin, up, down, lt}
use lib.Ieee.Nearest.{div_mono}
use Rattle.base_ieee.proofs.Rank.{ordered, lt_ranks, rank_whole, whole_ordered}
use Rattle.base_floats.specs.Whole.{whole, floor}
use Rattle.base_floats.specs.Next.{next_down}
use Rattle.base_floats.proofs.Wholes.{floor_at_most, floor_at_least}
use Rattle.base_floats.proofs.Nexts.{next_down_lem}
use Rattle.compositor_rows.specs.Rows.{row_count, row_of, final_row}

-- "divided by band height exactly": dividing the whole part is dividing the number
pub row_exact : (m : ℕ) (e : ℤ) (band : ℕ) → floor (fin false m e) / band ≡ m * up e / (down e * band)
unfolding floor
row_exact m e band = div-div-eq-div-mul (m * up e) (down e) band

div_le : (a b d : ℕ) → 0 < d → a ≤ b → a / d ≤ b / d
div_le a b d D h = div_mono a d b d D D (mul-le-mul_right d h)

-- the last row, by the last row of pixels
pub last_row : (h b : ℕ) → 0 < h → 0 < b → row_count h b - 1 ≡ (h - 1) / b
last_row h b H B =
    let e : h + (b - 1) ≡ h - 1 + b = omega arith in
    let k : (h + (b - 1)) / b ≡ (h - 1) / b + 1 = ap (λ (z : ℕ). z / b) e ∙ add-div_right (h - 1) B in
    omega arith

-- ---- N4
pub row_upper : (y : Float) (b rows q : ℕ) → T (ordered y) → 0 < b → q + 1 ≤ 2 ^ 53 → lt y (whole (q + 1)) ≡ true → row_of b rows y ≤ q / b
row_upper y b rows q t B Q e =
    let r = rank_whole (q + 1) Q in
    let k = lt_ranks y (whole (q + 1)) t (whole_ordered (q + 1) Q) e in
    let f = div_le (floor y) q b B (floor_at_most y q t (omega arith)) in
    omega arith

-- what lies above the top of a row of pixels still does, or is level with it, one value lower
pub final_lower : (y : Float) (b rows q : ℕ) → T (ordered y) → 0 < b → q ≤ 2 ^ 53 → q / b ≤ rows - 1 → lt (whole q) y ≡ true → q / b ≤ final_row b rows y
final_lower y b rows q t B Q l e =
    let r = rank_whole q Q in
    let k = lt_ranks (whole q) y (whole_ordered q Q) t e in
    let n = next_down_lem y t (omega arith) in
    let w = n.nearest (whole q) (whole_ordered q Q) k in
    let f = div_le q (floor (next_down y)) b B (floor_at_least (next_down y) q n.is_ordered (omega arith)) in
    omega arith

-- a row of pixels of the screen lies in one of the rows
pub row_below : (h b q : ℕ) → 0 < b → q < h → q / b ≤ row_count h b - 1
row_below h b q B Q = let l = last_row h b (omega arith) B in let m = div_le q (h - 1) b B (omega arith) in omega arith
