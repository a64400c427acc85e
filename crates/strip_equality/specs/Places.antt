-- Floats, and the operands of a FILL or a STROKE, compared at two offsets of a strip.
use Rattle.std.specs.Prelude.{Bool, true, ◌&&◌, List, ℕ, zero, suc, ◌+◌}
use Rattle.std.specs.Float.Ieee.{eq}
use Rattle.base_little_endian.specs.Words.{u64_at, f64_at}
use Rattle.display_list_operand_equality.specs.Operands.{same_path}
use Rattle.strip_format.specs.Format.{rect_at, affine_at}
use Rattle.strip_format.specs.Layout as Layout

-- the n f64 from one offset on equal those from the other on
unfoldable pub same_floats : List ℕ → ℕ → ℕ → ℕ → Bool
same_floats s p q zero = true
same_floats s p q (suc n) = eq (f64_at s p) (f64_at s q) && same_floats s (p + 8) (q + 8) n

abbrev pub same_path_at : List ℕ → ℕ → ℕ → Bool
same_path_at s p q =
    same_path (u64_at s (p + Layout.fill_path)) (rect_at s (p + Layout.fill_box)) (affine_at s (p + Layout.fill_affine)) (u64_at s (p + Layout.fill_brush))
    (u64_at s (q + Layout.fill_path)) (rect_at s (q + Layout.fill_box)) (affine_at s (q + Layout.fill_affine)) (u64_at s (q + Layout.fill_brush))
