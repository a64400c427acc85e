-- Numbers in bytes, little-endian: the first byte counts least. Past the end a byte counts as 0.
use Rattle.std.specs.Prelude.{ℕ, ◌+◌, ◌*◌, List, get_or, Float}
use Rattle.std.specs.Float.{Format, binary32, binary64}
use Rattle.std.specs.Float.Ieee.{of_bits}
use Rattle.std.specs.Float.Ieee.Scale.{finite}
use Rattle.base_lists.specs.Pick.{pick}

unfoldable pub u16_at : List ℕ → ℕ → ℕ
u16_at s at = get_or s at 0 + 256 * get_or s (at + 1) 0

unfoldable pub u32_at : List ℕ → ℕ → ℕ
u32_at s at = get_or s at 0 + 256 * get_or s (at + 1) 0 + 65536 * get_or s (at + 2) 0 + 16777216 * get_or s (at + 3) 0

unfoldable pub u64_at : List ℕ → ℕ → ℕ
u64_at s at = u32_at s at + 4294967296 * u32_at s (at + 4)

-- the value of a pattern where that is finite, else 0
unfoldable pub finite_or : Format → ℕ → Float
finite_or f bits = pick (finite (of_bits f bits)) (of_bits f bits) (of_bits f 0)

abbrev pub f64_at : List ℕ → ℕ → Float
f64_at s at = finite_or binary64 (u64_at s at)

abbrev pub f32_at : List ℕ → ℕ → Float
f32_at s at = finite_or binary32 (u32_at s at)
