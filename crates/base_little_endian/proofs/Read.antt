-- Numbers of so many bytes that were read from an offset on. Assumes nothing.
use native.Mathlib.Omega.{arith}
use Prim.Native.Nat.{ℕ, ◌+◌, ◌*◌, ◌<◌}
use mathlib.Core.List.{List}
use mathlib.Core.Path.{◌≡◌, refl, ap, ◌∙◌}
use lib.ListN.{get_or}
use Rattle.std.specs.Int.{w16, w32, w64, from_le_bytes}
use Rattle.base_little_endian.specs.Words.{u16_at, u32_at, u64_at}
use Rattle.base_little_endian.proofs.Alike.{u16_same, u32_same, u64_same}

-- std's numbers are those of Words, from the first byte on
u16_of : (b : List ℕ) → from_le_bytes w16 b ≡ u16_at b 0
unfolding u16_at
u16_of b =
    let e : from_le_bytes w16 b ≡ get_or b 0 0 + get_or b 1 0 * 256 = refl in
    e ∙ omega arith

u32_of : (b : List ℕ) → from_le_bytes w32 b ≡ u32_at b 0
unfolding u32_at
u32_of b =
    let e : from_le_bytes w32 b ≡ get_or b 0 0 + get_or b 1 0 * 256 + get_or b 2 0 * 65536 + get_or b 3 0 * 16777216 = refl in
    e ∙ omega arith

u64_of : (b : List ℕ) → from_le_bytes w64 b ≡ u64_at b 0
unfolding u64_at u32_at
u64_of b =
    let e : from_le_bytes w64 b ≡ get_or b 0 0 + get_or b 1 0 * 256 + get_or b 2 0 * 65536 + get_or b 3 0 * 16777216 + get_or b 4 0 * 4294967296 + get_or b 5 0 * 1099511627776 + get_or b 6 0 * 281474976710656 + get_or b 7 0 * 72057594037927936 = refl in
    e ∙ omega arith

module _ (s bytes : List ℕ) (at : ℕ) where
  -- bytes that were read, as the laws of Alike ask for them
  there : (n : ℕ) → ((i : ℕ) → i < n → get_or bytes i 0 ≡ get_or s (at + i) 0) → (i j : ℕ) → j ≡ at + i → i < n → get_or bytes i 0 ≡ get_or s j 0
  there n h i j v l = h i l ∙ ap (λ (p : ℕ). get_or s p 0) (omega arith)

  pub u16_read : ((i : ℕ) → i < 2 → get_or bytes i 0 ≡ get_or s (at + i) 0) → from_le_bytes w16 bytes ≡ u16_at s at
  u16_read h = u16_of bytes ∙ u16_same bytes s at 2 (there 2 h) 0 at (omega arith) (omega arith)

  pub u32_read : ((i : ℕ) → i < 4 → get_or bytes i 0 ≡ get_or s (at + i) 0) → from_le_bytes w32 bytes ≡ u32_at s at
  u32_read h = u32_of bytes ∙ u32_same bytes s at 4 (there 4 h) 0 at (omega arith) (omega arith)

  pub u64_read : ((i : ℕ) → i < 8 → get_or bytes i 0 ≡ get_or s (at + i) 0) → from_le_bytes w64 bytes ≡ u64_at s at
  u64_read h = u64_of bytes ∙ u64_same bytes s at 8 (there 8 h) 0 at (omega arith) (omega arith)
