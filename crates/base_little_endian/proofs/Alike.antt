-- Two rows of bytes, one with the first n bytes of the other from byte `by` on: numbers within those bytes are the same. Assumes nothing.
use mathlib.Core.Path.{◌≡◌, ap}
use mathlib.Core.List.{List}
use Prim.Native.Nat.{ℕ, ◌+◌, ◌≤◌, ◌<◌}
use native.Mathlib.Omega.{arith}
use lib.ListN.{get_or}
use lib.Ieee.{binary32, binary64}
use Rattle.base_little_endian.specs.Words.{u16_at, u32_at, u64_at, f32_at, f64_at, finite_or}

module _ (s r : List ℕ) (by n : ℕ) (same : (i j : ℕ) → j ≡ by + i → i < n → get_or s i 0 ≡ get_or r j 0) where
  pub u16_same : (at to : ℕ) → to ≡ by + at → at + 2 ≤ n → u16_at s at ≡ u16_at r to
  unfolding u16_at
  u16_same at to v h = rw (same at to v (omega arith), same (at + 1) (to + 1) (omega arith) (omega arith))

  pub u32_same : (at to : ℕ) → to ≡ by + at → at + 4 ≤ n → u32_at s at ≡ u32_at r to
  unfolding u32_at
  u32_same at to v h = rw (same at to v (omega arith), same (at + 1) (to + 1) (omega arith) (omega arith), same (at + 2) (to + 2) (omega arith) (omega arith), same (at + 3) (to + 3) (omega arith) (omega arith))

  pub u64_same : (at to : ℕ) → to ≡ by + at → at + 8 ≤ n → u64_at s at ≡ u64_at r to
  unfolding u64_at
  u64_same at to v h = rw (u32_same at to v (omega arith), u32_same (at + 4) (to + 4) (omega arith) (omega arith))

  pub f64_same : (at to : ℕ) → to ≡ by + at → at + 8 ≤ n → f64_at s at ≡ f64_at r to
  f64_same at to v h = ap (finite_or binary64) (u64_same at to v h)

  pub f32_same : (at to : ℕ) → to ≡ by + at → at + 4 ≤ n → f32_at s at ≡ f32_at r to
  f32_same at to v h = ap (finite_or binary32) (u32_same at to v h)
