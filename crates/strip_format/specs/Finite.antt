-- Floats in bytes that were found to be finite, or far from infinite.
use Rattle.std.specs.Prelude.{◌≡◌, true, List, ℕ, ◌+◌, ◌*◌, ◌%◌, ◌^◌, ◌<◌, Float, get_or}
use Rattle.std.specs.Float.{binary64}
use Rattle.std.specs.Float.Ieee.{of_bits}
use Rattle.std.specs.Float.Ieee.Scale.{finite}
use Rattle.base_little_endian.specs.Words.{u64_at, f64_at}

-- the n f64 from an offset on are
unfoldable pub AllFinite : List ℕ → ℕ → ℕ → Type 0
AllFinite s at n = (i : ℕ) → i < n → finite (of_bits binary64 (u64_at s (at + 8 * i))) ≡ true

-- the n f64 from an offset on are these
unfoldable pub FloatsFrom : List ℕ → ℕ → ℕ → List Float → Type 0
FloatsFrom s at n xs = (i : ℕ) (d : Float) → i < n → get_or xs i d ≡ f64_at s (at + 8 * i)

-- four of them are finite
pub record FourFinite (s : List ℕ) (at : ℕ) : Type 0 where
  pub first : finite (of_bits binary64 (u64_at s at)) ≡ true
  pub second : finite (of_bits binary64 (u64_at s (at + 8))) ≡ true
  pub third : finite (of_bits binary64 (u64_at s (at + 16))) ≡ true
  pub fourth : finite (of_bits binary64 (u64_at s (at + 24))) ≡ true

-- the pattern of 2 ^ 500: patterns below it, the sign apart, are those of numbers below 2 ^ 500 in size (`base_ieee`, `bits_within`)
abbrev pub near_bits : ℕ
near_bits = 1523 * 2 ^ 52

-- the four f64 from an offset on are below 2 ^ 500 in size
pub record FourNear (s : List ℕ) (at : ℕ) : Type 0 where
  pub first : u64_at s at % 2 ^ 63 < near_bits
  pub second : u64_at s (at + 8) % 2 ^ 63 < near_bits
  pub third : u64_at s (at + 16) % 2 ^ 63 < near_bits
  pub fourth : u64_at s (at + 24) % 2 ^ 63 < near_bits
