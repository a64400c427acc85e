-- Past the end every byte counts as 0, and so does every number.
use native.Mathlib.Omega.{arith}
use Prim.Native.Nat.{ℕ, ◌+◌, ◌≤◌}
use mathlib.Core.List.{List}
use mathlib.Core.Path.{◌≡◌, ap, ◌∙◌}
use lib.Ieee.{Format, binary32, binary64, of_bits}
use lib.Ieee.Scale.{finite}
use lib.ListN.{length, get_or, get_or-eq_default}
use Rattle.base_lists.proofs.Picks.{pick_same}
use Rattle.base_little_endian.specs.Words.{u32_at, u64_at, finite_or, f32_at, f64_at}

pub byte_past : (s : List ℕ) (at : ℕ) → length s ≤ at → get_or s at 0 ≡ 0
byte_past s at p = get_or-eq_default s 0 p

pub u32_past : (s : List ℕ) (at : ℕ) → length s ≤ at → u32_at s at ≡ 0
unfolding u32_at
u32_past s at p =
    let a : get_or s at 0 ≡ 0 = byte_past s at p in
    let b : get_or s (at + 1) 0 ≡ 0 = byte_past s (at + 1) (omega arith) in
    let c : get_or s (at + 2) 0 ≡ 0 = byte_past s (at + 2) (omega arith) in
    let d : get_or s (at + 3) 0 ≡ 0 = byte_past s (at + 3) (omega arith) in
    omega arith

pub u64_past : (s : List ℕ) (at : ℕ) → length s ≤ at → u64_at s at ≡ 0
unfolding u64_at
u64_past s at p =
    let a : u32_at s at ≡ 0 = u32_past s at p in
    let b : u32_at s (at + 4) ≡ 0 = u32_past s (at + 4) (omega arith) in
    omega arith

-- the pattern 0 is the float 0
finite_zero : (f : Format) → finite_or f 0 ≡ of_bits f 0
unfolding finite_or
finite_zero f = pick_same (finite (of_bits f 0)) (of_bits f 0)

pub f64_past : (s : List ℕ) (at : ℕ) → length s ≤ at → f64_at s at ≡ of_bits binary64 0
f64_past s at p = ap (finite_or binary64) (u64_past s at p) ∙ finite_zero binary64

pub f32_past : (s : List ℕ) (at : ℕ) → length s ≤ at → f32_at s at ≡ of_bits binary32 0
f32_past s at p = ap (finite_or binary32) (u32_past s at p) ∙ finite_zero binary32
