-- Every float that is decoded is finite. Assumes nothing.
use mathlib.Core.List.{List}
use Prim.Native.Nat.{ℕ, ◌+◌}
use lib.Dec.{T}
use lib.Ieee.{Float, binary32, binary64, fits, of_bits}
use lib.Ieee.Bits.{of_bits-fits}
use lib.Ieee.Scale.{finite}
use Rattle.base_lists.proofs.Bools.{holds}
use Rattle.base_lists.proofs.Picks.{pick_cases}
use Rattle.base_little_endian.specs.Words.{u32_at, u64_at, f32_at, f64_at, finite_or}
use Rattle.kurbo_geometry.proofs.Edges.{Edges}
use Rattle.display_list_commands.proofs.Finite.{Number}
use Rattle.display_list_commands.proofs.Values.{Entries}
use Rattle.strip_format.specs.Format.{rect_at, affine_at}

pub zero_number : Number (of_bits binary64 0)
unfolding of_bits
zero_number = (tt, of_bits-fits binary64 0)

number_of : (n : ℕ) → Number (finite_or binary64 n)
unfolding finite_or
number_of n = pick_cases Number (finite (of_bits binary64 n)) (of_bits binary64 n) (of_bits binary64 0) (λ e. (holds (finite (of_bits binary64 n)) e, of_bits-fits binary64 n)) (λ e. zero_number)

pub number_at : (s : List ℕ) (at : ℕ) → Number (f64_at s at)
number_at s at = number_of (u64_at s at)

pub rect_numbers : (s : List ℕ) (at : ℕ) → Edges Number (rect_at s at)
rect_numbers s at = record { x0 = number_at s at; y0 = number_at s (at + 8); x1 = number_at s (at + 16); y1 = number_at s (at + 24) }

pub entry_numbers : (s : List ℕ) (at : ℕ) → Entries Number (affine_at s at)
entry_numbers s at = record { a = number_at s at; b = number_at s (at + 8); c = number_at s (at + 16); d = number_at s (at + 24); e = number_at s (at + 32); f = number_at s (at + 40) }

-- sizes and places of glyphs
zero_single : T (finite (of_bits binary32 0))
unfolding of_bits
zero_single = tt

single_of : (n : ℕ) → T (finite (finite_or binary32 n))
unfolding finite_or
single_of n = pick_cases (λ (x : Float). T (finite x)) (finite (of_bits binary32 n)) (of_bits binary32 n) (of_bits binary32 0) (λ e. holds (finite (of_bits binary32 n)) e) (λ e. zero_single)

pub single_finite : (s : List ℕ) (at : ℕ) → T (finite (f32_at s at))
single_finite s at = single_of (u32_at s at)

-- they are f32 too
abbrev pub Single : Float → Type 0
Single x = T (finite x) × T (fits binary32 x)

pub single_zero : Single (of_bits binary32 0)
single_zero = (zero_single, of_bits-fits binary32 0)

pub single_at : (s : List ℕ) (at : ℕ) → Single (f32_at s at)
unfolding finite_or
single_at s at = pick_cases Single (finite (of_bits binary32 (u32_at s at))) (of_bits binary32 (u32_at s at)) (of_bits binary32 0) (λ e. (holds (finite (of_bits binary32 (u32_at s at))) e, of_bits-fits binary32 (u32_at s at))) (λ e. single_zero)
