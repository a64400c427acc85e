-- Floats far from infinite: they are finite, and so are the boxes and affines that they make. Assumes nothing.
use mathlib.Core.Path.{◌≡◌, sym, subst}
use mathlib.Core.Bool.{true}
use mathlib.Core.List.{List}
use Prim.Native.Nat.{ℕ, ◌+◌, ◌%◌, ◌^◌, ◌<◌}
use native.Mathlib.Omega.{arith}
use lib.Ieee.{binary64, of_bits}
use lib.Ieee.Scale.{finite}
use Rattle.base_lists.proofs.Picks.{pick_true}
use Rattle.base_ieee.proofs.Magnitudes.{Within, within_finite, bits_within}
use Rattle.base_little_endian.specs.Words.{u64_at, finite_or}
use Rattle.kurbo_geometry.proofs.Edges.{Edges}
use Rattle.kurbo_affine.proofs.Near.{NearAffine}
use Rattle.strip_format.specs.Format.{rect_at, affine_at}
use Rattle.strip_format.specs.Finite.{FourFinite, near_bits, FourNear}

bits_finite : (b : ℕ) → b % 2 ^ 63 < near_bits → finite (of_bits binary64 b) ≡ true
bits_finite b h = within_finite 500 (of_bits binary64 b) (bits_within b h)

value_within : (b : ℕ) → b % 2 ^ 63 < near_bits → Within 500 (finite_or binary64 b)
unfolding finite_or
value_within b h = subst (Within 500) (sym (pick_true (finite (of_bits binary64 b)) (of_bits binary64 b) (of_bits binary64 0) (bits_finite b h))) (bits_within b h)

module _ (s : List ℕ) (at : ℕ) (w : FourNear s at) where
  pub near_finite : FourFinite s at
  near_finite = record { first = bits_finite _ w.first; second = bits_finite _ w.second; third = bits_finite _ w.third; fourth = bits_finite _ w.fourth }

  pub near_edges : Edges (Within 500) (rect_at s at)
  near_edges = record { x0 = value_within (u64_at s at) w.first; y0 = value_within (u64_at s (at + 8)) w.second; x1 = value_within (u64_at s (at + 16)) w.third; y1 = value_within (u64_at s (at + 24)) w.fourth }

  pub near_entries : FourNear s (at + 16) → NearAffine (affine_at s at)
  near_entries v = record {
    a = value_within (u64_at s at) w.first;
    b = value_within (u64_at s (at + 8)) w.second;
    c = value_within (u64_at s (at + 16)) w.third;
    d = value_within (u64_at s (at + 24)) w.fourth;
    e = value_within (u64_at s (at + 32)) (subst (λ (z : ℕ). u64_at s z % 2 ^ 63 < near_bits) (ahead 16) v.third);
    f = value_within (u64_at s (at + 40)) (subst (λ (z : ℕ). u64_at s z % 2 ^ 63 < near_bits) (ahead 24) v.fourth);
  }
    where
      ahead : (k : ℕ) → at + 16 + k ≡ at + (16 + k)
      ahead k = omega arith
