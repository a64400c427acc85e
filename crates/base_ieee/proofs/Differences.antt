-- A value less itself is 0 where it is finite, and else a NaN, which every sum keeps: one sum tells whether many values are finite.
use mathlib.Core.Path.{◌≡◌, refl}
use mathlib.Core.Bool.{Bool, true, false, not, ◌&&◌, beq, cond}
use Prim.Native.Nat.{ℕ, ◌+◌, ◌-◌, ◌*◌}
use native.Mathlib.Omega.{arith}
use lib.Dec.{ltb}
use lib.Ieee.{Float, nan, inf, fin, binary64, up, down, round, sum, neg, add, sub, eq, of_bits}
use lib.Ieee.Scale.{finite}
use borrow.Author.Tests.{le-ltb}
use Rattle.base_ieee.specs.Values.{zero_of}
use Rattle.base_ieee.proofs.Values.{round_zero}

-- 0 for yes, a NaN for no
abbrev pub told : Bool → Float
told true = zero_of false
told false = nan

-- the same magnitude with opposite signs
opposite : (s : Bool) (a c : ℕ) → sum binary64 s a (not s) a c ≡ zero_of false
unfolding sum
opposite s a c = go s
  where
    level : ltb a a ≡ false
    level = le-ltb a a (omega arith)

    none : a - a ≡ 0
    none = omega arith

    go : (s : Bool) → cond (beq s (not s)) (round binary64 s (a + a) c) (cond (ltb a a) (round binary64 (not s) (a - a) c) (round binary64 (s && ltb a a) (a - a) c)) ≡ zero_of false
    go true = rw (level, none) (round_zero false c)
    go false = rw (level, none) (round_zero false c)

pub less_itself : (x : Float) → sub binary64 x x ≡ told (finite x)
unfolding sub add neg
less_itself nan = refl
less_itself (inf true) = refl
less_itself (inf false) = refl
less_itself (fin s m e) = opposite s (m * up e * down e) (down e * down e)

pub told_both : (a b : Bool) → add binary64 (told a) (told b) ≡ told (a && b)
unfolding add sum
told_both true true = round_zero false 1
told_both true false = refl
told_both false b = refl

pub told_zero : (b : Bool) → eq (told b) (of_bits binary64 0) ≡ b
unfolding eq of_bits
told_zero true = refl
told_zero false = refl
