-- Floats in a row: one after another they are found to be finite, and read. Assumes nothing.
use mathlib.Core.Path.{◌≡◌, ap, sym, subst, ◌∙◌}
use mathlib.Core.Bool.{true}
use mathlib.Core.List.{List}
use Prim.Native.Nat.{ℕ, zero, suc, ◌+◌, ◌*◌, ◌≤◌, ◌<◌}
use native.Mathlib.Omega.{arith}
use lib.Ieee.{Float, binary64, of_bits}
use lib.Ieee.Scale.{finite}
use lib.ListN.{length, get_or, set, replicate}
use borrow.Author.Count.{below_more}
use Rattle.std.proofs.lemmas.List.{get_or-set_same, get_or-set_other, get_or-replicate}
use Rattle.base_little_endian.specs.Words.{u64_at, f64_at}
use Rattle.base_little_endian.proofs.Past.{f64_past}
use Rattle.strip_format.specs.Format.{rect_at, affine_at}
use Rattle.strip_format.specs.Finite.{AllFinite, FloatsFrom, FourFinite}

module _ (s : List ℕ) (at : ℕ) where
  -- ---- which are finite
  finite_at : ℕ → Type 0
  finite_at p = finite (of_bits binary64 (u64_at s p)) ≡ true

  pub finite_none : AllFinite s at 0
  unfolding AllFinite
  finite_none i l = absurd (omega arith)

  pub finite_more : (n : ℕ) → AllFinite s at n → finite (of_bits binary64 (u64_at s (at + 8 * n))) ≡ true → AllFinite s at (n + 1)
  unfolding AllFinite
  finite_more n all here = below_more (λ (i : ℕ). finite (of_bits binary64 (u64_at s (at + 8 * i))) ≡ true) n all here

  pub finite_of : (n i : ℕ) → AllFinite s at n → i < n → finite (of_bits binary64 (u64_at s (at + 8 * i))) ≡ true
  unfolding AllFinite
  finite_of n i all l = all i l

  written : (x y : ℕ) → x ≡ y → finite (of_bits binary64 (u64_at s x)) ≡ true → finite (of_bits binary64 (u64_at s y)) ≡ true
  written x y e h = subst (λ (z : ℕ). finite (of_bits binary64 (u64_at s z)) ≡ true) e h

  -- those of a box, and the first four of an affine
  pub finite_four : FourFinite s at → AllFinite s at 4
  unfolding AllFinite
  finite_four w zero l = written at (at + 0) (omega arith) w.first
  finite_four w (suc zero) l = w.second
  finite_four w (suc (suc zero)) l = w.third
  finite_four w (suc (suc (suc zero))) l = w.fourth
  finite_four w (suc (suc (suc (suc i)))) l = absurd (omega arith)

  pub four_finite : AllFinite s at 4 → FourFinite s at
  unfolding AllFinite
  four_finite w = record { first = written (at + 0) at (omega arith) (w 0 (omega arith)); second = w 1 (omega arith); third = w 2 (omega arith); fourth = w 3 (omega arith) }

  -- those of an affine, of which the second test covers the last two
  pub finite_six : FourFinite s at → FourFinite s (at + 16) → AllFinite s at 6
  finite_six w v = finite_more 5 (finite_more 4 (finite_four w) (written (at + 16 + 16) (at + 32) (omega arith) v.third)) (written (at + 16 + 24) (at + 40) (omega arith) v.fourth)

  -- ---- which were read
  pub floats_none : (xs : List Float) → FloatsFrom s at 0 xs
  unfolding FloatsFrom
  floats_none xs i d l = absurd (omega arith)

  pub floats_more : (n : ℕ) (xs : List Float) (x : Float) → n < length xs → FloatsFrom s at n xs → x ≡ f64_at s (at + 8 * n) → FloatsFrom s at (n + 1) (set xs n x)
  unfolding FloatsFrom
  floats_more n xs x h all here i d l =
      below_more (λ (k : ℕ). get_or (set xs n x) k d ≡ f64_at s (at + 8 * k)) n
      (λ k m. get_or-set_other xs n k x d (λ e. omega arith) ∙ all k d m)
      (get_or-set_same xs n x d h ∙ here) i l

  pub floats_past : (n : ℕ) → length s ≤ at → FloatsFrom s at n (replicate n (of_bits binary64 0))
  unfolding FloatsFrom
  floats_past n h i d l = get_or-replicate n i (of_bits binary64 0) d l ∙ sym (f64_past s (at + 8 * i) (omega arith))

  -- ---- what is made of them
  first : (xs : List Float) (d : Float) → get_or xs 0 d ≡ f64_at s (at + 0) → get_or xs 0 d ≡ f64_at s at
  first xs d e = e ∙ ap (f64_at s) (omega arith)

  pub rect_from : (xs : List Float) (d : Float) → FloatsFrom s at 4 xs → record { x0 = get_or xs 0 d; y0 = get_or xs 1 d; x1 = get_or xs 2 d; y1 = get_or xs 3 d } ≡ rect_at s at
  unfolding FloatsFrom
  rect_from xs d w =
      let a = first xs d (w 0 d (omega arith)) in
      let b = w 1 d (omega arith) in
      let c = w 2 d (omega arith) in
      let e = w 3 d (omega arith) in
      λ i. record { x0 = a i; y0 = b i; x1 = c i; y1 = e i }

  pub affine_from : (xs : List Float) (d : Float) → FloatsFrom s at 6 xs → record { a = get_or xs 0 d; b = get_or xs 1 d; c = get_or xs 2 d; d = get_or xs 3 d; e = get_or xs 4 d; f = get_or xs 5 d } ≡ affine_at s at
  unfolding FloatsFrom
  affine_from xs d w =
      let p = first xs d (w 0 d (omega arith)) in
      let q = w 1 d (omega arith) in
      let r = w 2 d (omega arith) in
      let t = w 3 d (omega arith) in
      let u = w 4 d (omega arith) in
      let v = w 5 d (omega arith) in
      λ i. record { a = p i; b = q i; c = r i; d = t i; e = u i; f = v i }
