-- A part of the bytes. Assumes nothing.
use Prim.Native.Nat.{ℕ, ◌+◌, ◌-◌, ◌≤◌, ◌<◌}
use mathlib.Core.List.{List}
use mathlib.Core.Path.{◌≡◌, refl, ap, sym, ◌∙◌}
use native.Mathlib.Omega.{arith}
use lib.ListN.{length, get_or, take, drop, length-take, length-drop}
use lib.Seq.{get_or-take, get_or-drop}
use Rattle.base_little_endian.specs.Same.{SameBytes}

-- the n bytes from `at` on, as the code cuts them: up to `at + n`, from `at`
abbrev pub part : List ℕ → ℕ → ℕ → List ℕ
part s at n = take (at + n - at) (drop at s)

pub part_same : (s : List ℕ) (at n i j : ℕ) → j ≡ at + i → i < n → get_or (part s at n) i 0 ≡ get_or s j 0
part_same s at n i j e h =
    let m : i < at + n - at = omega arith in
    get_or-take (at + n - at) (drop at s) i 0 m ∙ get_or-drop at s i 0 ∙ ap (λ (p : ℕ). get_or s p 0) (sym e)

pub part_length : (s : List ℕ) (at n : ℕ) → at + n ≤ length s → length (part s at n) ≡ n
part_length s at n h = omega (arith, length-take (at + n - at) (drop at s), length-drop at s)

-- bytes that stand twice are a part from both places
pub part_twice : (s : List ℕ) (p q n : ℕ) → SameBytes s p q n → (i j : ℕ) → j ≡ q + i → i < n → get_or (part s p n) i 0 ≡ get_or s j 0
unfolding SameBytes
part_twice s p q n w i j e h = part_same s p n i (p + i) refl h ∙ w i h ∙ ap (λ (k : ℕ). get_or s k 0) (sym e)
