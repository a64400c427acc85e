-- The lengths of the table. Assumes nothing.
use mathlib.Core.Path.{◌≡◌, refl}
use Prim.Native.Nat.{ℕ, ◌<◌}
use native.Mathlib.Omega.{arith}
use lib.Dec.{eqb}
use borrow.Author.Tests.{ne_eqb}
use Rattle.base_lists.proofs.Picks.{pick_cases}
use Rattle.strip_format.specs.Format.{length_of}

-- every command has at least its byte
pub length_pos : (b : ℕ) → 0 < length_of b
unfolding length_of
length_pos b =
    pick_cases (λ n. 0 < n) (eqb b 1) _ _ (λ e. omega arith)
    λ e. pick_cases (λ n. 0 < n) (eqb b 3) _ _ (λ e. omega arith)
    λ e. pick_cases (λ n. 0 < n) (eqb b 4) _ _ (λ e. omega arith)
    λ e. pick_cases (λ n. 0 < n) (eqb b 5) _ _ (λ e. omega arith)
    λ e. pick_cases (λ n. 0 < n) (eqb b 6) _ _ (λ e. omega arith)
    λ e. pick_cases (λ n. 0 < n) (eqb b 7) _ _ (λ e. omega arith) (λ e. omega arith)

-- a byte that is no command's stands alone
pub length_unknown : (b : ℕ) → 7 < b → length_of b ≡ 1
unfolding length_of
length_unknown b h = simp (ne_eqb b 1 (λ e. omega arith), ne_eqb b 3 (λ e. omega arith), ne_eqb b 4 (λ e. omega arith), ne_eqb b 5 (λ e. omega arith), ne_eqb b 6 (λ e. omega arith), ne_eqb b 7 (λ e. omega arith))

-- the lengths that a drawing command and a glyph have
pub length_clip : length_of 1 ≡ 33
unfolding length_of
length_clip = refl

pub length_pop : length_of 2 ≡ 1
unfolding length_of
length_pop = refl

pub length_fill : length_of 3 ≡ 97
unfolding length_of
length_fill = refl

pub length_stroke : length_of 4 ≡ 124
unfolding length_of
length_stroke = refl

pub length_run : length_of 5 ≡ 103
unfolding length_of
length_run = refl

pub length_glyph : length_of 6 ≡ 45
unfolding length_of
length_glyph = refl

pub length_scene : length_of 7 ≡ 105
unfolding length_of
length_scene = refl
