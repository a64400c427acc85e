-- What lent space holds after a box is stored: that box, and every box beside it as before. Assumes nothing.
use mathlib.Core.Path.{◌≡◌, refl, sym, ap, ◌∙◌}
use mathlib.Core.List.{List, [], ◌∷◌, ◌++◌}
use Prim.Native.Nat.{ℕ, zero, suc, ◌+◌, ◌≤◌, ◌<◌}
use native.Mathlib.Omega.{arith}
use lib.ListN.{length, take, drop, get_or, set, length-set}
use lib.Seq.{get_or-set_same, get_or-set_other}
use lib.Ieee.{Float, nan}
use Rattle.kurbo_geometry.specs.declared.Rect.{Rect}
use Rattle.kurbo_geometry.specs.Boxes.{edges}
use Rattle.base_rect_words.specs.Words.{rect_from, put_rect}

pub length_put : (ws : List Float) (i : ℕ) (b : Rect) → length (put_rect ws i b) ≡ length ws
unfolding put_rect
length_put ws i b = simp length-set

-- a word before or behind the box
pub word_before : (ws : List Float) (i j : ℕ) (b : Rect) → j < i → get_or (put_rect ws i b) j nan ≡ get_or ws j nan
unfolding put_rect
word_before ws i j b h =
    let p : j ≡ i → ⊥ = λ e. omega arith in
    let q : j ≡ i + 1 → ⊥ = λ e. omega arith in
    let r : j ≡ i + 2 → ⊥ = λ e. omega arith in
    let s : j ≡ i + 3 → ⊥ = λ e. omega arith in
    simp get_or-set_other

-- the box itself
module _ (ws : List Float) (i : ℕ) (b : Rect) (h : i + 4 ≤ length ws) where
  word_x0 : get_or (put_rect ws i b) i nan ≡ b.x0
  unfolding put_rect
  word_x0 =
      let p : i ≡ i + 1 → ⊥ = λ e. omega arith in
      let q : i ≡ i + 2 → ⊥ = λ e. omega arith in
      let r : i ≡ i + 3 → ⊥ = λ e. omega arith in
      let f : i < length ws = omega arith in
      simp (get_or-set_other, get_or-set_same)

  word_y0 : get_or (put_rect ws i b) (i + 1) nan ≡ b.y0
  unfolding put_rect
  word_y0 =
      let q : i + 1 ≡ i + 2 → ⊥ = λ e. omega arith in
      let r : i + 1 ≡ i + 3 → ⊥ = λ e. omega arith in
      let f : i + 1 < length (set ws i b.x0) = simp length-set (omega arith) in
      simp (get_or-set_other, get_or-set_same)

  word_x1 : get_or (put_rect ws i b) (i + 2) nan ≡ b.x1
  unfolding put_rect
  word_x1 =
      let r : i + 2 ≡ i + 3 → ⊥ = λ e. omega arith in
      let f : i + 2 < length (set (set ws i b.x0) (i + 1) b.y0) = simp length-set (omega arith) in
      simp (get_or-set_other, get_or-set_same)

  word_y1 : get_or (put_rect ws i b) (i + 3) nan ≡ b.y1
  unfolding put_rect
  word_y1 =
      let f : i + 3 < length (set (set (set ws i b.x0) (i + 1) b.y0) (i + 2) b.x1) = simp length-set (omega arith) in
      simp get_or-set_same

  pub rect_same : rect_from (put_rect ws i b) i ≡ b
  rect_same = λ k. record { x0 = word_x0 k; y0 = word_y0 k; x1 = word_x1 k; y1 = word_y1 k }

-- a box that ends before the stored one
pub rect_before : (ws : List Float) (i j : ℕ) (b : Rect) → j + 4 ≤ i → rect_from (put_rect ws i b) j ≡ rect_from ws j
rect_before ws i j b h = λ k. record {
  x0 = word_before ws i j b (omega arith) k;
  y0 = word_before ws i (j + 1) b (omega arith) k;
  x1 = word_before ws i (j + 2) b (omega arith) k;
  y1 = word_before ws i (j + 3) b (omega arith) k;
}

-- four words stored at once
module _ (b : Rect) where
  stored : (i : ℕ) (ws : List Float) → i + 4 ≤ length ws → take i ws ++ (edges b ++ drop 4 (drop i ws)) ≡ put_rect ws i b
  unfolding put_rect
  stored zero [] h = absurd (omega arith)
  stored zero (w ∷ []) h = absurd (omega arith)
  stored zero (w ∷ x ∷ []) h = absurd (omega arith)
  stored zero (w ∷ x ∷ y ∷ []) h = absurd (omega arith)
  stored zero (w ∷ x ∷ y ∷ z ∷ ws) h = refl
  stored (suc i) [] h = absurd (omega arith)
  stored (suc i) (w ∷ ws) h =
      let p : suc i + 1 ≡ suc (i + 1) = omega arith in
      let q : suc i + 2 ≡ suc (i + 2) = omega arith in
      let r : suc i + 3 ≡ suc (i + 3) = omega arith in
      ap (λ l. w ∷ l) (stored i ws (omega arith)) ∙ sym (λ j. set (set (set (set (w ∷ ws) (suc i) b.x0) (p j) b.y0) (q j) b.x1) (r j) b.y1)

  pub stored_once : (i k : ℕ) (ws es : List Float) → k ≡ 4 → es ≡ edges b → i + 4 ≤ length ws → take i ws ++ (es ++ drop k (drop i ws)) ≡ put_rect ws i b
  stored_once i k ws es e f h = (λ j. take i ws ++ (f j ++ drop (e j) (drop i ws))) ∙ stored i ws h
