-- Boxes of words: how many they are, each at its own place; from a place on, one more stands at their end, and one fewer behind the first. Assumes nothing.
use mathlib.Core.Path.{◌≡◌, refl, sym, ap, ◌∙◌}
use mathlib.Core.List.{List, [], ◌∷◌, ◌++◌}
use Prim.Native.Nat.{ℕ, zero, suc, ◌+◌, ◌*◌, ◌<◌}
use native.Mathlib.Nat.{not-suc-le-zero}
use native.Mathlib.Omega.{arith}
use lib.ListN.{length, drop, get_or, get_or-append, length-append}
use lib.Seq.{get_or-append_seam, ext_get_or}
use lib.Ieee.{Float, nan}
use Rattle.std.proofs.lemmas.List.{get_or-drop}
use Rattle.base_lists.proofs.Picks.{by_le}
use Rattle.kurbo_geometry.specs.declared.Rect.{Rect}
use Rattle.base_rect_words.specs.Words.{box_at, boxes_to}

module _ (ws : List Float) where
  -- the first n are as many, and box i is the one at place i
  pub boxes_length : (n : ℕ) → length (boxes_to ws n) ≡ n
  unfolding boxes_to
  boxes_length zero = refl
  boxes_length (suc n) = length-append (boxes_to ws n) (box_at ws n ∷ []) ∙ omega (arith, boxes_length n)

  pub box_of : (n i : ℕ) (d : Rect) → i < n → get_or (boxes_to ws n) i d ≡ box_at ws i
  unfolding boxes_to
  box_of zero i d h = absurd (not-suc-le-zero h)
  box_of (suc n) i d h = by_le n i
      (λ g. let z : i ≡ length (boxes_to ws n) = omega (arith, boxes_length n) in
      let y : n ≡ i = omega arith in
      ap (λ (j : ℕ). get_or (boxes_to ws n ++ (box_at ws n ∷ [])) j d) z ∙ get_or-append_seam (boxes_to ws n) (box_at ws n) [] d ∙ ap (box_at ws) y)
      (λ g. get_or-append (boxes_to ws n) (box_at ws n ∷ []) d i (omega (arith, boxes_length n)) ∙ box_of n i d g)

  -- they are those of a list where each box in the words is the list's
  pub boxes_are : (l : List Rect) (d : Rect) → ((i : ℕ) → i < length l → box_at ws i ≡ get_or l i d) → boxes_to ws (length l) ≡ l
  boxes_are l d e =
      let b = boxes_length (length l) in
      ext_get_or d _ _ b (λ i h. let g : i < length l = omega (arith, b) in box_of (length l) i d g ∙ e i g)

  -- box j of those from place i on
  pub box_from : (i j k : ℕ) → k ≡ i + j → box_at (drop (4 * i) ws) j ≡ box_at ws k
  box_from i j k e =
      let word : (n m : ℕ) → 4 * i + n ≡ m → get_or (drop (4 * i) ws) n nan ≡ get_or ws m nan = λ n m e. get_or-drop (4 * i) ws n nan ∙ ap (λ p. get_or ws p nan) e in
      let e0 = word (4 * j) (4 * k) (omega arith) in
      let e1 = word (4 * j + 1) (4 * k + 1) (omega arith) in
      let e2 = word (4 * j + 2) (4 * k + 2) (omega arith) in
      let e3 = word (4 * j + 3) (4 * k + 3) (omega arith) in
      λ t. record { x0 = e0 t; y0 = e1 t; x1 = e2 t; y1 = e3 t }

  -- one more at their end
  pub boxes_last : (i n k : ℕ) → k ≡ i + n → boxes_to (drop (4 * i) ws) (suc n) ≡ boxes_to (drop (4 * i) ws) n ++ (box_at ws k ∷ [])
  unfolding boxes_to
  boxes_last i n k e = ap (λ (b : Rect). boxes_to (drop (4 * i) ws) n ++ (b ∷ [])) (box_from i n k e)

  -- the first, and those behind it
  pub boxes_first : (i n : ℕ) → boxes_to (drop (4 * i) ws) (suc n) ≡ box_at ws i ∷ boxes_to (drop (4 * suc i) ws) n
  unfolding boxes_to
  boxes_first i zero = boxes_last i zero i (omega arith)
  boxes_first i (suc n) =
      boxes_last i (suc n) (i + suc n) refl
      ∙ ap (λ (l : List Rect). l ++ (box_at ws (i + suc n) ∷ [])) (boxes_first i n)
      ∙ ap (λ l. box_at ws i ∷ l) (sym (boxes_last (suc i) n (i + suc n) (omega arith)))
