-- Rectangles in lent space and their words: the first n of them, and a list whose words stand in front. Assumes nothing.
use mathlib.Core.Path.{◌≡◌, refl, sym, ap, ◌∙◌}
use mathlib.Core.List.{List, [], ◌∷◌, ◌++◌, append_assoc}
use Prim.Native.Nat.{ℕ, zero, suc, ◌+◌, ◌*◌, ◌/◌, ◌≤◌, ◌<◌}
use native.Mathlib.Omega.{arith}
use lib.ListN.{length, take, get_or}
use lib.Seq.{take-suc, get_or-take, length-take-le}
use lib.Ieee.{Float, nan}
use Rattle.kurbo_geometry.specs.declared.Rect.{Rect}
use Rattle.base_rect_words.specs.Words.{rect_from, boxes_to}
use Rattle.base_rect_list.specs.Rects.{words_of_rects}
use Rattle.base_rect_words.proofs.Lists.{boxes_are}

words_append : (a b : List Rect) → words_of_rects (a ++ b) ≡ words_of_rects a ++ words_of_rects b
unfolding words_of_rects
words_append [] b = refl
words_append (r ∷ a) b = ap (λ (l : List Float). r.x0 ∷ r.y0 ∷ r.x1 ∷ r.y1 ∷ l) (words_append a b)

four : (r : Rect) → words_of_rects (r ∷ []) ≡ r.x0 ∷ r.y0 ∷ r.x1 ∷ r.y1 ∷ []
unfolding words_of_rects
four r = refl

-- one word more, as often as a box has words
next_four : (xs : List Float) (i : ℕ) → i + 4 ≤ length xs → take (i + 4) xs ≡ take i xs ++ (get_or xs i nan ∷ get_or xs (i + 1) nan ∷ get_or xs (i + 2) nan ∷ get_or xs (i + 3) nan ∷ [])
next_four xs i h =
    let a : i + 4 ≡ suc (i + 3) = omega arith in
    let b : i + 3 ≡ suc (i + 2) = omega arith in
    let c : i + 2 ≡ suc (i + 1) = omega arith in
    let d : i + 1 ≡ suc i = omega arith in
    ap (λ (n : ℕ). take n xs) a ∙ take-suc xs (i + 3) nan (omega arith)
    ∙ ap (λ (l : List Float). l ++ (get_or xs (i + 3) nan ∷ [])) (ap (λ (n : ℕ). take n xs) b ∙ take-suc xs (i + 2) nan (omega arith)
    ∙ ap (λ (l : List Float). l ++ (get_or xs (i + 2) nan ∷ [])) (ap (λ (n : ℕ). take n xs) c ∙ take-suc xs (i + 1) nan (omega arith)
    ∙ ap (λ (l : List Float). l ++ (get_or xs (i + 1) nan ∷ [])) (ap (λ (n : ℕ). take n xs) d ∙ take-suc xs i nan (omega arith))))
    ∙ append_assoc (take i xs ++ (get_or xs i nan ∷ []) ++ (get_or xs (i + 1) nan ∷ [])) (get_or xs (i + 2) nan ∷ []) (get_or xs (i + 3) nan ∷ [])
    ∙ append_assoc (take i xs ++ (get_or xs i nan ∷ [])) (get_or xs (i + 1) nan ∷ []) (get_or xs (i + 2) nan ∷ get_or xs (i + 3) nan ∷ [])
    ∙ append_assoc (take i xs) (get_or xs i nan ∷ []) (get_or xs (i + 1) nan ∷ get_or xs (i + 2) nan ∷ get_or xs (i + 3) nan ∷ [])

-- the same of a part that has as many words
rect_front : (m : ℕ) (xs : List Float) (i : ℕ) → i + 4 ≤ m → rect_from (take m xs) i ≡ rect_from xs i
rect_front m xs i h =
    let a = get_or-take m xs i nan (omega arith) in
    let b = get_or-take m xs (i + 1) nan (omega arith) in
    let c = get_or-take m xs (i + 2) nan (omega arith) in
    let e = get_or-take m xs (i + 3) nan (omega arith) in
    λ j. record { x0 = a j; y0 = b j; x1 = c j; y1 = e j }

boxes_front : (m : ℕ) (xs : List Float) (n : ℕ) → 4 * n ≤ m → boxes_to (take m xs) n ≡ boxes_to xs n
unfolding boxes_to
boxes_front m xs zero h = refl
boxes_front m xs (suc n) h =
    let a = boxes_front m xs n (omega arith) in
    let b = rect_front m xs (4 * n) (omega arith) in
    λ j. a j ++ (b j ∷ [])

pub part_count : (xs : List Float) (n : ℕ) → 4 * n ≤ length xs → length (take (4 * n) xs) / 4 ≡ n
part_count xs n h = omega (arith, length-take-le (4 * n) xs h)

pub part_boxes : (xs : List Float) (n : ℕ) → 4 * n ≤ length xs → boxes_to (take (4 * n) xs) (length (take (4 * n) xs) / 4) ≡ boxes_to xs n
part_boxes xs n h = ap (boxes_to (take (4 * n) xs)) (part_count xs n h) ∙ boxes_front (4 * n) xs n (omega arith)

-- their words are the first 4 * n of the space
pub rects_words : (xs : List Float) (n : ℕ) → 4 * n ≤ length xs → take (4 * n) xs ≡ words_of_rects (boxes_to xs n)
unfolding boxes_to
rects_words xs zero h = unfold words_of_rects in refl
rects_words xs (suc n) h =
    let e : 4 * suc n ≡ 4 * n + 4 = omega arith in
    ap (λ (k : ℕ). take k xs) e
    ∙ next_four xs (4 * n) (omega arith)
    ∙ ap (λ (l : List Float). l ++ (get_or xs (4 * n) nan ∷ get_or xs (4 * n + 1) nan ∷ get_or xs (4 * n + 2) nan ∷ get_or xs (4 * n + 3) nan ∷ [])) (rects_words xs n (omega arith))
    ∙ ap (λ (l : List Float). words_of_rects (boxes_to xs n) ++ l) (sym (four (rect_from xs (4 * n))))
    ∙ sym (words_append (boxes_to xs n) (rect_from xs (4 * n) ∷ []))

-- ---- and a list whose words stand in front is the list there
rect_of_words : (l : List Rect) (i : ℕ) (d : Rect) → i < length l → rect_from (words_of_rects l) (4 * i) ≡ get_or l i d
unfolding words_of_rects
rect_of_words [] i d h = absurd (omega arith)
rect_of_words (r ∷ l) zero d h = refl
rect_of_words (r ∷ l) (suc i) d h =
    let z : 4 * suc i ≡ suc (suc (suc (suc (4 * i)))) = omega arith in
    let a : 4 * suc i + 1 ≡ suc (suc (suc (suc (4 * i + 1)))) = omega arith in
    let b : 4 * suc i + 2 ≡ suc (suc (suc (suc (4 * i + 2)))) = omega arith in
    let c : 4 * suc i + 3 ≡ suc (suc (suc (suc (4 * i + 3)))) = omega arith in
    rw (a, b, c, z) (rect_of_words l i d (omega arith))

pub rects_back : (l : List Rect) (xs : List Float) (d : Rect) → take (4 * length l) xs ≡ words_of_rects l → boxes_to xs (length l) ≡ l
rects_back l xs d h = boxes_are xs l d (λ i k. sym (rect_front (4 * length l) xs (4 * i) (omega arith)) ∙ ap (λ (ws : List Float). rect_from ws (4 * i)) h ∙ rect_of_words l i d k)
