-- What changed between two lists, step by step, and the same boxes read from lent space. Assumes nothing.
use mathlib.Core.Path.{◌≡◌, refl, sym, ap, ◌∙◌}
use mathlib.Core.List.{List, [], ◌∷◌, ◌++◌, map, append-nil}
use mathlib.Core.Logic.{◌⊎◌, inl, inr, ⊎_elim}
use Prim.Native.Nat.{ℕ, zero, suc, ◌+◌, ◌-◌, ◌*◌, ◌≤◌, ◌<◌, min}
use native.Mathlib.Omega.{arith}
use lib.ListN.{drop}
use lib.Ieee.{Float}
use Rattle.base_lists.proofs.Picks.{le_or_lt}
use Rattle.kurbo_geometry.specs.declared.Rect.{Rect}
use Rattle.display_list_commands.specs.Bounds.{Command, bounds}
use Rattle.display_list_changes.specs.declared.Change.{Change}
use Rattle.display_list_changes.specs.Changes.{rects_of, changed_bounds, diff_dirty}
use Rattle.display_list_stored.specs.Stored.{Stored, command_in, commands_in}
use Rattle.display_list_stored.proofs.Places.{commands_end, commands_next, boxes_beside}
use Rattle.base_rect_words.specs.Words.{box_at, boxes_to}
use Rattle.base_rect_words.proofs.Lists.{boxes_last}
use Rattle.runtime.specs.Placed.{Tells}

-- ---- the boxes of a remainder
pub boxes_end : (ibs : List Float) (p i : ℕ) → i ≤ 0 → boxes_to (drop (4 * p) ibs) i ≡ []
unfolding boxes_to
boxes_end ibs p zero h = refl
boxes_end ibs p (suc i) h = absurd (omega arith)

-- one more, at their end
pub boxes_more : (ibs : List Float) (p i : ℕ) {b : Rect} → b ≡ box_at ibs (p + i) → boxes_to (drop (4 * p) ibs) (i + 1) ≡ boxes_to (drop (4 * p) ibs) i ++ (b ∷ [])
boxes_more ibs p i e =
    let v : i + 1 ≡ suc i = omega arith in
    ap (boxes_to (drop (4 * p) ibs)) v ∙ boxes_last ibs p i (p + i) refl ∙ ap (λ (c : Rect). boxes_to (drop (4 * p) ibs) i ++ (c ∷ [])) (sym e)

-- ---- lists
-- only one goes on
only_new : (cs : List Command) → diff_dirty [] cs ≡ map bounds cs
unfolding diff_dirty
only_new [] = refl
only_new (c ∷ cs) = ap (λ l. bounds c ∷ l) (only_new cs)

only_old : (cs : List Command) → diff_dirty cs [] ≡ map bounds cs
unfolding diff_dirty
only_old [] = refl
only_old (c ∷ cs) = ap (λ l. bounds c ∷ l) (only_old cs)

module _ (s : List ℕ) (bs : List Float) (ns is : List ℕ) where
  pub diff_next : (p i q j : ℕ) → 0 < i → (j ≡ 0 → ⊥) → diff_dirty (commands_in s bs ns is p i) (commands_in s bs ns is q j) ≡ changed_bounds (command_in s bs ns is p) (command_in s bs ns is q) ++ diff_dirty (commands_in s bs ns is (p + 1) (i - 1)) (commands_in s bs ns is (q + 1) (j - 1))
  unfolding diff_dirty
  diff_next p i q j h k = λ t. diff_dirty (commands_next s bs ns is p i h t) (commands_next s bs ns is q j (omega arith) t)

  module _ (ibs : List Float) (n : ℕ) (w : Stored n s bs ns is ibs) where
    new_boxes : (q j : ℕ) → q + j ≤ n → diff_dirty [] (commands_in s bs ns is q j) ≡ boxes_to (drop (4 * q) ibs) j
    new_boxes q j h = only_new (commands_in s bs ns is q j) ∙ boxes_beside s bs ns is ibs n w q j h

    old_boxes : (p i : ℕ) → p + i ≤ n → diff_dirty (commands_in s bs ns is p i) [] ≡ boxes_to (drop (4 * p) ibs) i
    old_boxes p i h = only_old (commands_in s bs ns is p i) ∙ boxes_beside s bs ns is ibs n w p i h

    pub diff_new : (p i q j : ℕ) → q + j ≤ n → i ≤ 0 → diff_dirty (commands_in s bs ns is p i) (commands_in s bs ns is q j) ≡ boxes_to (drop (4 * q) ibs) j
    diff_new p i q j h e = ap (λ l. diff_dirty l (commands_in s bs ns is q j)) (commands_end s bs ns is p i e) ∙ new_boxes q j h

    pub diff_old : (p i q j : ℕ) → p + i ≤ n → j ≡ 0 → diff_dirty (commands_in s bs ns is p i) (commands_in s bs ns is q j) ≡ boxes_to (drop (4 * p) ibs) i
    diff_old p i q j h e = ap (diff_dirty (commands_in s bs ns is p i)) (commands_end s bs ns is q j (omega arith)) ∙ old_boxes p i h

    -- of two lists of which one ends, the boxes of both: those of the other alone
    pub diff_tails : (p i q j : ℕ) → p + i ≤ n → q + j ≤ n → (i ≡ 0) ⊎ (j ≡ 0) → diff_dirty (commands_in s bs ns is p i) (commands_in s bs ns is q j) ≡ boxes_to (drop (4 * p) ibs) i ++ boxes_to (drop (4 * q) ibs) j
    diff_tails p i q j h k (inl e) = diff_new p i q j k (omega arith) ∙ ap (λ l. l ++ boxes_to (drop (4 * q) ibs) j) (sym (boxes_end ibs p i (omega arith)))
    diff_tails p i q j h k (inr e) = diff_old p i q j h e ∙ sym (append-nil (boxes_to (drop (4 * p) ibs) i)) ∙ ap (λ l. boxes_to (drop (4 * p) ibs) i ++ l) (sym (boxes_end ibs q j (omega arith)))

  -- ---- two lists of so many commands, one behind the other: what changed from place k on
  module _ (old new : ℕ) where
    abbrev pub changed_from : ℕ → List Rect
    changed_from k = diff_dirty (commands_in s bs ns is k (old - k)) (commands_in s bs ns is (old + k) (new - k))

    pub changed_start : diff_dirty (commands_in s bs ns is 0 old) (commands_in s bs ns is old new) ≡ changed_from 0
    changed_start =
        let e : old ≡ old - 0 = omega arith in
        let f : old ≡ old + 0 = omega arith in
        let g : new ≡ new - 0 = omega arith in
        λ t. diff_dirty (commands_in s bs ns is 0 (e t)) (commands_in s bs ns is (f t) (g t))

    changed_next : (k : ℕ) → k < old → k < new → changed_from k ≡ changed_bounds (command_in s bs ns is k) (command_in s bs ns is (old + k)) ++ changed_from (k + 1)
    changed_next k h l =
        let e : old - k - 1 ≡ old - (k + 1) = omega arith in
        let f : old + k + 1 ≡ old + (k + 1) = omega arith in
        let g : new - k - 1 ≡ new - (k + 1) = omega arith in
        diff_next k (old - k) (old + k) (new - k) (omega arith) (λ z. omega arith)
        ∙ (λ t. changed_bounds (command_in s bs ns is k) (command_in s bs ns is (old + k)) ++ diff_dirty (commands_in s bs ns is (k + 1) (e t)) (commands_in s bs ns is (f t) (g t)))

    pub changed_told : (k : ℕ) → k < old → k < new → {x : Change} → Tells x (command_in s bs ns is k) (command_in s bs ns is (old + k)) → changed_from k ≡ rects_of x (command_in s bs ns is k) (command_in s bs ns is (old + k)) ++ changed_from (k + 1)
    changed_told k h l w = changed_next k h l ∙ ap (λ m. m ++ changed_from (k + 1)) (sym w.rects)

    pub changed_rest : (ibs : List Float) → Stored (old + new) s bs ns is ibs → (k m : ℕ) → k ≡ m → m ≡ min old new → changed_from k ≡ boxes_to (drop (4 * m) ibs) (old - m) ++ boxes_to (drop (4 * (old + m)) ibs) (new - m)
    changed_rest ibs w k m e f = ap changed_from e ∙ diff_tails ibs (old + new) w m (old - m) (old + m) (new - m) (omega arith) (omega arith) (⊎_elim (λ (h : old ≤ new). inl (omega arith)) (λ (h : new < old). inr (omega arith)) (le_or_lt old new))
