-- What the chains are after a clip more is stored, and what a clip's second box is worth. Assumes nothing.
use mathlib.Core.Path.{◌≡◌, refl, sym, ap, ◌∙◌}
use mathlib.Core.List.{List, [], ◌∷◌, ◌++◌}
use Prim.Native.Nat.{ℕ, zero, suc, ◌+◌, ◌-◌, ◌*◌, ◌≤◌, ◌<◌}
use native.Mathlib.Omega.{arith}
use native.Mathlib.Numerals.{add-one}
use lib.Dec.{eqb}
use lib.ListN.{length, get_or, set, length-set, length-append}
use lib.Seq.{get_or-set_same, get_or-set_other}
use lib.Ieee.{Float}
use borrow.Author.Tests.{eq-eqb, ne_eqb}
use Rattle.base_lists.proofs.Picks.{pick_true, pick_false, le_or_lt}
use mathlib.Core.Logic.{◌⊎◌, inl, inr, ⊎_elim}
use Rattle.kurbo_geometry.specs.declared.Rect.{Rect}
use Rattle.kurbo_geometry.specs.Boxes.{intersect}
use Rattle.display_list_commands.specs.Bounds.{clip_box, clipped}
use Rattle.display_list_commands.proofs.Clips.{clip_first, clip_last, clipped_some}
use Rattle.base_rect_words.specs.Words.{rect_from, put_rect}
use Rattle.base_rect_words.proofs.Stores.{length_put, rect_same, rect_before}
use Rattle.display_list_clips.specs.Chains.{clip_at, all_at, below_at, chain_from, chain, clip_rect, Chained, Clips, all_with, put_clip, Room}

-- ---- a chain's first steps
pub chain_none : (bs : List Float) (ns : List ℕ) → chain bs ns 0 ≡ []
unfolding chain_from
chain_none bs ns = refl

step : (k : ℕ) (bs : List Float) (ns : List ℕ) (x : ℕ) → 0 < x → chain_from (suc k) bs ns x ≡ chain_from k bs ns (below_at ns x) ++ (clip_at bs x ∷ [])
unfolding chain_from
step k bs ns x h = let z : x ≡ 0 → ⊥ = λ e. omega arith in rw (ne_eqb x 0 z)

stop : (k : ℕ) (bs : List Float) (ns : List ℕ) (x : ℕ) → x ≤ 0 → chain_from k bs ns x ≡ []
unfolding chain_from
stop zero bs ns x h = refl
stop (suc k) bs ns x h = let z : x ≡ 0 = omega arith in rw (eq-eqb x 0 z)

-- ---- two spaces whose first n clips agree have the same chains, in any number of steps that is enough
pub record Agree (n : ℕ) (bs : List Float) (ns : List ℕ) (cs : List Float) (ms : List ℕ) : Type 0 where
  pub clip : (x : ℕ) → 0 < x → x ≤ n → clip_at cs x ≡ clip_at bs x
  pub all : (x : ℕ) → 0 < x → x ≤ n → all_at cs x ≡ all_at bs x
  pub below : (x : ℕ) → 0 < x → x ≤ n → below_at ms x ≡ below_at ns x

module _ (n : ℕ) (bs : List Float) (ns : List ℕ) (cs : List Float) (ms : List ℕ) (c : Chained n bs ns) (a : Agree n bs ns cs ms) where
  lower : (x : ℕ) → 0 < x → x ≤ n → below_at ns x < x
  lower x h l = let k = c.lower (x - 1) (omega arith) in omega arith

  agree : (j k x : ℕ) → x ≤ n → x ≤ j → x ≤ k → chain_from j cs ms x ≡ chain_from k bs ns x
  agree zero k x l p q = stop zero cs ms x p ∙ sym (stop k bs ns x p)
  agree (suc j) zero x l p q = stop (suc j) cs ms x q ∙ sym (stop zero bs ns x q)
  agree (suc j) (suc k) x l p q = go (agree j k) (le_or_lt x 0)
    where
      go : ((y : ℕ) → y ≤ n → y ≤ j → y ≤ k → chain_from j cs ms y ≡ chain_from k bs ns y) → (x ≤ 0) ⊎ (0 < x) → chain_from (suc j) cs ms x ≡ chain_from (suc k) bs ns x
      go f (inl h) = stop (suc j) cs ms x h ∙ sym (stop (suc k) bs ns x h)
      go f (inr h) =
          let m = lower x h l in
          step j cs ms x h ∙ (λ i. chain_from j cs ms (a.below x h l i) ++ (a.clip x h l i ∷ [])) ∙ ap (λ (z : List Rect). z ++ (clip_at bs x ∷ [])) (f (below_at ns x) (omega arith) (omega arith) (omega arith)) ∙ sym (step k bs ns x h)

  pub chain_agree : (x : ℕ) → x ≤ n → chain cs ms x ≡ chain bs ns x
  chain_agree x l = agree x x x l (omega arith) (omega arith)

agree_self : (n : ℕ) (bs : List Float) (ns : List ℕ) → Agree n bs ns bs ns
agree_self n bs ns = record { clip = λ x h l. refl; all = λ x h l. refl; below = λ x h l. refl }

-- ---- a chain is the chain below it, and the clip itself
pub chain_step : (n : ℕ) (bs : List Float) (ns : List ℕ) → Chained n bs ns → (x : ℕ) → 0 < x → x ≤ n → chain bs ns x ≡ chain bs ns (below_at ns x) ++ (clip_at bs x ∷ [])
chain_step n bs ns c zero h l = absurd (omega arith)
chain_step n bs ns c (suc x) h l =
    let k = c.lower (suc x - 1) (omega arith) in
    step x bs ns (suc x) h ∙ ap (λ (z : List Rect). z ++ (clip_at bs (suc x) ∷ [])) (agree n bs ns bs ns c (agree_self n bs ns) x (below_at ns (suc x)) (below_at ns (suc x)) (omega arith) (omega arith) (omega arith))

pub chain_some : (n : ℕ) (bs : List Float) (ns : List ℕ) → Chained n bs ns → (x : ℕ) → 0 < x → x ≤ n → 0 < length (chain bs ns x)
chain_some n bs ns c x h l = rw (chain_step n bs ns c x h l) (omega (arith, length-append (chain bs ns (below_at ns x)) (clip_at bs x ∷ [])))

-- ---- a box cut by the second box of a clip is cut by all clips up to it
pub clip_rect_is : (n : ℕ) (bs : List Float) (ns : List ℕ) → Clips n bs ns → (x : ℕ) → x ≤ n → (b : Rect) → clip_rect bs x b ≡ clipped (chain bs ns x) b
unfolding clip_rect
clip_rect_is n bs ns c x l b = ⊎_elim
    (λ (h : x ≤ 0). let z : x ≡ 0 = omega arith in rw (eq-eqb x 0 z, stop x bs ns x h))
    (λ (h : 0 < x). pick_false (eqb x 0) b (intersect b (all_at bs x)) (ne_eqb x 0 (λ e. omega arith)) ∙ ap (λ (z : Rect). intersect b z) (c.cut x h l) ∙ sym (clipped_some (chain bs ns x) b (chain_some n bs ns c.chained x h l)))
    (le_or_lt x 0)

-- ---- one clip more: the n clips stay as they are, and the new one stands on number y
pub length_clip : (n y : ℕ) (bs : List Float) (b : Rect) → length (put_clip bs n y b) ≡ length bs
unfolding put_clip
length_clip n y bs b = length_put (put_rect bs (8 * n) b) (8 * n + 4) (all_with bs y b) ∙ length_put bs (8 * n) b

module _ (n y : ℕ) (bs : List Float) (ns : List ℕ) (b : Rect) (c : Clips n bs ns) (r : Room n y bs ns) where
  abbrev cs : List Float
  cs = put_clip bs n y b

  abbrev ms : List ℕ
  ms = set ns n y

  kept : (i : ℕ) → i + 4 ≤ 8 * n → rect_from cs i ≡ rect_from bs i
  unfolding put_clip
  kept i h = rect_before (put_rect bs (8 * n) b) (8 * n + 4) i (all_with bs y b) (omega arith) ∙ rect_before bs (8 * n) i b h

  pub put_agree : Agree n bs ns cs ms
  put_agree = record {
    clip = λ x h l. kept (8 * (x - 1)) (omega arith);
    all = λ x h l. kept (8 * (x - 1) + 4) (omega arith);
    below = λ x h l. get_or-set_other ns n (x - 1) y 0 (λ e. omega arith);
  }

  -- earlier clips keep their chains
  pub put_kept : (x : ℕ) → x ≤ n → chain cs ms x ≡ chain bs ns x
  put_kept x l = chain_agree n bs ns cs ms c.chained put_agree x l

  -- the words of the new clip
  own_word : rect_from cs (8 * n) ≡ b
  unfolding put_clip
  own_word = rect_before (put_rect bs (8 * n) b) (8 * n + 4) (8 * n) (all_with bs y b) (omega arith) ∙ rect_same bs (8 * n) b (let h = r.boxes in omega arith)

  all_word : rect_from cs (8 * n + 4) ≡ all_with bs y b
  unfolding put_clip
  all_word = rect_same (put_rect bs (8 * n) b) (8 * n + 4) (all_with bs y b) (omega (arith, r.boxes, length_put bs (8 * n) b))

  back : n + 1 - 1 ≡ n
  back = omega arith

  below_word : below_at ms (n + 1) ≡ y
  below_word = ap (λ (k : ℕ). get_or ms k 0) back ∙ get_or-set_same ns n y 0 r.numbers

  pub put_clip_at : clip_at cs (n + 1) ≡ b
  put_clip_at = ap (λ (k : ℕ). rect_from cs (8 * k)) back ∙ own_word

  put_all_at : all_at cs (n + 1) ≡ all_with bs y b
  put_all_at = ap (λ (k : ℕ). rect_from cs (8 * k + 4)) back ∙ all_word

  -- its chain is that of the number below, and its own box
  pub put_chain : chain cs ms (n + 1) ≡ chain bs ns y ++ (b ∷ [])
  put_chain =
      ap (λ (k : ℕ). chain_from k cs ms (n + 1)) (add-one n) ∙ step n cs ms (n + 1) (omega arith)
      ∙ (λ i. chain_from n cs ms (below_word i) ++ (put_clip_at i ∷ []))
      ∙ ap (λ (z : List Rect). z ++ (b ∷ [])) (agree n bs ns cs ms c.chained put_agree n y y r.lower r.lower (omega arith))

  -- its second box is the active clip box of that chain
  all_with_is : all_with bs y b ≡ clip_box (chain bs ns y ++ (b ∷ []))
  unfolding all_with
  all_with_is = ⊎_elim
      (λ (h : y ≤ 0). pick_true (eqb y 0) b (intersect (all_at bs y) b) (eq-eqb y 0 (omega arith)) ∙ sym (ap (λ (l : List Rect). clip_box (l ++ (b ∷ []))) (stop y bs ns y h) ∙ clip_first b))
      (λ (h : 0 < y). pick_false (eqb y 0) b (intersect (all_at bs y) b) (ne_eqb y 0 (λ e. omega arith)) ∙ ap (λ (z : Rect). intersect z b) (c.cut y h r.lower) ∙ sym (clip_last (chain bs ns y) b (chain_some n bs ns c.chained y h r.lower)))
      (le_or_lt y 0)

  lower_new : (k : ℕ) → k < n + 1 → get_or ms k 0 ≤ k
  lower_new k h = ⊎_elim
      (λ (l : n ≤ k). let e : k ≡ n = omega arith in rw (e, get_or-set_same ns n y 0 r.numbers) r.lower)
      (λ (l : k < n). let z : k ≡ n → ⊥ = λ e. omega arith in rw (get_or-set_other ns n k y 0 z) (c.chained.lower k l))
      (le_or_lt n k)

  cut_new : (x : ℕ) → 0 < x → x ≤ n + 1 → all_at cs x ≡ clip_box (chain cs ms x)
  cut_new x h l = ⊎_elim
      (λ (k : n + 1 ≤ x). let e : x ≡ n + 1 = omega arith in rw e (put_all_at ∙ all_with_is ∙ ap clip_box (sym put_chain)))
      (λ (k : x < n + 1). put_agree.all x h (omega arith) ∙ c.cut x h (omega arith) ∙ ap clip_box (sym (put_kept x (omega arith))))
      (le_or_lt (n + 1) x)

  pub put_clips : Clips (n + 1) cs ms
  put_clips = record {
    chained = record { boxes = omega (arith, r.boxes, length_clip n y bs b); numbers = omega (arith, r.numbers, length-set ns n y); lower = lower_new };
    cut = cut_new;
  }

-- before the first clip
pub no_clips : (bs : List Float) (ns : List ℕ) → Clips 0 bs ns
no_clips bs ns = record { chained = record { boxes = omega arith; numbers = omega arith; lower = λ k h. absurd (omega arith) }; cut = λ x h l. absurd (omega arith) }
