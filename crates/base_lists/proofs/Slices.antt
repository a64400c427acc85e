-- A slice that is written from the front, one element a turn, for elements of any type. Assumes nothing.
use mathlib.Core.Path.{◌≡◌, refl, sym, ap, ◌∙◌}
use mathlib.Core.List.{List, [], ◌∷◌, ◌++◌, append_assoc}
use Prim.Native.Nat.{ℕ, suc, ◌+◌, ◌≤◌, ◌<◌}
use native.Mathlib.Omega.{arith}
use native.Mathlib.Numerals.{add-one}
use lib.ListN.{length, take, drop, get_or, set, length-set}
use lib.Seq.{drop-cons, set_at, take-suc, take_at, length-take-le}

-- Of n elements of `src` that are to replace the first n of `old`, i have done so, and the list is now `xs`.
pub record Copied {A : Type 0} (src : List A) (n : ℕ) (old xs : List A) (i : ℕ) : Type 0 where
  pub passed : i ≤ n
  pub source : n ≤ length src
  pub room : n ≤ length old
  pub same_length : length xs ≡ length old
  pub is : xs ≡ take i src ++ drop i old

module _ {A : Type 0} where
  -- a store behind the front makes the front one longer
  pub store_next : (front old : List A) (i : ℕ) (v : A) → length front ≡ i → i < length old → set (front ++ drop i old) i v ≡ (front ++ v ∷ []) ++ drop (i + 1) old
  store_next front old i v c h =
      rw (add-one i, drop-cons old i v h) (set_at front _ _ v i c ∙ sym (append_assoc front (v ∷ []) (drop (suc i) old)))

  -- before the first turn
  pub copy_none : {src old : List A} {n : ℕ} → n ≤ length src → n ≤ length old → Copied src n old old 0
  copy_none s r = record { passed = omega arith; source = s; room = r; same_length = refl; is = refl }

  -- a turn: v, the next element of `src`, is stored
  pub copy_next : {src old xs : List A} {n i : ℕ} (v d : A) → Copied src n old xs i → i < n → get_or src i d ≡ v → Copied src n old (set xs i v) (i + 1)
  copy_next {src} {old} {xs} {n} {i} v d w h e =
      let s : i < length src = omega arith in
      let o : i < length old = omega arith in
      record {
        passed = omega arith;
        source = w.source;
        room = w.room;
        same_length = length-set xs i v ∙ w.same_length;
        is = rw (w.is, ← e) (store_next (take i src) old i (get_or src i d) (length-take-le i src (omega arith)) o
            ∙ rw (add-one i, take-suc src i d s) refl);
      }

  -- after the last turn
  pub copy_all : {src old xs : List A} {n i : ℕ} → Copied src n old xs i → n ≤ i → xs ≡ take n src ++ drop n old
  copy_all {src} {old} {xs} {n} {i} w h = let e : i ≡ n = omega arith in w.is ∙ ap (λ k. take k src ++ drop k old) e

  -- the front of a list that begins with n known elements
  pub front_of : (xs front rest : List A) (n : ℕ) → xs ≡ front ++ rest → length front ≡ n → take n xs ≡ front
  front_of xs front rest n e h = ap (take n) e ∙ take_at front rest n h
