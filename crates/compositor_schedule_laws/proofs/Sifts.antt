-- The members of a list that pass a test. Assumes nothing.
use mathlib.Core.Path.{◌≡◌, refl, sym, ap, ◌∙◌}
use mathlib.Core.Bool.{Bool, true, false}
use mathlib.Core.List.{List, [], ◌∷◌, ◌++◌}
use Prim.Native.Nat.{ℕ, suc}
use native.Mathlib.Omega.{arith}
use borrow.Author.Tests.{lt-ltb, le-ltb, eq-eqb, ne_eqb}
use lib.Dec.{ltb, eqb}
use Rattle.base_lists.specs.Pick.{pick}
use Rattle.base_lists.specs.Members.{All, Pairs}
use Rattle.base_lists.proofs.Picks.{by_le}
use Rattle.base_lists.proofs.Members.{all_map}
use Rattle.compositor_bands.proofs.Sorted.{Rises}

unfoldable pub sift : {A : Type 0} → (A → Bool) → List A → List A
sift t [] = []
sift t (a ∷ l) = pick (t a) (a ∷ sift t l) (sift t l)

module _ {A : Type 0} (t : A → Bool) where
  pub sift_empty : sift t [] ≡ []
  unfolding sift
  sift_empty = refl

  pub sift_yes : (a : A) (l : List A) → t a ≡ true → sift t (a ∷ l) ≡ a ∷ sift t l
  unfolding sift
  sift_yes a l e = rw e refl

  pub sift_no : (a : A) (l : List A) → t a ≡ false → sift t (a ∷ l) ≡ sift t l
  unfolding sift
  sift_no a l e = rw e refl

  pub sift_all : (l : List A) → All (λ a. t a ≡ true) l → sift t l ≡ l
  unfolding All sift
  sift_all [] h = refl
  sift_all (a ∷ l) h = rw h.0 (ap (λ m. a ∷ m) (sift_all l h.1))

  pub sift_none : (l : List A) → All (λ a. t a ≡ false) l → sift t l ≡ []
  unfolding All sift
  sift_none [] h = refl
  sift_none (a ∷ l) h = rw h.0 (sift_none l h.1)

  pub all_sift : (P Q : A → Type 0) → ((a : A) → P a → t a ≡ true → Q a) → (l : List A) → All P l → All Q (sift t l)
  unfolding All sift
  all_sift P Q f [] h = tt
  all_sift P Q f (a ∷ l) h = by (t a) refl (all_sift P Q f l h.1)
    where
      by : (s : Bool) → t a ≡ s → All Q (sift t l) → All Q (pick s (a ∷ sift t l) (sift t l))
      by true e q = (f a h.0 e, q)
      by false e q = q

  pub pairs_sift : (R : A → A → Type 0) (l : List A) → Pairs R l → Pairs R (sift t l)
  unfolding Pairs sift
  pairs_sift R [] h = tt
  pairs_sift R (a ∷ l) h = by (t a) (pairs_sift R l h.1)
    where
      by : (s : Bool) → Pairs R (sift t l) → Pairs R (pick s (a ∷ sift t l) (sift t l))
      by true q = (all_sift (R a) (R a) (λ b p e. p) l h.0, q)
      by false q = q

-- where a number ascends, those below j and then those at j are those below the next
module _ {A : Type 0} (key : A → ℕ) (j : ℕ) where
  abbrev below : A → Bool
  below a = ltb (key a) j

  abbrev here : A → Bool
  here a = eqb (key a) j

  abbrev next : A → Bool
  next a = ltb (key a) (suc j)

  nothing : sift below [] ++ sift here [] ≡ sift next []
  unfolding sift
  nothing = refl

  pub sift_next : (l : List A) → Pairs (Rises key) l → sift below l ++ sift here l ≡ sift next l
  unfolding Pairs
  sift_next [] h = nothing
  sift_next (a ∷ l) h = by_le (key a) j
      (λ g. by_le j (key a)
      (λ k. let e : key a ≡ j = omega arith in
      let z : sift below l ≡ [] = sift_none below l (all_map (Rises key a) (λ b. ltb (key b) j ≡ false) (λ b x. le-ltb (key b) j (omega arith)) l h.0) in
      (λ i. (sift_no below a l (le-ltb (key a) j k) ∙ z) i ++ sift_yes here a l (eq-eqb (key a) j e) i)
      ∙ ap (λ m. a ∷ m) (ap (λ m. m ++ sift here l) (sym z) ∙ sift_next l h.1)
      ∙ sym (sift_yes next a l (lt-ltb (key a) (suc j) (omega arith))))
      (λ k. (λ i. sift_yes below a l (lt-ltb (key a) j k) i ++ sift_no here a l (ne_eqb (key a) j (λ z. omega arith)) i)
      ∙ ap (λ m. a ∷ m) (sift_next l h.1)
      ∙ sym (sift_yes next a l (lt-ltb (key a) (suc j) (omega arith)))))
      (λ g. (λ i. sift_no below a l (le-ltb (key a) j (omega arith)) i ++ sift_no here a l (ne_eqb (key a) j (λ z. omega arith)) i)
      ∙ sift_next l h.1 ∙ sym (sift_no next a l (le-ltb (key a) (suc j) g)))
