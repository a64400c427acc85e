-- Laws of `All`, `Any`, `Pairs` and `In`, for lists of anything. Assumes nothing.
use mathlib.Core.Path.{◌≡◌, refl, sym, ap, subst}
use mathlib.Core.Logic.{◌⊎◌, inl, inr, ⊎_elim}
use mathlib.Core.List.{List, [], ◌∷◌, ◌++◌, map}
use Prim.Native.Nat.{ℕ, zero, suc, ◌<◌}
use native.Mathlib.Nat.{not-suc-le-zero, le_of_suc-le-suc}
use lib.ListN.{length, get_or, take, drop, take-append-drop}
use Rattle.base_lists.specs.Members.{All, Any, Pairs, In}

-- ---- every member

module _ {A : Type 0} where
  -- an empty list has no member that lacks P
  pub all_none : (P : A → Type 0) → All P []
  unfolding All
  all_none P = tt

  -- what follows from P holds of every member where P does
  pub all_map : (P Q : A → Type 0) → ((a : A) → P a → Q a) → (l : List A) → All P l → All Q l
  unfolding All
  all_map P Q f [] h = tt
  all_map P Q f (a ∷ l) h = (f a h.0, all_map P Q f l h.1)

  -- what follows from P and Q holds of every member where both do
  pub all_both : (P Q S : A → Type 0) → ((a : A) → P a → Q a → S a) → (l : List A) → All P l → All Q l → All S l
  unfolding All
  all_both P Q S f [] h g = tt
  all_both P Q S f (a ∷ l) h g = (f a h.0 g.0, all_both P Q S f l h.1 g.1)

  -- where every member of two lists has P, every member of the two in a row has it
  pub all_append : (P : A → Type 0) (l r : List A) → All P l → All P r → All P (l ++ r)
  unfolding All
  all_append P [] r h g = g
  all_append P (a ∷ l) r h g = (h.0, all_append P l r h.1 g)

  -- the way back: every member of the first list has it
  pub all_left : (P : A → Type 0) (l r : List A) → All P (l ++ r) → All P l
  unfolding All
  all_left P [] r h = tt
  all_left P (a ∷ l) r h = (h.0, all_left P l r h.1)

  -- and every member of the second
  pub all_right : (P : A → Type 0) (l r : List A) → All P (l ++ r) → All P r
  unfolding All
  all_right P [] r h = h
  all_right P (a ∷ l) r h = all_right P l r h.1

  -- one more member in the middle
  pub all_middle : (P : A → Type 0) (a : A) (l r : List A) → P a → All P (l ++ r) → All P (l ++ a ∷ r)
  unfolding All
  all_middle P a l r p h = all_append P l (a ∷ r) (all_left P l r h) (p, all_right P l r h)

  -- the first n members
  pub all_take : (P : A → Type 0) (n : ℕ) (l : List A) → All P l → All P (take n l)
  all_take P n l h = all_left P (take n l) (drop n l) (rw take-append-drop h)

  -- and those behind them
  pub all_drop : (P : A → Type 0) (n : ℕ) (l : List A) → All P l → All P (drop n l)
  all_drop P n l h = all_right P (take n l) (drop n l) (rw take-append-drop h)

  -- what stands at a place has P
  pub all_at : (P : A → Type 0) (l : List A) (i : ℕ) (d : A) → All P l → i < length l → P (get_or l i d)
  unfolding All
  all_at P [] i d h k = absurd (not-suc-le-zero k)
  all_at P (a ∷ l) zero d h k = h.0
  all_at P (a ∷ l) (suc i) d h k = all_at P l i d h.1 (le_of_suc-le-suc k)

-- ---- some member

module _ {A : Type 0} where
  -- what follows from P holds of some member where P does
  pub any_map : (P Q : A → Type 0) → ((a : A) → P a → Q a) → (l : List A) → Any P l → Any Q l
  unfolding Any
  any_map P Q f [] h = h
  any_map P Q f (a ∷ l) h = ⊎_elim (λ g. inl (f a g)) (λ g. inr (any_map P Q f l g)) h

  -- some member of the first list is one of the two in a row
  pub any_left : (P : A → Type 0) (l r : List A) → Any P l → Any P (l ++ r)
  unfolding Any
  any_left P [] r h = absurd h
  any_left P (a ∷ l) r h = ⊎_elim (λ g. inl g) (λ g. inr (any_left P l r g)) h

  -- and so is some member of the second
  pub any_right : (P : A → Type 0) (l r : List A) → Any P r → Any P (l ++ r)
  unfolding Any
  any_right P [] r h = h
  any_right P (a ∷ l) r h = inr (any_right P l r h)

  -- the way back: it is in one of the two
  pub any_append : (P : A → Type 0) (l r : List A) → Any P (l ++ r) → Any P l ⊎ Any P r
  unfolding Any
  any_append P [] r h = inr h
  any_append P (a ∷ l) r h = ⊎_elim (λ g. inl (inl g)) (λ g. ⊎_elim (λ x. inl (inr x)) (λ x. inr x) (any_append P l r g)) h

  -- one more member in the middle
  pub any_middle : (P : A → Type 0) (a : A) (l r : List A) → P a ⊎ Any P (l ++ r) → Any P (l ++ a ∷ r)
  unfolding Any
  any_middle P a l r = ⊎_elim
      (λ p. any_right P l (a ∷ r) (inl p))
      (λ h. ⊎_elim (λ g. any_left P l (a ∷ r) g) (λ g. any_right P l (a ∷ r) (inr g)) (any_append P l r h))

  -- some member has what follows from a property of all and one of some
  pub all_any : (P Q S : A → Type 0) → ((a : A) → P a → Q a → S a) → (l : List A) → All P l → Any Q l → Any S l
  unfolding All Any
  all_any P Q S f [] h g = g
  all_any P Q S f (a ∷ l) h g = ⊎_elim (λ x. inl (f a h.0 x)) (λ x. inr (all_any P Q S f l h.1 x)) g

  -- the member that has P
  pub any_find : (P : A → Type 0) (l : List A) → Any P l → (a : A) × In a l × P a
  unfolding Any
  any_find P [] h = absurd h
  any_find P (a ∷ l) h = ⊎_elim (λ g. (a, inl refl, g)) (λ g. let z = any_find P l g in (z.0, inr z.1, z.2)) h

-- ---- a member

module _ {A : Type 0} where
  -- a member has what every member has
  pub in_all : (P : A → Type 0) (a : A) (l : List A) → In a l → All P l → P a
  unfolding All Any
  in_all P a [] i h = absurd i
  in_all P a (b ∷ l) i h = ⊎_elim (λ e. subst P (sym e) h.0) (λ j. in_all P a l j h.1) i

  -- every member has P where each that is in the list has it
  pub all_of : (P : A → Type 0) (l : List A) → ((a : A) → In a l → P a) → All P l
  unfolding All Any
  all_of P [] f = tt
  all_of P (a ∷ l) f = (f a (inl refl), all_of P l (λ b i. f b (inr i)))

  -- every member is a member
  pub all_in : (l : List A) → All (λ a. In a l) l
  all_in l = all_of (λ a. In a l) l (λ a i. i)

  -- a member that has P is some member that has it
  pub in_any : (P : A → Type 0) (a : A) (l : List A) → In a l → P a → Any P l
  in_any P a l i h = any_map (λ b. a ≡ b) P (λ b e. subst P e h) l i

-- ---- each member and every later one

module _ {A : Type 0} where
  -- an empty list has no pair that lacks R
  pub pairs_none : (R : A → A → Type 0) → Pairs R []
  unfolding Pairs
  pairs_none R = tt

  -- what follows from P of each and R of the two holds of every pair
  pub pairs_with : (P : A → Type 0) (R S : A → A → Type 0) → ((a b : A) → P a → P b → R a b → S a b) → (l : List A) → All P l → Pairs R l → Pairs S l
  unfolding All Pairs
  pairs_with P R S f [] h g = tt
  pairs_with P R S f (a ∷ l) h g = (all_both P (R a) (S a) (λ b p r. f a b h.0 p r) l h.1 g.0, pairs_with P R S f l h.1 g.1)

  -- what follows from Q and R of the two holds of every pair
  pub pairs_both : (Q R S : A → A → Type 0) → ((a b : A) → Q a b → R a b → S a b) → (l : List A) → Pairs Q l → Pairs R l → Pairs S l
  unfolding Pairs
  pairs_both Q R S f [] h g = tt
  pairs_both Q R S f (a ∷ l) h g = (all_both (Q a) (R a) (S a) (f a) l h.0 g.0, pairs_both Q R S f l h.1 g.1)

  -- what follows from R holds of every pair where R does
  pub pairs_map : (R S : A → A → Type 0) → ((a b : A) → R a b → S a b) → (l : List A) → Pairs R l → Pairs S l
  pairs_map R S f l h = pairs_both R R S (λ a b r _. f a b r) l h h

  -- the pairs of two lists in a row: those of each, and those of a member of the first and one of the second
  pub pairs_append : (R : A → A → Type 0) (l r : List A) → Pairs R l → Pairs R r → All (λ a. All (R a) r) l → Pairs R (l ++ r)
  unfolding All Pairs
  pairs_append R [] r h g x = g
  pairs_append R (a ∷ l) r h g x = (all_append (R a) l r h.0 x.0, pairs_append R l r h.1 g x.1)

  -- the way back: the pairs of the first list
  pub pairs_left : (R : A → A → Type 0) (l r : List A) → Pairs R (l ++ r) → Pairs R l
  unfolding Pairs
  pairs_left R [] r h = tt
  pairs_left R (a ∷ l) r h = (all_left (R a) l r h.0, pairs_left R l r h.1)

  -- those of the second
  pub pairs_right : (R : A → A → Type 0) (l r : List A) → Pairs R (l ++ r) → Pairs R r
  unfolding Pairs
  pairs_right R [] r h = h
  pairs_right R (a ∷ l) r h = pairs_right R l r h.1

  -- one more member in the middle, where R goes both ways
  pub pairs_middle : (R : A → A → Type 0) → ((a b : A) → R a b → R b a) → (a : A) (l r : List A) → All (R a) (l ++ r) → Pairs R (l ++ r) → Pairs R (l ++ a ∷ r)
  unfolding All Pairs
  pairs_middle R flip a [] r x h = (x, h)
  pairs_middle R flip a (b ∷ l) r x h = (all_middle (R b) a l r (flip a b x.0) h.0, pairs_middle R flip a l r x.1 h.1)

  -- the pairs of the first n members
  pub pairs_take : (R : A → A → Type 0) (n : ℕ) (l : List A) → Pairs R l → Pairs R (take n l)
  pairs_take R n l h = pairs_left R (take n l) (drop n l) (rw take-append-drop h)

  -- and of those behind them
  pub pairs_drop : (R : A → A → Type 0) (n : ℕ) (l : List A) → Pairs R l → Pairs R (drop n l)
  pairs_drop R n l h = pairs_right R (take n l) (drop n l) (rw take-append-drop h)

  -- R holds between what stands at a place and what stands at a later one
  pub pairs_at : (R : A → A → Type 0) (l : List A) (i j : ℕ) (d : A) → Pairs R l → i < j → j < length l → R (get_or l i d) (get_or l j d)
  unfolding Pairs
  pairs_at R [] i j d h g k = absurd (not-suc-le-zero k)
  pairs_at R (a ∷ l) i zero d h g k = absurd (not-suc-le-zero g)
  pairs_at R (a ∷ l) zero (suc j) d h g k = all_at (R a) l j d h.0 (le_of_suc-le-suc k)
  pairs_at R (a ∷ l) (suc i) (suc j) d h g k = pairs_at R l i j d h.1 (le_of_suc-le-suc g) (le_of_suc-le-suc k)

-- ---- the values of a function on the members, as equations to rewrite by

module _ {A B : Type 0} (f : A → B) where
  -- every value has P just where every member's value does
  pub all_mapped : (P : B → Type 0) (l : List A) → All P (map f l) ≡ All (λ a. P (f a)) l
  unfolding All
  all_mapped P [] = refl
  all_mapped P (a ∷ l) = ap (λ X. P (f a) × X) (all_mapped P l)

  -- some value has P just where some member's value does
  pub any_mapped : (P : B → Type 0) (l : List A) → Any P (map f l) ≡ Any (λ a. P (f a)) l
  unfolding Any
  any_mapped P [] = refl
  any_mapped P (a ∷ l) = ap (λ X. P (f a) ⊎ X) (any_mapped P l)

  -- the value of a member is a value
  pub in_mapped : (a : A) (l : List A) → In a l → In (f a) (map f l)
  in_mapped a l i = rw (any_mapped (λ b. f a ≡ b) l) (any_map (λ b. a ≡ b) (λ b. f a ≡ f b) (λ b e. ap f e) l i)
