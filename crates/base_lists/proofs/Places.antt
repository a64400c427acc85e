-- Laws of `ByPlace`, for lists of anything. Assumes nothing.
use mathlib.Core.Path.{◌≡◌, refl, sym, ap, subst}
use mathlib.Core.Bool.{Bool, true, false, ◌&&◌, true≢false}
use mathlib.Core.List.{List, [], ◌∷◌, ◌++◌, map}
use Prim.Native.Nat.{suc}
use native.Mathlib.Omega.{arith}
use lib.Dec.{T}
use lib.Ieee.Fits.{and_i, and_l, and_r}
use lib.ListN.{length}
use Rattle.base_lists.specs.Pick.{pick}
use Rattle.base_lists.specs.Members.{All}
use Rattle.base_lists.specs.Places.{ByPlace}

module _ {A : Type 0} (R : A → A → Type 0) where
  pub place_none : ByPlace R [] []
  unfolding ByPlace
  place_none = tt

  pub place_one : (a b : A) → R a b → ByPlace R (a ∷ []) (b ∷ [])
  unfolding ByPlace
  place_one a b h = (h, tt)

  pub place_length : (l m : List A) → ByPlace R l m → length l ≡ length m
  unfolding ByPlace
  place_length [] [] h = refl
  place_length [] (b ∷ m) h = absurd h
  place_length (a ∷ l) [] h = absurd h
  place_length (a ∷ l) (b ∷ m) h = ap suc (place_length l m h.1)

  -- two lists in a row, and the way back where the first of each are as long
  pub place_append : (l m l' m' : List A) → ByPlace R l l' → ByPlace R m m' → ByPlace R (l ++ m) (l' ++ m')
  unfolding ByPlace
  place_append [] m [] m' h k = k
  place_append [] m (b ∷ l') m' h k = absurd h
  place_append (a ∷ l) m [] m' h k = absurd h
  place_append (a ∷ l) m (b ∷ l') m' h k = (h.0, place_append l m l' m' h.1 k)

  pub place_split : (l m l' m' : List A) → length l ≡ length l' → ByPlace R (l ++ m) (l' ++ m') → ByPlace R l l' × ByPlace R m m'
  unfolding ByPlace
  place_split [] m [] m' e h = (tt, h)
  place_split [] m (b ∷ l') m' e h = absurd (omega arith)
  place_split (a ∷ l) m [] m' e h = absurd (omega arith)
  place_split (a ∷ l) m (b ∷ l') m' e h = let k = place_split l m l' m' (omega arith) h.1 in ((h.0, k.0), k.1)

  -- by tests that answer alike
  pub place_pick : (s t : Bool) (l m l' m' : List A) → s ≡ t → ByPlace R l l' → ByPlace R m m' → ByPlace R (pick s l m) (pick t l' m')
  place_pick true true l m l' m' e h k = h
  place_pick false false l m l' m' e h k = k
  place_pick true false l m l' m' e h k = absurd (true≢false e)
  place_pick false true l m l' m' e h k = absurd (true≢false (sym e))

  -- a list and itself
  pub place_self : ((a : A) → R a a) → (l : List A) → ByPlace R l l
  unfolding ByPlace
  place_self f [] = tt
  place_self f (a ∷ l) = (f a, place_self f l)

  -- what goes both ways, and what follows on itself, does so place by place
  pub place_flip : ((a b : A) → R a b → R b a) → (l m : List A) → ByPlace R l m → ByPlace R m l
  unfolding ByPlace
  place_flip f [] [] h = h
  place_flip f [] (b ∷ m) h = h
  place_flip f (a ∷ l) [] h = h
  place_flip f (a ∷ l) (b ∷ m) h = (f a b h.0, place_flip f l m h.1)

  pub place_chain : ((a b c : A) → R a b → R b c → R a c) → (l m n : List A) → ByPlace R l m → ByPlace R m n → ByPlace R l n
  unfolding ByPlace
  place_chain f [] [] n h k = k
  place_chain f [] (b ∷ m) n h k = absurd h
  place_chain f (a ∷ l) [] n h k = absurd h
  place_chain f (a ∷ l) (b ∷ m) [] h k = absurd k
  place_chain f (a ∷ l) (b ∷ m) (c ∷ n) h k = (f a b c h.0 k.0, place_chain f l m n h.1 k.1)

  -- what follows at each place from R
  pub place_map : (S : A → A → Type 0) → ((a b : A) → R a b → S a b) → (l m : List A) → ByPlace R l m → ByPlace S l m
  unfolding ByPlace
  place_map S f [] [] h = h
  place_map S f [] (b ∷ m) h = h
  place_map S f (a ∷ l) [] h = h
  place_map S f (a ∷ l) (b ∷ m) h = (f a b h.0, place_map S f l m h.1)

  -- from R, and from what every member of both lists has
  pub place_with : (P : A → Type 0) (S : A → A → Type 0) → ((a b : A) → P a → P b → R a b → S a b) → (l m : List A) → All P l → All P m → ByPlace R l m → ByPlace S l m
  unfolding ByPlace All
  place_with P S f [] [] p q h = tt
  place_with P S f [] (b ∷ m) p q h = h
  place_with P S f (a ∷ l) [] p q h = h
  place_with P S f (a ∷ l) (b ∷ m) p q h = (f a b p.0 q.0 h.0, place_with P S f l m p.1 q.1 h.1)

  -- between the values of two functions
  pub place_mapped : {B : Type 0} (f g : B → A) (l m : List B) → ByPlace (λ x y. R (f x) (g y)) l m → ByPlace R (map f l) (map g m)
  unfolding ByPlace
  place_mapped f g [] [] h = h
  place_mapped f g [] (y ∷ m) h = h
  place_mapped f g (x ∷ l) [] h = h
  place_mapped f g (x ∷ l) (y ∷ m) h = (h.0, place_mapped f g l m h.1)

-- equal lists are equal at each place, and the other way round
module _ {A : Type 0} where
  pub place_equal : (l m : List A) → ByPlace ◌≡◌ l m → l ≡ m
  unfolding ByPlace
  place_equal [] [] h = refl
  place_equal [] (b ∷ m) h = absurd h
  place_equal (a ∷ l) [] h = absurd h
  place_equal (a ∷ l) (b ∷ m) h = λ i. h.0 i ∷ place_equal l m h.1 i

  pub equal_place : (l m : List A) → l ≡ m → ByPlace ◌≡◌ l m
  equal_place l m e = subst (ByPlace ◌≡◌ l) e (place_self ◌≡◌ (λ a. refl) l)

-- ---- a test of lists that makes one of their members, place by place
module _ {A : Type 0} (test : A → A → Bool) (all : List A → List A → Bool) (none : all [] [] ≡ true)
    (short : (b : A) (m : List A) → all [] (b ∷ m) ≡ false) (long : (a : A) (l : List A) → all (a ∷ l) [] ≡ false)
    (next : (a b : A) (l m : List A) → all (a ∷ l) (b ∷ m) ≡ (test a b && all l m)) where
  pub test_places : (l m : List A) → T (all l m) → ByPlace (λ a b. T (test a b)) l m
  unfolding ByPlace
  test_places [] [] t = tt
  test_places [] (b ∷ m) t = rw (short b m) at t
  test_places (a ∷ l) [] t = rw (long a l) at t
  test_places (a ∷ l) (b ∷ m) t = let u = rw (next a b l m) at t in (and_l (test a b) (all l m) u, test_places l m (and_r (test a b) (all l m) u))

  pub places_test : (l m : List A) → ByPlace (λ a b. T (test a b)) l m → T (all l m)
  unfolding ByPlace
  places_test [] [] h = rw none tt
  places_test [] (b ∷ m) h = absurd h
  places_test (a ∷ l) [] h = absurd h
  places_test (a ∷ l) (b ∷ m) h = rw (next a b l m) (and_i (test a b) (all l m) h.0 (places_test l m h.1))
