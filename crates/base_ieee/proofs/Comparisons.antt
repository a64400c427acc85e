-- Tests that compare numbers and floats: they go both ways and follow on themselves, and tell what differs in more than the sign of a zero. Assumes nothing.
use mathlib.Core.Path.{◌≡◌, refl, sym, ◌∙◌, subst}
use mathlib.Core.Bool.{Bool, ◌&&◌}
use mathlib.Core.List.{List, [], ◌∷◌, ◌++◌}
use Prim.Native.Nat.{ℕ, ◌+◌}
use lib.Dec.{T, eqb, eqb→eq, eqb_refl}
use lib.ListN.{length, length-append}
use lib.Ieee.{Float, eq}
use lib.Ieee.Fits.{and_i, and_l, and_r}
use Rattle.base_lists.specs.Members.{All}
use Rattle.base_lists.specs.Places.{ByPlace}
use Rattle.base_lists.proofs.Places.{place_append, place_split, place_with}
use Rattle.base_lists.proofs.Relations.{Per, Passes, per_places}
use Rattle.base_ieee.proofs.Rank.{ordered, ordered_not_nan}
use Rattle.base_ieee.specs.Values.{Same}
use Rattle.base_ieee.proofs.Values.{same_value, value_same}
use Rattle.base_ieee.proofs.Equals.{per_float}

-- two lists of floats, equal by value
abbrev pub Equals : List Float → List Float → Type 0
Equals l m = ByPlace (Passes eq) l m

-- of f64s that are no NaN, those are the same but for the signs of zeros
pub equals_same : (l m : List Float) → All (λ x. T (ordered x)) l → All (λ x. T (ordered x)) m → Equals l m → ByPlace Same l m
equals_same = place_with (Passes eq) (λ x. T (ordered x)) Same same_value

pub same_equals : (l m : List Float) → All (λ x. T (ordered x)) l → All (λ x. T (ordered x)) m → ByPlace Same l m → Equals l m
same_equals = place_with Same (λ x. T (ordered x)) (Passes eq) (λ x y p q h. value_same x y (ordered_not_nan x p) h)

-- the test passes just where these numbers are equal and these floats are equal by value
pub record Compares {A : Type 0} (test : A → A → Bool) (numbers : A → List ℕ) (floats : A → List Float) : Type 0 where
  pub numbers_told : (a b : A) → T (test a b) → ByPlace ◌≡◌ (numbers a) (numbers b)
  pub floats_told : (a b : A) → T (test a b) → Equals (floats a) (floats b)
  pub tells : (a b : A) → ByPlace ◌≡◌ (numbers a) (numbers b) → Equals (floats a) (floats b) → T (test a b)

-- such a test goes both ways and follows on itself
pub per_compared : {A : Type 0} {test : A → A → Bool} {numbers : A → List ℕ} {floats : A → List Float} → Compares test numbers floats → Per (Passes test)
per_compared {numbers} {floats} p =
    let w = per_places ◌≡◌ (record { flip = λ a b e. sym e; chain = λ a b c e f. e ∙ f }) in
    let z = per_places (Passes eq) per_float in
    record {
      flip = λ a b t. p.tells b a (w.flip (numbers a) (numbers b) (p.numbers_told a b t)) (z.flip (floats a) (floats b) (p.floats_told a b t));
      chain = λ a b c t s. p.tells a c
          (w.chain (numbers a) (numbers b) (numbers c) (p.numbers_told a b t) (p.numbers_told b c s))
          (z.chain (floats a) (floats b) (floats c) (p.floats_told a b t) (p.floats_told b c s));
    }

-- ---- tests of records, field by field: everything has as many numbers, and as many floats
pub record Fields {A : Type 0} (test : A → A → Bool) (numbers : A → List ℕ) (floats : A → List Float) : Type 0 where
  pub compares : Compares test numbers floats
  pub many_numbers : (a b : A) → length (numbers a) ≡ length (numbers b)
  pub many_floats : (a b : A) → length (floats a) ≡ length (floats b)

module _ {A : Type 0} where
  -- a number, and a float
  pub number_field : (f : A → ℕ) → Fields (λ a b. eqb (f a) (f b)) (λ a. f a ∷ []) (λ a. [])
  unfolding ByPlace
  number_field f = record {
    compares = record {
      numbers_told = λ a b t. (eqb→eq (f a) (f b) t, tt);
      floats_told = λ a b t. tt;
      tells = λ a b n v. subst (λ k. T (eqb (f a) k)) n.0 (eqb_refl (f a));
    };
    many_numbers = λ a b. refl;
    many_floats = λ a b. refl;
  }

  pub float_field : (f : A → Float) → Fields (λ a b. eq (f a) (f b)) (λ a. []) (λ a. f a ∷ [])
  unfolding ByPlace
  float_field f = record {
    compares = record { numbers_told = λ a b t. tt; floats_told = λ a b t. (t, tt); tells = λ a b n v. v.0 };
    many_numbers = λ a b. refl;
    many_floats = λ a b. refl;
  }

  -- a record in a record
  pub record_field : {B : Type 0} {test : A → A → Bool} {numbers : A → List ℕ} {floats : A → List Float} (f : B → A)
      → Fields test numbers floats → Fields (λ x y. test (f x) (f y)) (λ x. numbers (f x)) (λ x. floats (f x))
  record_field f p = record {
    compares = record {
      numbers_told = λ x y. p.compares.numbers_told (f x) (f y);
      floats_told = λ x y. p.compares.floats_told (f x) (f y);
      tells = λ x y. p.compares.tells (f x) (f y);
    };
    many_numbers = λ x y. p.many_numbers (f x) (f y);
    many_floats = λ x y. p.many_floats (f x) (f y);
  }

  -- two tests in a row
  pub both_fields : {f g : A → A → Bool} {m n : A → List ℕ} {u v : A → List Float} → Fields f m u → Fields g n v → Fields (λ a b. f a b && g a b) (λ a. m a ++ n a) (λ a. u a ++ v a)
  both_fields {f} {g} {m} {n} {u} {v} p q = record {
    compares = record {
      numbers_told = λ a b t. place_append ◌≡◌ (m a) (n a) (m b) (n b) (p.compares.numbers_told a b (and_l (f a b) (g a b) t)) (q.compares.numbers_told a b (and_r (f a b) (g a b) t));
      floats_told = λ a b t. place_append (Passes eq) (u a) (v a) (u b) (v b) (p.compares.floats_told a b (and_l (f a b) (g a b) t)) (q.compares.floats_told a b (and_r (f a b) (g a b) t));
      tells = λ a b h k.
          let x = place_split ◌≡◌ (m a) (n a) (m b) (n b) (p.many_numbers a b) h in
          let y = place_split (Passes eq) (u a) (v a) (u b) (v b) (p.many_floats a b) k in
          and_i (f a b) (g a b) (p.compares.tells a b x.0 y.0) (q.compares.tells a b x.1 y.1);
    };
    many_numbers = λ a b. many_both (m a) (n a) (m b) (n b) (p.many_numbers a b) (q.many_numbers a b);
    many_floats = λ a b. many_both (u a) (v a) (u b) (v b) (p.many_floats a b) (q.many_floats a b);
  }
    where
      many_both : {B : Type 0} (k l k' l' : List B) → length k ≡ length k' → length l ≡ length l' → length (k ++ l) ≡ length (k' ++ l')
      many_both k l k' l' e h = length-append k l ∙ (λ i. e i + h i) ∙ sym (length-append k' l')
