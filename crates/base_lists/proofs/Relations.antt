-- Relations that go both ways and follow on one another. Of what such a test takes for the same, it says the same. Assumes nothing.
use mathlib.Core.Path.{◌≡◌}
use mathlib.Core.Bool.{Bool}
use lib.Dec.{T}
use Rattle.base_lists.specs.Places.{ByPlace}
use Rattle.base_lists.proofs.Bools.{same_bool}
use Rattle.base_lists.proofs.Places.{place_flip, place_chain}

-- symmetric and transitive. A NaN equals nothing, itself neither, so that a comparison need not be reflexive.
pub record Per {A : Type 0} (R : A → A → Type 0) : Type 0 where
  pub flip : (a b : A) → R a b → R b a
  pub chain : (a b c : A) → R a b → R b c → R a c

-- where a test holds
abbrev pub Passes : {A : Type 0} → (A → A → Bool) → A → A → Type 0
Passes test a b = T (test a b)

module _ {A : Type 0} where
  -- what is the same by the test is tested alike
  pub per_same : (test : A → A → Bool) → Per (Passes test) → (a a' b b' : A) → T (test a a') → T (test b b') → test a b ≡ test a' b'
  per_same test p a a' b b' h k = same_bool (test a b) (test a' b')
      (λ t. p.chain a' b b' (p.chain a' a b (p.flip a a' h) t) k)
      (λ t. p.chain a a' b h (p.chain a' b' b t (p.flip b b' k)))

  -- of lists, place by place
  pub per_places : (R : A → A → Type 0) → Per R → Per (ByPlace R)
  per_places R p = record { flip = place_flip R p.flip; chain = place_chain R p.chain }

  -- what says the same as another
  pub per_as : (R S : A → A → Type 0) → ((a b : A) → R a b → S a b) → ((a b : A) → S a b → R a b) → Per S → Per R
  per_as R S there back p = record {
    flip = λ a b h. back b a (p.flip a b (there a b h));
    chain = λ a b c h k. back a c (p.chain a b c (there a b h) (there b c k));
  }
