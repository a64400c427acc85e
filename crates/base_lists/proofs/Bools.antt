-- Laws of tests: as propositions, and joined by `&&`, for code that makes one after the other. Assumes nothing.
use mathlib.Core.Path.{◌≡◌, refl, sym, ap, subst}
use mathlib.Core.Bool.{Bool, true, false, ◌&&◌}
use lib.Dec.{T}
use Rattle.std.proofs.lemmas.Bool.{and_from, and_right}

-- a test that holds is true, and what is true holds
pub is_true : (b : Bool) → T b → b ≡ true
is_true true t = refl
is_true false t = absurd t

pub holds : (b : Bool) → b ≡ true → T b
holds b e = subst T (sym e) tt

-- a test that cannot hold is false, and what is false cannot hold
pub is_false : (b : Bool) → (T b → ⊥) → b ≡ false
is_false true f = absurd (f tt)
is_false false f = refl

pub not_both : (b : Bool) → b ≡ false → T b → ⊥
not_both b e t = subst T e t

-- two tests of which each implies the other are equal
pub same_bool : (p q : Bool) → (T p → T q) → (T q → T p) → p ≡ q
same_bool true true f g = refl
same_bool true false f g = absurd (f tt)
same_bool false true f g = absurd (g tt)
same_bool false false f g = refl

-- ---- tests joined by `&&`
-- the second test decides where the first holds, and the first where it fails
pub and_on : (a b : Bool) → a ≡ true → b ≡ (a && b)
and_on a b e = sym (ap (λ (t : Bool). t && b) e)

pub and_off : (a b : Bool) → a ≡ false → false ≡ (a && b)
and_off a b e = sym (ap (λ (t : Bool). t && b) e)

-- four in a row, by the first that fails
module _ (a b c d : Bool) where
  pub four_on : a ≡ true → b ≡ true → c ≡ true → d ≡ (a && b && c && d)
  four_on e f g = and_on (a && b && c) d (and_from (a && b) c (and_from a b e f) g)

  pub off_1 : a ≡ false → (a && b && c && d) ≡ false
  off_1 e = λ i. e i && b && c && d

  pub off_2 : b ≡ false → (a && b && c && d) ≡ false
  off_2 e = λ i. and_right a b e i && c && d

  pub off_3 : c ≡ false → (a && b && c && d) ≡ false
  off_3 e = λ i. and_right (a && b) c e i && d

  pub off_4 : d ≡ false → (a && b && c && d) ≡ false
  off_4 e = and_right (a && b && c) d e
