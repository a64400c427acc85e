-- Choosing by a test, and splitting into cases. Assumes nothing.
use mathlib.Core.Path.{◌≡◌, refl}
use mathlib.Core.Logic.{◌⊎◌, inl, inr, ⊎_elim}
use mathlib.Core.Bool.{Bool, true, false}
use Prim.Native.Nat.{ℕ, ◌≤◌, ◌<◌}
use lib.Dec.{leb}
use borrow.Author.Tests.{leb-true, leb-false}
use Rattle.base_lists.specs.Pick.{pick}

module _ {A : Type 0} where
  -- where the test holds, the choice is the first
  pub pick_true : (b : Bool) (x y : A) → b ≡ true → pick b x y ≡ x
  pick_true b x y e = rw e

  -- where the test fails, the choice is the second
  pub pick_false : (b : Bool) (x y : A) → b ≡ false → pick b x y ≡ y
  pick_false b x y e = rw e

  -- what holds of the first where the test holds, and of the second where it fails, holds of the choice
  pub pick_cases : (P : A → Type 0) (b : Bool) (x y : A) → (b ≡ true → P x) → (b ≡ false → P y) → P (pick b x y)
  pick_cases P true x y f g = f refl
  pick_cases P false x y f g = g refl

  -- a choice between two equal things
  pub pick_same : (b : Bool) (x : A) → pick b x x ≡ x
  pick_same true x = refl
  pick_same false x = refl

  -- a function of a choice is the choice of its values
  pub pick_map : {B : Type 0} (f : A → B) (b : Bool) (x y : A) → f (pick b x y) ≡ pick b (f x) (f y)
  pick_map f true x y = refl
  pick_map f false x y = refl

-- of two numbers, the first is at most the second, or the second is less
pub le_or_lt : (a b : ℕ) → (a ≤ b) ⊎ (b < a)
le_or_lt a b = go (leb a b) refl
  where
    go : (t : Bool) → leb a b ≡ t → (a ≤ b) ⊎ (b < a)
    go true e = inl (leb-true a b e)
    go false e = inr (leb-false a b e)

-- what holds in either case of `le_or_lt` holds
pub by_le : {P : Type 0} (a b : ℕ) → (a ≤ b → P) → (b < a → P) → P
by_le a b f g = ⊎_elim f g (le_or_lt a b)
