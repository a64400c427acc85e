-- To believe here: what it means that a relation holds between two lists, place by place.
use Rattle.std.specs.Prelude.{List, [], ◌∷◌}

-- the two lists have one length, and R holds between what stands at each place
unfoldable pub ByPlace : {A : Type 0} → (A → A → Type 0) → List A → List A → Type 0
ByPlace R [] [] = Unit {0}
ByPlace R [] (b ∷ m) = ⊥
ByPlace R (a ∷ l) [] = ⊥
ByPlace R (a ∷ l) (b ∷ m) = R a b × ByPlace R l m
