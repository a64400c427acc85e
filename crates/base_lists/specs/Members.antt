-- To believe here: what it means that every member of a list has a property, that some member has it, and that a relation
-- holds between each member and every later one.
use Rattle.std.specs.Prelude.{◌≡◌, ◌⊎◌, List, [], ◌∷◌}

-- every member of the list has P
unfoldable pub All : {A : Type 0} → (A → Type 0) → List A → Type 0
All P [] = Unit {0}
All P (a ∷ l) = P a × All P l

-- some member of the list has P
unfoldable pub Any : {A : Type 0} → (A → Type 0) → List A → Type 0
Any P [] = ⊥
Any P (a ∷ l) = P a ⊎ Any P l

-- R holds between each member of the list and every later one
unfoldable pub Pairs : {A : Type 0} → (A → A → Type 0) → List A → Type 0
Pairs R [] = Unit {0}
Pairs R (a ∷ l) = All (R a) l × Pairs R l

-- a is a member of the list
abbrev pub In : {A : Type 0} → A → List A → Type 0
In a l = Any (λ b. a ≡ b) l
