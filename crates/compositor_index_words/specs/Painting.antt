-- Commands painted one after the other: any commands, any colours, and what a command makes of a colour at some pixel.
use Rattle.std.specs.Prelude.{List, [], ◌∷◌, ℕ}

module _ {D C : Type 0} (paint : D → C → C) where
  -- "each command paints in order"
  unfoldable pub paint_all : List D → C → C
  paint_all [] k = k
  paint_all (c ∷ cs) k = paint_all cs (paint c k)

  -- "the new strip's drawing commands at the places listed (from 0) paint them in order"
  unfoldable pub paint_at : (ℕ → D) → List ℕ → C → C
  paint_at at [] k = k
  paint_at at (i ∷ l) k = paint_at at l (paint (at i) k)
