-- What the reader and the entries must give, call by call, for the panels to agree. Assumes nothing.
use mathlib.Core.Path.{◌≡◌}
use mathlib.Core.Bool.{true}
use mathlib.Core.List.{List, [], ◌∷◌, ◌++◌, map}
use mathlib.Core.Option.{Option, none, some}
use Prim.Native.Nat.{ℕ}
use Rattle.base_lists.specs.Members.{All}
use Rattle.kurbo_geometry.specs.declared.Rect.{Rect}
use Rattle.display_list_commands.specs.Bounds.{Command, bounds}
use Rattle.compositor_rows.specs.Rows.{row_count}
use Rattle.compositor_index_words.specs.Index.{index_words}
use Rattle.compositor_scheduler.specs.Schedule.{schedule}
use Rattle.display_list_changes.specs.Changes.{diff_dirty}
use Rattle.panels_painting.proofs.Alike.{Sound}
use Rattle.plan_answers.specs.Drafts.{screen_rect}
use Rattle.panels.specs.Panels.{Planner}
use Rattle.compositor_screen.specs.declared.Screen.{Screen}
use Rattle.compositor_screen.specs.Sizes.{fits}

-- what is scheduled: the whole screen at the first frame, then what changed since the last accepted strip
abbrev pub boxes_since : {S : Type 0} → (S → List Command) → Screen → Option S → S → List Rect
boxes_since commands screen none s = screen_rect screen ∷ []
boxes_since commands screen (some old) s = diff_dirty (commands old) (commands s)

-- where there is a last accepted strip, it is good: it reads as one strip, alone and before another. Of other bytes nothing can be said, for they
-- may be read with another end.
abbrev pub GoodLast : {S : Type 0} → (S → Type 0) → Option S → Type 0
GoodLast good none = Unit {0}
GoodLast good (some old) = good old

-- an accepted call that can come up
pub record Call (P : Planner) (good : P.Strip → Type 0) (last : Option P.Strip) (s : P.Strip) (z : P.Space) : Type 0 where
  pub good_last : GoodLast good last
  pub no_number : P.accepted last s z ≡ true

pub record Plans (screen : Screen) (P : Planner) (good : P.Strip → Type 0) : Type 0 where
  -- number 1's case does not hold
  pub sizes : (last : Option P.Strip) (s : P.Strip) (z : P.Space) → Call P good last s z → fits screen ≡ true
  -- P1: the strip is good in its turn
  pub one_strip : (last : Option P.Strip) (s : P.Strip) (z : P.Space) → Call P good last s z → good s
  -- P3: no edge of a box is a NaN
  pub sound : (last : Option P.Strip) (s : P.Strip) (z : P.Space) → Call P good last s z → All Sound (P.commands s)
  -- P2: the old list is that of the last accepted strip
  pub regions : (last : Option P.Strip) (s : P.Strip) (z : P.Space) → Call P good last s z → P.regions last s z ≡ schedule screen (boxes_since P.commands screen last s)
  -- the index of the new list, and whatever words were lent behind it
  pub words : (last : Option P.Strip) (s : P.Strip) (z : P.Space) → Call P good last s z → (rest : List ℕ) × (P.words last s z ≡ index_words screen.band_height (row_count screen.height screen.band_height) (map bounds (P.commands s)) ++ rest)
