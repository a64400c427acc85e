-- L2: where the commands outside a row of the index are silent, the others paint what all paint. Assumes nothing.
use mathlib.Core.Path.{◌≡◌, refl, sym, ap, ◌∙◌}
use mathlib.Core.Bool.{Bool, true, false}
use mathlib.Core.List.{List, [], ◌∷◌, ◌++◌, map}
use Prim.Native.Nat.{ℕ, zero, suc, ◌+◌, ◌<◌}
use native.Mathlib.Omega.{arith}
use lib.ListN.{length, get_or}
use Rattle.base_lists.specs.Pick.{pick}
use Rattle.base_lists.specs.Members.{All}
use Rattle.kurbo_geometry.specs.declared.Rect.{Rect}
use Rattle.compositor_index_words.specs.Painting.{paint_all, paint_at}
use Rattle.compositor_index_words.specs.Index.{stands_in, places, row_list}

-- any commands, any colours, and what a command makes of a colour at some pixel
module _ {D C : Type 0} (paint : D → C → C) where
  -- a command that leaves every colour as it is
  abbrev pub Silent : D → Type 0
  Silent c = (k : C) → paint c k ≡ k

  module _ (box : D → Rect) (test : Rect → Bool) (at : ℕ → D) (d : D) where
    step : (t : Bool) (i : ℕ) (c : D) (l : List ℕ) (cs : List D) → at i ≡ c → (t ≡ false → Silent c) → ((k : C) → paint_at paint at l k ≡ paint_all paint cs k) → (k : C) → paint_at paint at (pick t (i ∷ []) [] ++ l) k ≡ paint_all paint cs (paint c k)
    unfolding paint_at
    step true i c l cs e s h k = h (paint (at i) k) ∙ ap (λ (b : D). paint_all paint cs (paint b k)) e
    step false i c l cs e s h k = h k ∙ ap (paint_all paint cs) (sym (s refl k))

    -- the commands from place i on, where those that fail the test are silent
    pub places_paint : (i : ℕ) (cs : List D) → ((j : ℕ) → j < length cs → at (i + j) ≡ get_or cs j d) → All (λ c. test (box c) ≡ false → Silent c) cs → (k : C) → paint_at paint at (places test i (map box cs)) k ≡ paint_all paint cs k
    unfolding places paint_all All
    places_paint i [] e s k = unfold paint_at in refl
    places_paint i (c ∷ cs) e s k =
        let z : i ≡ i + 0 = omega arith in
        step (test (box c)) i c (places test (i + 1) (map box cs)) cs
        (ap at z ∙ e zero (omega arith))
        s.0
        (places_paint (i + 1) cs (λ j h. let y : i + 1 + j ≡ i + suc j = omega arith in ap at y ∙ e (suc j) (omega arith)) s.1)
        k

  -- painting the row paints the list
  pub row_paints : (box : D → Rect) (band rows r : ℕ) (cs : List D) (d : D) → All (λ c. stands_in band rows (box c) r ≡ false → Silent c) cs → (k : C) → paint_at paint (λ i. get_or cs i d) (row_list band rows (map box cs) r) k ≡ paint_all paint cs k
  unfolding row_list
  row_paints box band rows r cs d s k = places_paint box (λ b. stands_in band rows b r) (λ i. get_or cs i d) d 0 cs (λ j h. let z : 0 + j ≡ j = omega arith in ap (λ (i : ℕ). get_or cs i d) z) s k
