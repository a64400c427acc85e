-- Clips in lent space as lists of boxes. Clip number x, from 1, has eight words of `bs`, its own box and the box of all clips up to it, and one word
-- of `ns`, the number of the clip below it; 0 is none.
use Rattle.std.specs.Prelude.{◌≡◌, List, [], ◌∷◌, ◌++◌, ℕ, zero, suc, ◌+◌, ◌-◌, ◌*◌, ◌≤◌, ◌<◌, eqb, length, get_or, Float, Option, Some, None}
use Rattle.base_lists.specs.Pick.{pick}
use Rattle.kurbo_geometry.specs.declared.Rect.{Rect}
use Rattle.kurbo_geometry.specs.Boxes.{intersect}
use Rattle.display_list_commands.specs.Bounds.{clip_box}
use Rattle.base_rect_words.specs.Words.{rect_from, put_rect}

abbrev pub clip_at : List Float → ℕ → Rect
clip_at bs x = rect_from bs (8 * (x - 1))

abbrev pub all_at : List Float → ℕ → Rect
all_at bs x = rect_from bs (8 * (x - 1) + 4)

abbrev pub below_at : List ℕ → ℕ → ℕ
below_at ns x = get_or ns (x - 1) 0

-- the boxes of the clips up to number x, oldest first, in at most k steps
unfoldable pub chain_from : ℕ → List Float → List ℕ → ℕ → List Rect
chain_from zero bs ns x = []
chain_from (suc k) bs ns x = pick (eqb x 0) [] (chain_from k bs ns (below_at ns x) ++ (clip_at bs x ∷ []))

-- where the number below is always smaller, x steps are enough
abbrev pub chain : List Float → List ℕ → ℕ → List Rect
chain bs ns x = chain_from x bs ns x

-- the second box of number x, where it is no 0
unfoldable pub all_up_to : List Float → ℕ → Option Rect
all_up_to bs x = pick (eqb x 0) None (Some (all_at bs x))

-- a box cut by the clips up to number x: document 01's "intersected with the active clip box where a clip is open"
unfoldable pub clip_rect : List Float → ℕ → Rect → Rect
clip_rect bs x b = pick (eqb x 0) b (intersect b (all_at bs x))

-- there is room for n clips, and below each stands one with a smaller number
pub record Chained (n : ℕ) (bs : List Float) (ns : List ℕ) : Type 0 where
  pub boxes : 8 * n ≤ length bs
  pub numbers : n ≤ length ns
  pub lower : (k : ℕ) → k < n → get_or ns k 0 ≤ k

-- the same, and the second box of each is its active clip box
pub record Clips (n : ℕ) (bs : List Float) (ns : List ℕ) : Type 0 where
  pub chained : Chained n bs ns
  pub cut : (x : ℕ) → 0 < x → x ≤ n → all_at bs x ≡ clip_box (chain bs ns x)

-- two numbers among those of the clips held
pub record Rooted (bs : List Float) (ns : List ℕ) (x y : ℕ) : Type 0 where
  pub used : ℕ
  pub chained : Chained used bs ns
  pub one : x ≤ used
  pub other : y ≤ used

-- ---- a clip more
-- the active clip box with one more box b on top of clip number x
unfoldable pub all_with : List Float → ℕ → Rect → Rect
all_with bs x b = pick (eqb x 0) b (intersect (all_at bs x) b)

-- the words of the clip after n others, whose number is n + 1
unfoldable pub put_clip : List Float → ℕ → ℕ → Rect → List Float
put_clip bs n x b = put_rect (put_rect bs (8 * n) b) (8 * n + 4) (all_with bs x b)

-- there is room for that clip, and its number is greater than the one below
pub record Room (n x : ℕ) (bs : List Float) (ns : List ℕ) : Type 0 where
  pub boxes : 8 * n + 8 ≤ length bs
  pub numbers : n < length ns
  pub lower : x ≤ n
