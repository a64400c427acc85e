-- A list of boxes in lent space, four words a box: what appending does to the words and to the count.
use Rattle.std.specs.Prelude.{◌≡◌, List, [], ◌∷◌, ℕ, ◌+◌, ◌*◌, ◌/◌, ◌≤◌, ltb, length, take, drop, Float}
use Rattle.base_lists.specs.Pick.{pick}
use Rattle.kurbo_geometry.specs.declared.Rect.{Rect}
use Rattle.base_rect_words.specs.Words.{put_rect}
use Rattle.base_rect_list.specs.declared.RectList.{RectList}

-- the words, and how many boxes were appended
pub record Filled : Type 0 where
  pub words : List Float
  pub count : ℕ

abbrev pub filled : List Float → ℕ → Filled
filled xs n = record { words = xs; count = n }

-- a box more: stored where there is room, always counted
unfoldable pub put : Filled → Rect → Filled
put f r = filled (pick (ltb f.count (length f.words / 4)) (put_rect f.words (4 * f.count) r) f.words) (f.count + 1)

-- the boxes of a list, one after the other
unfoldable pub after : Filled → List Rect → Filled
after f [] = f
after f (r ∷ l) = after (put f r) l

-- n boxes in xs, and then those of l, are m boxes in ys; k of them at most are new
pub record Added (k : ℕ) (xs : List Float) (n : ℕ) (l : List Rect) (ys : List Float) (m : ℕ) : Type 0 where
  pub state : filled ys m ≡ after (filled xs n) l
  pub most : m ≤ n + k

-- the same of a list and what became of it: its words lie where they lay, so that what stands in them stands in the lent slice
pub record AddedTo (k : ℕ) (old : RectList) (l : List Rect) (new : RectList) : Type 0 where
  pub added : Added k old.words.now old.count l new.words.now new.count
  pub same_place : new.words.ghost_name ≡ old.words.ghost_name

-- the words of a list of boxes
unfoldable pub words_of_rects : List Rect → List Float
words_of_rects [] = []
words_of_rects (r ∷ l) = r.x0 ∷ r.y0 ∷ r.x1 ∷ r.y1 ∷ words_of_rects l

-- ys holds the m boxes of l where xs had room for them all; their number is told in any case, and no word behind them changes
pub record Listed (xs : List Float) (l : List Rect) (ys : List Float) (m : ℕ) : Type 0 where
  pub count : m ≡ length l
  pub words : 4 * m ≤ length xs → take (4 * m) ys ≡ words_of_rects l
  pub rest : drop (4 * m) ys ≡ drop (4 * m) xs
  pub size : length ys ≡ length xs
