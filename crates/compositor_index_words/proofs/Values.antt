-- The index is one of values: boxes that differ in the signs of zeros alone have the same index words. Assumes nothing.
use mathlib.Core.Path.{◌≡◌, refl}
use mathlib.Core.Bool.{◌&&◌}
use mathlib.Core.List.{List, [], ◌∷◌, ◌++◌}
use Prim.Native.Nat.{ℕ, ◌+◌}
use lib.Dec.{leb}
use Rattle.base_lists.specs.Pick.{pick}
use Rattle.base_lists.specs.Places.{ByPlace}
use Rattle.kurbo_geometry.specs.declared.Rect.{Rect}
use Rattle.kurbo_geometry.proofs.Values.{SameBox, SameBoxes, area_same}
use Rattle.compositor_rows.proofs.Values.{row_same, final_row_same}
use Rattle.compositor_index_words.specs.Index.{stands_in, places, row_list, layout, index_words}

module _ (b rows : ℕ) where
  stands_same : (r : ℕ) (a c : Rect) → SameBox a c → stands_in b rows a r ≡ stands_in b rows c r
  unfolding stands_in
  stands_same r a c p = λ i. area_same a c p i && leb (row_same a.y0 c.y0 b rows p.y0 i) r && leb r (final_row_same a.y1 c.y1 b rows p.y1 i)

  row_list_same : (r k : ℕ) (l m : List Rect) → SameBoxes l m → places (λ a. stands_in b rows a r) k l ≡ places (λ a. stands_in b rows a r) k m
  unfolding places ByPlace
  row_list_same r k [] [] h = refl
  row_list_same r k [] (c ∷ m) h = absurd h
  row_list_same r k (a ∷ l) [] h = absurd h
  row_list_same r k (a ∷ l) (c ∷ m) h = λ i. pick (stands_same r a c h.0 i) (k ∷ []) [] ++ row_list_same r (k + 1) l m h.1 i

  pub index_words_same : (l m : List Rect) → SameBoxes l m → index_words b rows l ≡ index_words b rows m
  unfolding index_words row_list
  index_words_same l m h = λ i. layout (λ r. row_list_same r 0 l m h i) rows
