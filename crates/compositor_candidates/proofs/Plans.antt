-- I3: on a plan's own words, whatever words follow, no region of the screen is refused, and it gets the row of its y; L3: painting it
-- paints the list. Assumes nothing.
use mathlib.Core.Path.{◌≡◌, sym, ap, ◌∙◌}
use mathlib.Core.Bool.{true, false}
use mathlib.Core.List.{List, ◌++◌, map}
use Prim.Native.Nat.{ℕ, ◌+◌, ◌-◌, ◌/◌, ◌≤◌, ◌<◌}
use native.Mathlib.Omega.{arith}
use borrow.Author.Tests.{le-ltb, lt-leb}
use lib.ListN.{length, take, drop, get_or}
use Rattle.base_lists.specs.Members.{All}
use Rattle.base_lists.proofs.Members.{all_both}
use Rattle.base_lists.proofs.Bools.{holds, is_false, not_both}
use Rattle.kurbo_geometry.specs.declared.Rect.{Rect}
use Rattle.kurbo_geometry.specs.Pixels.{touches}
use Rattle.kurbo_geometry.proofs.Edges.{Ordered}
use Rattle.compositor_rows.specs.Rows.{row_count}
use Rattle.compositor_rows.proofs.Laws.{row_below}
use Rattle.compositor_screen.specs.declared.Screen.{Screen}
use Rattle.compositor_screen.specs.Sizes.{fits}
use Rattle.compositor_screen.proofs.Laws.{size_limits, sizes_of, rows_size}
use Rattle.compositor_index_words.specs.Index.{stands_in, row_list, start_of, index_words}
use Rattle.compositor_index_words.proofs.Starts.{start_next, start_at, entries_at, ends_within}
use Rattle.compositor_index_words.proofs.Places.{touch_stands}
use Rattle.compositor_index_words.specs.Painting.{paint_all, paint_at}
use Rattle.compositor_index_words.proofs.Painting.{Silent, row_paints}
use Rattle.std.specs.Prelude.{Result, Ok}
use Rattle.base_refusals.specs.declared.Refusal.{Refusal}
use Rattle.compositor_candidates.specs.declared.Part.{Part}
use Rattle.compositor_candidates.specs.Table.{bad_row, part, find_row, find, part_of, candidates, number_of, refusal}

-- two starts that neither fall nor pass the entries
found_between : (rows r a c : ℕ) (words : List ℕ) → r < rows → get_or words r 0 ≡ a → get_or words (r + 1) 0 ≡ c → a ≤ c → rows + 1 + c ≤ length words → find_row rows r words ≡ Ok (part (rows + 1 + a) (rows + 1 + c))
unfolding find_row bad_row
found_between rows r a c words h ea ec ac l =
    rw (ea, ec) (simp (lt-leb rows r h, lt-leb (length words) rows (omega arith), le-ltb c a ac, le-ltb (length words - (rows + 1)) c (omega arith)))

module _ (s : Screen) (y : ℕ) (boxes : List Rect) (rest : List ℕ) (good : fits s ≡ true) (Y : y < s.height) where
  abbrev rows : ℕ
  rows = row_count s.height s.band_height

  abbrev row : ℕ → List ℕ
  row = row_list s.band_height (row_count s.height s.band_height) boxes

  abbrev words : List ℕ
  words = index_words s.band_height (row_count s.height s.band_height) boxes ++ rest

  in_rows : y / s.band_height < rows
  in_rows = omega (arith, row_below s.height s.band_height y (sizes_of s good).some_band Y, size_limits _ (rows_size s good))

  found : find s y words ≡ Ok (part (rows + 1 + start_of row (y / s.band_height)) (rows + 1 + start_of row (y / s.band_height + 1)))
  unfolding find index_words
  found =
      let h : y / s.band_height < row_count s.height s.band_height = in_rows in
      rw good
      (found_between rows (y / s.band_height) (start_of row (y / s.band_height)) (start_of row (y / s.band_height + 1)) words h
      (start_at row rows rest (y / s.band_height) (omega arith))
      (start_at row rows rest (y / s.band_height + 1) (omega arith))
      (omega (arith, start_next row (y / s.band_height)))
      (ends_within row rows rest (y / s.band_height) h))

  -- never refused
  pub plan_accepted : refusal s y (index_words s.band_height (row_count s.height s.band_height) boxes ++ rest) ≡ 0
  plan_accepted = ap number_of found

  -- the row of y
  pub plan_row : candidates s y (index_words s.band_height (row_count s.height s.band_height) boxes ++ rest) ≡ row_list s.band_height (row_count s.height s.band_height) boxes (y / s.band_height)
  unfolding index_words
  plan_row =
      let k : rows + 1 + start_of row (y / s.band_height + 1) - (rows + 1 + start_of row (y / s.band_height)) ≡ length (row (y / s.band_height)) = omega (arith, start_next row (y / s.band_height)) in
      ap (λ (p : Result Part Refusal). part_of p words) found
      ∙ ap (λ (n : ℕ). take n (drop (rows + 1 + start_of row (y / s.band_height)) words)) k
      ∙ entries_at row rows rest (y / s.band_height) in_rows

-- ---- L3: where a command that does not touch a pixel is silent at it, the commands of the row of any region in the pixel's band paint
-- at it what all commands paint
module _ {D C : Type 0} (paint : D → C → C) (box : D → Rect) (s : Screen) (y p q : ℕ) (cs : List D) (rest : List ℕ) (good : fits s ≡ true) (Y : y < s.height) (Q : q < s.height) (same-band : y / s.band_height ≡ q / s.band_height) where
  -- a command outside the row touches no pixel of the band
  outside : (c : D) → Ordered (box c) → (touches (box c) p q ≡ false → Silent paint c) → stands_in s.band_height (row_count s.height s.band_height) (box c) (y / s.band_height) ≡ false → Silent paint c
  outside c o silent e = silent (is_false (touches (box c) p q) (λ t.
      let z = touch_stands s.height s.band_height p q (sizes_of s good).some_band (sizes_of s good).height_most Q (box c) o t in
      not_both _ (ap (stands_in s.band_height (row_count s.height s.band_height) (box c)) (sym same-band) ∙ e) (holds _ z)))

  pub plan_paints : (d : D) → All (λ c. Ordered (box c)) cs → All (λ c. touches (box c) p q ≡ false → Silent paint c) cs → (k : C) → paint_at paint (λ i. get_or cs i d) (candidates s y (index_words s.band_height (row_count s.height s.band_height) (map box cs) ++ rest)) k ≡ paint_all paint cs k
  plan_paints d o silent k =
      ap (λ l. paint_at paint (λ i. get_or cs i d) l k) (plan_row s y (map box cs) rest good Y)
      ∙ row_paints paint box s.band_height (row_count s.height s.band_height) (y / s.band_height) cs d (all_both (λ c. Ordered (box c)) (λ c. touches (box c) p q ≡ false → Silent paint c) (λ c. stands_in s.band_height (row_count s.height s.band_height) (box c) (y / s.band_height) ≡ false → Silent paint c) outside cs o silent) k
