-- The two cases of the answer, by the number of entries. Assumes nothing.
use mathlib.Core.Path.{◌≡◌, refl, sym, ap, ◌∙◌}
use mathlib.Core.Bool.{Bool, true}
use mathlib.Core.List.{List, ◌++◌}
use Prim.Native.Nat.{ℕ, ◌+◌, ◌^◌, ◌≤◌, ◌<◌}
use native.Mathlib.Omega.{arith}
use borrow.Author.Tests.{le-leb, lt-leb}
use lib.Dec.{leb}
use lib.Ieee.{Float}
use lib.ListN.{length, take, drop, length-append, length-drop}
use lib.Seq.{take_at, drop_at}
use Rattle.base_lists.proofs.Picks.{pick_true, pick_false, by_le}
use Rattle.std.proofs.Common.{Some, None}
use Rattle.compositor_screen.specs.Sizes.{size_fits, screen}
use Rattle.compositor_screen.proofs.Laws.{size_limits, size_from, rows_size}
use Rattle.compositor_rows.specs.Rows.{row_count}
use Rattle.compositor_index_words.specs.Index.{start_of, layout, index_words}
use Rattle.compositor_index_words.proofs.Starts.{layout_length}
use Rattle.compositor_band_index.specs.Answer.{answer, stored}
use Rattle.compositor_band_index.specs.Counting.{marks, span_marks, row_to, word_count, KeptFrom, Spanned, Filling}
use Rattle.compositor_band_index.proofs.Spans.{kept_marks}
use Rattle.compositor_band_index.proofs.Counts.{rows_same, start_most}
use Rattle.compositor_band_index.proofs.Turns.{fill_all}
use Rattle.compositor_band_index.proofs.Layouts.{index_layout, index_length}
use Rattle.base_rect_words.specs.Words.{boxes_to}

-- a screen has as many rows as a size allows, whatever its width
pub count_fits : (h b : ℕ) → size_fits h ≡ true → size_fits b ≡ true → size_fits (row_count h b) ≡ true
count_fits h b p q = rows_size (screen 1 h b) (rw (size_from 1 (omega arith) (omega arith), p, q) refl)

-- ---- words that fit, and words that do not
module _ (words : List ℕ) where
  pub answer_fits : (room : ℕ) → length words ≤ room → answer words room ≡ Some (length words)
  unfolding answer
  answer_fits room h = pick_true (leb (length words) room) (Some (length words)) None (le-leb (length words) room h)

  pub answer_full : (room : ℕ) → room < length words → answer words room ≡ None
  unfolding answer
  answer_full room h = pick_false (leb (length words) room) (Some (length words)) None (lt-leb (length words) room h)

  pub stored_fits : (old : List ℕ) → length words ≤ length old → stored words old ≡ words ++ drop (length words) old
  unfolding stored
  stored_fits old h = pick_true (leb (length words) (length old)) (words ++ drop (length words) old) old (le-leb (length words) (length old) h)

  pub stored_full : (old : List ℕ) → length old < length words → stored words old ≡ old
  unfolding stored
  stored_full old h = pick_false (leb (length words) (length old)) (words ++ drop (length words) old) old (lt-leb (length words) (length old) h)

  -- what a reader of the space finds: as many words as before, the index in front where it fits, what was there behind it
  pub stored_length : (old : List ℕ) → length (stored words old) ≡ length old
  stored_length old = by_le (length words) (length old)
      (λ h. ap length (stored_fits old h) ∙ length-append words (drop (length words) old) ∙ simp length-drop (omega arith))
      (λ h. ap length (stored_full old h))

  pub stored_front : (old : List ℕ) → length words ≤ length old → take (length words) (stored words old) ≡ words
  stored_front old h = ap (take (length words)) (stored_fits old h) ∙ take_at words (drop (length words) old) (length words) refl

  pub stored_rest : (old : List ℕ) → drop (length words) (stored words old) ≡ drop (length words) old
  stored_rest old = by_le (length words) (length old)
      (λ h. ap (drop (length words)) (stored_fits old h) ∙ drop_at words (drop (length words) old) (length words) refl)
      (λ h. ap (drop (length words)) (stored_full old h))

-- ---- `fill`: no command is still to come, and the words behind the index are as they were
pub fill_end : (mark : ℕ → ℕ → Bool) (n rows : ℕ) (old w : List ℕ) → Filling mark n rows w 0 → length w ≡ length old → KeptFrom (word_count mark n rows) old w → w ≡ stored (layout (row_to mark n) rows) old
fill_end mark n rows old w F l k =
    let e = layout_length (row_to mark n) rows in
    fill_all mark n rows w F
    ∙ ap (λ (rest : List ℕ). layout (row_to mark n) rows ++ rest) (k ∙ ap (λ (m : ℕ). drop m old) (sym e))
    ∙ sym (stored_fits (layout (row_to mark n) rows) old (omega (arith, F.room)))

-- ---- `build`, which has counted the entries
module _ (band rows : ℕ) (numbers : List Float) (n : ℕ) where
  abbrev words : List ℕ
  words = index_words band rows (boxes_to numbers n)

  module _ (entries : ℕ) (e : entries ≡ start_of (row_to (marks band rows numbers) n) rows) where
    pub words_low : n ≤ 4096 → size_fits rows ≡ true → rows + 1 + entries < 2 ^ 32
    words_low h s = omega (arith, start_most (marks band rows numbers) n rows h, size_limits rows s)

    pub words_length : length words ≡ rows + 1 + entries
    words_length = omega (arith, index_length band rows numbers n)

    pub build_full : (old : List ℕ) → length old < rows + 1 + entries → (None ≡ answer words (length old)) × (old ≡ stored words old)
    build_full old h = (sym (answer_full words (length old) (omega (arith, words_length))), sym (stored_full words old (omega (arith, words_length))))

    pub build_words : (room : ℕ) → rows + 1 + entries ≤ room → Some (rows + 1 + entries) ≡ answer words room
    build_words room h = ap Some (sym words_length) ∙ sym (answer_fits words room (omega (arith, words_length)))

  -- the rows that are kept lead to the same words
  module _ (spans : List ℕ) (S : Spanned band rows numbers spans n) (size : size_fits rows ≡ true) where
    same_row : (r : ℕ) → row_to (span_marks spans) n r ≡ row_to (marks band rows numbers) n r
    same_row = rows_same (span_marks spans) (marks band rows numbers) n (kept_marks band rows numbers spans n S size)

    pub build_fits : (entries room : ℕ) → entries ≡ start_of (row_to (marks band rows numbers) n) rows → rows + 1 + entries ≤ room → word_count (span_marks spans) n rows ≤ room
    build_fits entries room e h = let z : start_of (row_to (span_marks spans) n) rows ≡ start_of (row_to (marks band rows numbers) n) rows = λ j. start_of (λ r. same_row r j) rows in omega arith

    pub build_held : (old w : List ℕ) → w ≡ stored (layout (row_to (span_marks spans) n) rows) old → w ≡ stored words old
    build_held old w q = q ∙ (λ j. stored (layout (λ r. same_row r j) rows) old) ∙ ap (λ (l : List ℕ). stored l old) (sym (index_layout band rows numbers n))
