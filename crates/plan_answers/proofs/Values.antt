-- Plans are functions of values: of boxes that differ in the signs of zeros alone, and of commands that match, there is one answer, and one output but for
-- those signs. Assumes nothing.
use mathlib.Core.Path.{◌≡◌}
use mathlib.Core.Bool.{◌&&◌}
use mathlib.Core.List.{List, [], ◌∷◌, map}
use lib.Dec.{leb}
use lib.ListN.{length}
use Rattle.std.specs.Prelude.{Ok}
use Rattle.base_refusals.specs.declared.Fault.TheVariants.{NoRoom}
use Rattle.base_refusals.specs.Table.{refused}
use Rattle.base_lists.specs.Pick.{pick}
use Rattle.base_lists.specs.Places.{ByPlace}
use Rattle.base_lists.proofs.Places.{place_length, place_map, place_mapped}
use Rattle.base_ieee.specs.Values.{Same}
use Rattle.kurbo_geometry.specs.declared.Rect.{Rect}
use Rattle.kurbo_geometry.proofs.Values.{SameBox, SameBoxes}
use Rattle.display_list_commands.specs.Bounds.{Command, bounds}
use Rattle.compositor_rows.specs.Rows.{row_count}
use Rattle.display_list_changes.proofs.Values.{Matched, matched_bounds}
use Rattle.base_rect_list.specs.Rects as Rects
use Rattle.compositor_scheduler.specs.Schedule as Schedule
use Rattle.compositor_scheduler.proofs.Values.{schedule_same}
use Rattle.compositor_index_words.proofs.Values.{index_words_same}
use Rattle.runtime.specs.Work.{work_of}
use Rattle.plan_answers.specs.Drafts.{Draft, draft, Items, drafted}
use Rattle.plan_answers.specs.Space.{Lent}
use Rattle.plan_answers.specs.Answers.{items_fit, draft_fits, planned, counts, answer_of}
use Rattle.compositor_screen.specs.declared.Screen.{Screen}

-- two drafts that only the signs of zero edges tell apart
pub record SameDraft (d e : Draft) : Type 0 where
  pub rects : SameBoxes d.rects e.rects
  pub regions : d.regions ≡ e.regions
  pub words : d.words ≡ e.words
  pub emitted : d.emitted ≡ e.emitted

pub draft_same : (screen : Screen) (rs ss : List Rect) (cs ds : List Command) → SameBoxes rs ss → ByPlace Matched cs ds → SameDraft (draft screen rs cs) (draft screen ss ds)
draft_same screen rs ss cs ds p m = record {
  rects = p;
  regions = schedule_same screen rs ss p;
  words = index_words_same screen.band_height (row_count screen.height screen.band_height) (map bounds cs) (map bounds ds) (place_mapped SameBox bounds bounds cs ds (place_map Matched (λ c d. SameBox (bounds c) (bounds d)) matched_bounds cs ds m));
  emitted = place_length Matched cs ds m;
}

-- ---- the answer, with items that fit alike
module _ (d e : Draft) (s : SameDraft d e) where
  rect_count : length d.rects ≡ length e.rects
  rect_count = place_length SameBox d.rects e.rects s.rects

  fits_same : (z : Lent) → draft_fits z d ≡ draft_fits z e
  unfolding draft_fits
  fits_same z = λ i. leb (rect_count i) z.rects && (leb (length (s.regions i)) z.regions && leb (length (s.words i)) z.words)

  counts_same : counts d ≡ counts e
  counts_same = λ i. Ok (planned (rect_count i) (length (s.words i)) (work_of (s.emitted i) (length (s.regions i)) (Schedule.pixels_of (s.regions i))))

  pub answer_same : (z : Lent) (i j : Items) → items_fit z i ≡ items_fit z j → answer_of z (drafted i d) ≡ answer_of z (drafted j e)
  answer_same z i j f = λ k. pick (f k && fits_same z k) (counts_same k) (refused NoRoom 0)

-- ---- the words of rectangles
pub rect_words_same : (l m : List Rect) → SameBoxes l m → ByPlace Same (Rects.words_of_rects l) (Rects.words_of_rects m)
unfolding Rects.words_of_rects ByPlace
rect_words_same [] [] h = tt
rect_words_same [] (b ∷ m) h = absurd h
rect_words_same (a ∷ l) [] h = absurd h
rect_words_same (a ∷ l) (b ∷ m) h = (h.0.x0, (h.0.y0, (h.0.x1, (h.0.y1, rect_words_same l m h.1))))
