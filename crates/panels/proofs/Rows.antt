-- Every region of an accepted call has one row, in whatever words begin with the plan's. Assumes nothing.
use mathlib.Core.Path.{◌≡◌, refl, sym, ap, ◌∙◌, subst}
use mathlib.Core.Bool.{true, true≢false}
use mathlib.Core.List.{List, ◌++◌, map}
use mathlib.Core.Option.{Option}
use Prim.Native.Nat.{ℕ, ◌/◌, ◌<◌}
use native.Mathlib.Omega.{arith}
use lib.ListN.{length, drop}
use Rattle.std.specs.Prelude.{Result, Ok, Err}
use Rattle.base_refusals.specs.declared.Refusal.{Refusal}
use Rattle.base_lists.specs.Members.{All}
use Rattle.base_lists.proofs.Members.{all_map}
use Rattle.kurbo_geometry.specs.declared.Rect.{Rect}
use Rattle.display_list_commands.specs.Bounds.{bounds}
use Rattle.compositor_device.specs.declared.DeviceRegion.{DeviceRegion}
use Rattle.compositor_rows.specs.Rows.{row_count}
use Rattle.compositor_index_words.specs.Index.{row_list, index_words}
use Rattle.compositor_candidates.specs.Table.{candidates, refusal}
use Rattle.compositor_candidates.proofs.Plans.{plan_accepted, plan_row}
use Rattle.compositor_scheduler.specs.Schedule.{schedule}
use Rattle.compositor_schedule_laws.specs.Placed.{Placed}
use Rattle.compositor_schedule_laws.proofs.Boxes.{boxes_schedulable}
use Rattle.strip.specs.Reading.{commands_of}
use Rattle.strip_frame.specs.declared.Strips.{Strips}
use Rattle.strip_frame.specs.declared.Entry.{Entry}
use Rattle.strip_frame.specs.Frame.{sizes_at, strips_of, old_commands}
use Rattle.plan_answers.specs.Drafts.{Outcome, refuses, drafted, rects_since, on_strips, outcome}
use Rattle.plan_answers.specs.Space.{Lent, lent_of}
use Rattle.plan_answers.specs.Answers.{answer_of, accepted, index_words_of}
use Rattle.panels.specs.Entries.{entry_after, strips_after, call_of, drafted_regions}
use Rattle.panels.specs.Rows.{RowAlike, SameRows}
use Rattle.panels.proofs.Entries.{by_header, words_behind}
use Rattle.compositor_screen.specs.declared.Screen.{Screen}
use Rattle.compositor_screen.specs.Sizes.{fits}
use Rattle.compositor_screen.proofs.Laws.{sizes_of}

module _ (header : List ℕ) (twelve : length header ≡ 12) where
  abbrev screen : Screen
  screen = sizes_at header

  -- the regions are a schedule and the words an index, whatever the old bytes are
  record Drawn (x : Outcome) : Type 0 where
    sizes : fits screen ≡ true
    rects : List Rect
    boxes : List Rect
    regions_are : drafted_regions x ≡ schedule screen rects
    words_are : index_words_of x ≡ index_words screen.band_height (row_count screen.height screen.band_height) boxes

  abbrev WhereDrawn : Outcome → Type 0
  WhereDrawn (refuses why) = Unit {0}
  WhereDrawn (drafted i d) = Drawn (drafted i d)

  strips_drawn : fits screen ≡ true → (entry : Entry) (s : List ℕ) (x : Result Strips Refusal) → WhereDrawn (on_strips entry screen s x)
  strips_drawn z entry s (Ok both) = record {
    sizes = z;
    rects = rects_since entry screen (old_commands entry s) (commands_of s both.old.at);
    boxes = map bounds (commands_of s both.old.at);
    regions_are = refl;
    words_are = refl;
  }
  strips_drawn z entry s (Err why) = tt

  call_drawn : (last : Option (List ℕ)) (s : List ℕ) → WhereDrawn (call_of header last s)
  unfolding outcome
  call_drawn last s =
      let input = header ++ strips_after last s in
      by_header header twelve WhereDrawn (strips_after last s) (λ screen. on_strips (entry_after last) screen input (strips_of (entry_after last) input)) (λ n. tt)
      (λ z. strips_drawn z (entry_after last) input (strips_of (entry_after last) input))

  drawn : (z : Lent) (x : Outcome) → WhereDrawn x → accepted (answer_of z x) ≡ true → Drawn x
  drawn z (refuses why) m e = absurd (true≢false (sym e))
  drawn z (drafted i d) m e = m

  module _ (x : Outcome) (m : Drawn x) (rest others tail : List ℕ) (whole : others ≡ index_words_of x ++ tail) where
    row_alike : (r : DeviceRegion) → Placed screen r → RowAlike header (index_words_of x ++ rest) others r
    row_alike r p =
        let y : r.y < screen.height = omega (arith, p.on.some_height, p.on.down) in
        let row : (t : List ℕ) → candidates screen r.y (index_words_of x ++ t) ≡ row_list screen.band_height (row_count screen.height screen.band_height) m.boxes (r.y / screen.band_height)
        = λ t. ap (λ (l : List ℕ). candidates screen r.y (l ++ t)) m.words_are ∙ plan_row screen r.y m.boxes t m.sizes y in
        record {
          answered = ap (λ (l : List ℕ). refusal screen r.y (l ++ rest)) m.words_are ∙ plan_accepted screen r.y m.boxes rest m.sizes y;
          alike = row rest ∙ sym (row tail) ∙ ap (candidates screen r.y) (sym whole);
        }

    rows_alike : All (RowAlike header (index_words_of x ++ rest) others) (drafted_regions x)
    rows_alike = all_map (Placed screen) (RowAlike header (index_words_of x ++ rest) others) row_alike (drafted_regions x)
        (subst (All (Placed screen)) (sym m.regions_are) (boxes_schedulable (sizes_of screen m.sizes) m.rects).placed)

pub same_rows : SameRows
same_rows header twelve last s z e rest =
    let x = call_of header last s in
    rows_alike header twelve x (drawn header twelve (lent_of z) x (call_drawn header twelve last s) e) rest _ (drop (length (index_words_of x)) z.words)
    (words_behind header twelve (answer_of (lent_of z) x) (index_words_of x) z.words e)
