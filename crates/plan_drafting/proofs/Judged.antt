-- What the schedule and the index answer makes the answer to the draft, and their words stand where it is accepted. Assumes nothing.
use Rattle.std.proofs.Common.{Option, Some, None}
use mathlib.Core.Path.{◌≡◌, refl, sym, ap, ◌∙◌, subst}
use mathlib.Core.Bool.{Bool, true, false, ◌&&◌, false≢true}
use mathlib.Core.List.{List}
use Prim.Native.Nat.{ℕ, ◌*◌, ◌/◌, ◌≤◌, ◌<◌}
use native.Mathlib.Omega.{arith}
use lib.Dec.{leb}
use lib.ListN.{length, take, drop}
use lib.Ieee.{Float}
use borrow.Author.Tests.{le-leb, lt-leb, leb-true, leb-false}
use Rattle.base_refusals.specs.Table.{refused}
use Rattle.base_refusals.specs.declared.Fault.TheVariants.{NoRoom}
use Rattle.std.specs.Prelude.{Result, Ok, Err, ok_or}
use Rattle.base_refusals.specs.declared.Refusal.{Refusal}
use Rattle.base_lists.specs.Pick.{pick}
use Rattle.kurbo_geometry.specs.declared.Rect.{Rect}
use Rattle.runtime.specs.declared.FrameWork.{FrameWork}
use Rattle.runtime.specs.Work.{work_of}
use Rattle.compositor_scheduler.specs.declared.Totals.{Totals}
use Rattle.compositor_scheduler.specs.Schedule.{schedule, Answers}
use Rattle.compositor_scheduler.proofs.Outcomes.{Listed, answered, refused as unlisted, front_words}
use Rattle.compositor_band_index.specs.Answer.{index_of, answer, stored}
use Rattle.compositor_band_index.proofs.Answers.{stored_front}
use Rattle.plan_answers.specs.declared.Plan.{Plan}
use Rattle.plan_answers.specs.Drafts.{Draft}
use Rattle.plan_answers.specs.Answers.{draft_fits, planned, accepted}
use Rattle.plan_drafting.specs.Drafted.{draft_in, rooms, judged, indexed, WrittenIf}
use Rattle.plan_drafting.proofs.Words.{rects_words, part_boxes}
use Rattle.base_rect_words.proofs.Lists.{boxes_length}
use Rattle.base_rect_words.specs.Words.{boxes_to}
use Rattle.compositor_screen.specs.declared.Screen.{Screen}

-- ---- the index
module _ (ws : List ℕ) (n : ℕ) where
  words_count : (count : ℕ) → Some count ≡ answer ws n → count ≡ length ws
  unfolding answer
  words_count count e = go (leb (length ws) n) e
    where
      go : (t : Bool) → Some count ≡ pick t (Some (length ws)) None → count ≡ length ws
      go true e = cc
      go false e = let z : ◌≡◌ {A = ℕ} 0 1 = cc in absurd (omega arith)

  words_many : None ≡ answer ws n → n < length ws
  unfolding answer
  words_many e = go (leb (length ws) n) refl e
    where
      go : (t : Bool) → leb (length ws) n ≡ t → None ≡ pick t (Some (length ws)) None → n < length ws
      go true h e = let z : ◌≡◌ {A = ℕ} 0 1 = cc in absurd (omega arith)
      go false h e = leb-false (length ws) n h

module _ (room rects commands regions pixels : ℕ) (screen : Screen) (boxes : List Float) (old : List ℕ) {r : Option ℕ} (p : r ≡ answer (index_of boxes commands screen) (length old)) where
  abbrev ws : List ℕ
  ws = index_of boxes commands screen

  pub index_over : {count : ℕ} → r ≡ Some count → room < count → refused NoRoom 0 ≡ indexed (index_of boxes commands screen) room rects commands regions pixels
  index_over {count} q l = let e = words_count ws (length old) count (sym q ∙ p) in rw (lt-leb (length ws) room (omega arith))

  pub index_fits : {count : ℕ} → r ≡ Some count → count ≤ room → {work : FrameWork} → work ≡ work_of commands regions pixels → Ok (planned rects count work) ≡ indexed (index_of boxes commands screen) room rects commands regions pixels
  index_fits {count} q l {work} f = let e = words_count ws (length old) count (sym q ∙ p) in rw (le-leb (length ws) room (omega arith)) (λ i. Ok (planned rects (e i) (f i)))

  pub index_full : r ≡ None → room ≤ length old → refused NoRoom 0 ≡ indexed (index_of boxes commands screen) room rects commands regions pixels
  index_full q l = let e = words_many ws (length old) (sym q ∙ p) in rw (lt-leb (length ws) room (omega arith))

-- what `ok_or` puts in the place of nothing
pub no_room : {T : Type 0} (o : Option T) (why e : Refusal) → Err why ≡ ok_or o e → o ≡ None → why ≡ e
no_room {T} o why e h q = ap error (h ∙ ap (λ (x : Option T). ok_or x e) q)
  where
    error : Result T Refusal → Refusal
    error (Ok x) = e
    error (Err r) = r

-- ---- the draft
module _ (screen : Screen) (rs : List Float) (n : ℕ) (ibs : List Float) (first commands R G W : ℕ) where
  abbrev d : Draft
  d = draft_in screen rs n ibs first commands

  abbrev Refused : Type 0
  Refused = refused NoRoom 0 ≡ judged (rooms R G W) d

  fits_false : draft_fits (rooms R G W) d ≡ false → Refused
  fits_false e = rw e

  and_false : (x y : Bool) → y ≡ false → (x && y) ≡ false
  and_false true y e = e
  and_false false y e = refl

  pub rects_over : R < n → Refused
  unfolding draft_fits
  rects_over k = fits_false (rw (lt-leb (length (boxes_to rs n)) R (omega (arith, boxes_length rs n))))

  regions_many : G < length (schedule screen (boxes_to rs n)) → Refused
  unfolding draft_fits
  regions_many k = fits_false (and_false (leb (length (boxes_to rs n)) R) _ (rw (lt-leb (length (schedule screen (boxes_to rs n))) G k)))

  -- the rectangles fit, and those in front are scheduled
  module _ {gs new : List ℕ} (few : n ≤ R) (long : 4 * R ≤ length rs) {x : Option Totals} (front : Answers (schedule screen (boxes_to (take (4 * n) rs) (length (take (4 * n) rs) / 4))) gs x new) where
    given : {y : Option Totals} → x ≡ y → Answers (schedule screen (boxes_to rs n)) gs y new
    given q = subst (λ (y : Option Totals). Answers (schedule screen (boxes_to rs n)) gs y new) q (subst (λ (r : List Rect). Answers (schedule screen r) gs x new) (part_boxes rs n (omega arith)) front)

    pub regions_full : 4 * G ≤ length gs → x ≡ None → Refused
    regions_full k q = regions_many (omega (arith, unlisted (schedule screen (boxes_to rs n)) gs new (given q)))

    module _ {t : Totals} (q : x ≡ Some t) where
      pub regions_over : G < t.regions → Refused
      regions_over k = regions_many (omega (arith, (answered (schedule screen (boxes_to rs n)) gs new t (given q)).count_is))

      pub regions_fit : t.regions ≤ G → {p : Result Plan Refusal} {ws : List ℕ} (old : List ℕ) → W ≤ length old → p ≡ indexed (index_of (drop (4 * first) ibs) commands screen) W n commands t.regions t.pixels → ws ≡ stored (index_of (drop (4 * first) ibs) commands screen) old → (p ≡ judged (rooms R G W) d) × WrittenIf p d rs new ws
      unfolding draft_fits
      regions_fit m {p} {ws} old room e f = (answer_is, stands)
        where
          listed : Listed (schedule screen (boxes_to rs n)) gs t.regions t.pixels new
          listed = answered (schedule screen (boxes_to rs n)) gs new t (given q)

          words : List ℕ
          words = index_of (drop (4 * first) ibs) commands screen

          answer_is : p ≡ judged (rooms R G W) d
          answer_is =
              let u : leb (length (boxes_to rs n)) R ≡ true = le-leb (length (boxes_to rs n)) R (omega (arith, boxes_length rs n)) in
              let v : leb (length (schedule screen (boxes_to rs n))) G ≡ true = le-leb (length (schedule screen (boxes_to rs n))) G (omega (arith, listed.count_is)) in
              e ∙ rw (u, v) (λ i. pick (leb (length words) W) (Ok (planned (sym (boxes_length rs n) i) (length words) (work_of commands (listed.count_is i) (listed.pixels_are i)))) (refused NoRoom 0))

          low : (z : Bool) → leb (length words) W ≡ z → accepted (pick z (Ok (planned n (length words) (work_of commands t.regions t.pixels))) (refused NoRoom 0)) ≡ true → length words ≤ W
          low true g q = leb-true (length words) W g
          low false g q = absurd (false≢true q)

          stands : WrittenIf p d rs new ws
          stands q =
              let r = boxes_length rs n in
              let small = low (leb (length words) W) refl (sym (ap accepted e) ∙ q) in
              record {
                rects = ap (λ (k : ℕ). take (4 * k) rs) r ∙ rects_words rs n (omega arith);
                regions = ap (λ (k : ℕ). take (4 * k) new) (sym listed.count_is) ∙ front_words (schedule screen (boxes_to rs n)) gs new t.regions t.pixels listed;
                words = ap (take (length words)) f ∙ stored_front words old (omega arith);
              }
