-- The answer to a whole input: refused by its bytes, by its items, or as the draft is judged. Assumes nothing.
use Rattle.std.specs.Prelude.{Result}
use Rattle.base_refusals.specs.declared.Fault.TheVariants.{NoRoom}
use Rattle.base_refusals.specs.declared.Refusal.{Refusal}
use Rattle.base_refusals.specs.Table.{refused}
use Rattle.std.proofs.Common.{◌≡◌, ℕ, ◌*◌, ◌<◌, ◌≤◌, true, false, leb, List, map, length, take, drop, sym, ap, ◌∙◌, subst, arith}
use mathlib.Core.Bool.{false≢true}
use lib.Ieee.{Float}
use borrow.Author.Tests.{lt-leb}
use Rattle.base_lists.proofs.Picks.{by_le}
use Rattle.kurbo_geometry.specs.declared.Rect.{Rect}
use Rattle.display_list_commands.specs.Bounds.{Command, bounds}
use Rattle.compositor_rows.specs.Rows.{row_count}
use Rattle.compositor_index_words.specs.Index.{index_words}
use Rattle.base_rect_list.specs.Rects.{Listed}
use Rattle.compositor_scheduler.specs.Schedule.{schedule}
use Rattle.plan_answers.specs.declared.Plan.{Plan}
use Rattle.plan_answers.specs.Drafts.{Draft, draft, Items, drafted, screen_rect}
use Rattle.plan_answers.specs.Space.{Lent}
use Rattle.plan_answers.specs.Answers.{items_fit, draft_fits, accepted, answer_of}
use Rattle.plan_drafting.specs.Drafted.{draft_in, rooms, judged, WrittenIf}
use Rattle.plan_drafting.proofs.Words.{rects_back}
use Rattle.base_rect_words.proofs.Lists.{boxes_length}
use Rattle.base_rect_words.specs.Words.{boxes_to}
use Rattle.compositor_screen.specs.declared.Screen.{Screen}

-- ---- the draft in scratch is that of the lists
module _ (screen : Screen) (l : List Rect) (cs : List Command) (old rs : List Float) (n : ℕ) (ibs : List Float) (first count R G W : ℕ) (listed : Listed old l rs n) (long : 4 * R ≤ length old) (boxes : boxes_to (drop (4 * first) ibs) count ≡ map bounds cs) (many : count ≡ length cs) where
  same_draft : n ≤ R → draft_in screen rs n ibs first count ≡ draft screen l cs
  same_draft k =
      let front = listed.words (omega arith) in
      let m = listed.count in
      let r : boxes_to rs n ≡ l = ap (boxes_to rs) m ∙ rects_back l rs (screen_rect screen) (ap (λ (j : ℕ). take (4 * j) rs) (sym m) ∙ front) in
      λ i. record { rects = r i; regions = schedule screen (r i); words = index_words screen.band_height (row_count screen.height screen.band_height) (boxes i); emitted = many i }

  module _ (z : Lent) (i : Items) (fit : items_fit z i ≡ true) (same-rects : z.rects ≡ R) (same-regions : z.regions ≡ G) (same-words : z.words ≡ W) (p : Result Plan Refusal) (gs ws : List ℕ) (e : p ≡ judged (rooms R G W) (draft_in screen rs n ibs first count)) (f : WrittenIf p (draft_in screen rs n ibs first count) rs gs ws) where
    abbrev Answered : Type 0
    Answered = (p ≡ answer_of z (drafted i (draft screen l cs))) × WrittenIf p (draft screen l cs) rs gs ws

    fits_small : n ≤ R → (p ≡ answer_of z (drafted i (draft screen l cs))) × WrittenIf p (draft screen l cs) rs gs ws
    unfolding draft_fits
    fits_small k =
        let d = same_draft k in
        (e ∙ ap (judged (rooms R G W)) d ∙ rw (fit, same-rects, same-regions, same-words), subst (λ (x : Draft). WrittenIf p x rs gs ws) d f)

    too_many : R < n → (p ≡ answer_of z (drafted i (draft screen l cs))) × WrittenIf p (draft screen l cs) rs gs ws
    unfolding draft_fits
    too_many k =
        let u : leb (length (boxes_to rs n)) R ≡ false = lt-leb (length (boxes_to rs n)) R (omega (arith, boxes_length rs n)) in
        let v : leb (length l) R ≡ false = lt-leb (length l) R (omega (arith, listed.count)) in
        let c : p ≡ refused NoRoom 0 = e ∙ rw u in
        (c ∙ rw (fit, same-rects, v), λ q. absurd (false≢true (sym (ap accepted c) ∙ q)))

    pub answered : (p ≡ answer_of z (drafted i (draft screen l cs))) × WrittenIf p (draft screen l cs) rs gs ws
    answered = by_le n R fits_small too_many

-- ---- items that do not fit
pub no_items : (z : Lent) (i : Items) (d : Draft) → items_fit z i ≡ false → (refused NoRoom 0 ≡ answer_of z (drafted i d))
no_items z i d e = rw e
