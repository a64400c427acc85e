-- From a draft in scratch to the output: an accepted plan's counts are within scratch and output, and what is copied is what the plan publishes. Assumes nothing.
use mathlib.Core.Path.{◌≡◌, refl, sym, subst}
use mathlib.Core.Bool.{true, ◌&&◌}
use mathlib.Core.List.{List, [], ◌∷◌, ◌++◌}
use Prim.Native.Nat.{ℕ, ◌*◌, ◌/◌, ◌≤◌, min}
use native.Mathlib.Omega.{arith}
use lib.Dec.{leb}
use lib.ListN.{length, take, drop}
use lib.Ieee.{Float}
use lib.Ieee.Fits.{and_l, and_r}
use borrow.Author.Tests.{leb-true}
use Rattle.base_lists.proofs.Bools.{holds, is_true}
use Rattle.std.specs.Prelude.{Result, Err}
use Rattle.base_refusals.specs.declared.Fault.TheVariants.{NoRoom}
use Rattle.base_refusals.specs.declared.Refusal.{Refusal}
use Rattle.base_refusals.specs.Table.{refused, refusal}
use Rattle.base_lists.proofs.Picks.{pick_cases}
use Rattle.kurbo_geometry.specs.declared.Rect.{Rect}
use Rattle.base_rect_list.specs.Rects as Rects
use Rattle.compositor_scheduler.proofs.Writes.{words_length}
use Rattle.plan_answers.specs.declared.Plan.{Plan}
use Rattle.plan_answers.specs.Drafts.{Draft, Items, Outcome, refuses, drafted}
use Rattle.plan_answers.specs.Space.{Lent}
use Rattle.plan_answers.specs.Answers.{items_fit, draft_fits, counts, answer_of, rect_words_of, region_words_of, index_words_of, published}
use Rattle.plan_drafting.specs.Drafted.{DraftWritten}
use Rattle.plan_frame_drafts.specs.Scratch.{WrittenFor, lent_scratch}
use Rattle.planner.specs.Calls.{rect_count, region_count, word_count, Copies}

-- a rectangle has four words
rects_length : (l : List Rect) → length (Rects.words_of_rects l) ≡ 4 * length l
unfolding Rects.words_of_rects
rects_length [] = refl
rects_length (r ∷ l) = omega (arith, rects_length l)

-- ---- what an answer counts is within the space lent
pub record Fits (z : Lent) (r : Result Plan Refusal) : Type 0 where
  pub rects : rect_count r ≤ 4 * z.rects
  pub regions : region_count r ≤ 4 * z.regions
  pub words : word_count r ≤ z.words

none_fits : (z : Lent) (why : Refusal) → Fits z (Err why)
none_fits z why = record { rects = omega arith; regions = omega arith; words = omega arith }

draft_fit : (z : Lent) (d : Draft) → draft_fits z d ≡ true → Fits z (counts d)
unfolding draft_fits
draft_fit z d e =
    let a = leb (length d.rects) z.rects in
    let b = leb (length d.regions) z.regions in
    let c = leb (length d.words) z.words in
    let t = holds (a && (b && c)) e in
    let p = leb-true (length d.rects) z.rects (is_true a (and_l a (b && c) t)) in
    let q = leb-true (length d.regions) z.regions (is_true b (and_l b c (and_r a (b && c) t))) in
    let s = leb-true (length d.words) z.words (is_true c (and_r b c (and_r a (b && c) t))) in
    record { rects = omega (arith, p); regions = omega (arith, q); words = s }

pub answer_fits : (z : Lent) (o : Outcome) → Fits z (answer_of z o)
answer_fits z (refuses why) = none_fits z why
answer_fits z (drafted i d) =
    pick_cases (Fits z) (items_fit z i && draft_fits z d) (counts d) (refused NoRoom 0)
    (λ e. draft_fit z d (is_true _ (and_r (items_fit z i) (draft_fits z d) (holds _ e))))
    (λ e. none_fits z (refusal NoRoom 0))

-- ---- what is copied is what is published
module _ (z : Lent) (o : Outcome) (r : Result Plan Refusal) (a : r ≡ answer_of z o) (rs : List Float) (gs ws : List ℕ) (s : WrittenFor r o rs gs ws) (old-rs : List Float) (old-gs old-ws : List ℕ) where
  abbrev Publishes : Outcome → Result Plan Refusal → Type 0
  Publishes o r =
      (take (rect_count r) rs ++ drop (rect_count r) old-rs ≡ published r (rect_words_of o) old-rs)
      × ((take (region_count r) gs ++ drop (region_count r) old-gs ≡ published r (region_words_of o) old-gs)
      × (take (word_count r) ws ++ drop (word_count r) old-ws ≡ published r (index_words_of o) old-ws))

  draft_published : (i : Items) (d : Draft) → DraftWritten d rs gs ws → Publishes (drafted i d) (counts d)
  draft_published i d t = (
    rw (rects_length d.rects, t.rects) refl,
    (
      rw (words_length d.regions, t.regions) refl,
      rw t.words refl,
    ),
  )

  published_of : (o : Outcome) → WrittenFor (answer_of z o) o rs gs ws → Publishes o (answer_of z o)
  published_of (refuses why) t = (refl, (refl, refl))
  published_of (drafted i d) t =
      pick_cases (λ r. WrittenFor r (drafted i d) rs gs ws → Publishes (drafted i d) r) (items_fit z i && draft_fits z d) (counts d) (refused NoRoom 0)
      (λ e t. draft_published i d (t refl))
      (λ e t. (refl, (refl, refl)))
      t

  pub publishes : Publishes o r
  publishes = subst (Publishes o) (sym a) (published_of o (subst (λ (q : Result Plan Refusal). WrittenFor q o rs gs ws) a s))

-- ---- a call
-- the rooms that a call works out are the space lent: what stands in scratch after the draft can be copied
pub copies :
    (rs drs : List Float) (work spare gs dgs ws dws : List ℕ) (R G W : ℕ) → R ≡ min (min (length rs / 4) (length drs / 4)) (min (length work) (length spare)) → G ≡ min (length gs / 4) (length dgs / 4) → W ≡ min (length ws) (length dws) → (bs : List Float) (ns is : List ℕ) (ibs : List Float) (glyphs : List ℕ) (o : Outcome) (r : Result Plan Refusal) → r ≡ answer_of (lent_scratch bs ns is ibs glyphs R G W) o → (drs' : List Float) (dgs' dws' : List ℕ) → length drs' ≡ length drs → length dgs' ≡ length dgs → length dws' ≡ length dws → Copies r drs' dgs' dws' rs gs ws
copies rs drs work spare gs dgs ws dws R G W rect_room region_room word_room bs ns is ibs glyphs o r a drs' dgs' dws' p q t =
    let f : Fits (lent_scratch bs ns is ibs glyphs R G W) r = subst (Fits (lent_scratch bs ns is ibs glyphs R G W)) (sym a) (answer_fits (lent_scratch bs ns is ibs glyphs R G W) o) in
    record {
      from_rects = omega (arith, f.rects, rect_room, p);
      from_regions = omega (arith, f.regions, region_room, q);
      from_words = omega (arith, f.words, word_room, t);
      to_rects = omega (arith, f.rects, rect_room);
      to_regions = omega (arith, f.regions, region_room);
      to_words = omega (arith, f.words, word_room);
    }
