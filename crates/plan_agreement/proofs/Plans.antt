-- What agrees is planned alike, at either entry. Assumes nothing.
use mathlib.Core.Path.{◌≡◌, refl, ap, subst}
use mathlib.Core.Logic.{inl}
use mathlib.Core.List.{List}
use Prim.Native.Nat.{ℕ}
use lib.ListN.{length, drop}
use lib.Ieee.{Float}
use Rattle.std.specs.Prelude.{Result, Ok, Err}
use Rattle.base_refusals.specs.declared.Refusal.{Refusal}
use Rattle.base_lists.specs.Places.{ByPlace}
use Rattle.base_lists.proofs.Places.{place_none, place_one, place_length, place_append, place_self}
use Rattle.base_ieee.specs.Values.{Same}
use Rattle.kurbo_geometry.proofs.Values.{SameBox, SameBoxes, box_self}
use Rattle.display_list_changes.proofs.Values.{diff_dirty_same}
use Rattle.compositor_scheduler.specs.Schedule as Schedule
use Rattle.strip.specs.Reading.{commands_of}
use Rattle.compositor_screen.specs.declared.Screen.{Screen}
use Rattle.strip_frame.specs.declared.Entry.{Entry}
use Rattle.strip_frame.specs.declared.Entry.TheVariants.{First, Next}
use Rattle.strip_frame.specs.Frame.{header_of, strips_of, old_commands}
use Rattle.plan_answers.specs.declared.Plan.{Plan}
use Rattle.plan_answers.specs.Drafts.{Draft, draft, Items, items_of, Outcome, drafted, screen_rect, rects_since, on_strips, on_header, outcome}
use Rattle.plan_answers.specs.Space.{Lent}
use Rattle.plan_answers.specs.Answers.{items_fit, answer_of, rect_words_of, region_words_of, index_words_of, published}
use Rattle.plan_answers.proofs.Values.{SameDraft, draft_same, answer_same, rect_words_same}
use Rattle.plan_agreement.specs.Agree.{AgreeAll}
use Rattle.plan_agreement.specs.Plans.{SamePlan, SameByValue}
use Rattle.plan_agreement.proofs.Strips.{strips_matched}
use Rattle.plan_agreement.proofs.Counts.{items_alike}

-- drafts that only the signs of zero edges tell apart, with items that fit alike
drafts_plan : (z : Lent) (i j : Items) (d e : Draft) → SameDraft d e → items_fit z i ≡ items_fit z j → SamePlan z (drafted i d) (drafted j e)
drafts_plan z i j d e s r = record {
  answer = answer_same d e s z i j r;
  regions = ap Schedule.words_of_regions s.regions;
  index = s.words;
  rects = rect_words_same d.rects e.rects s.rects;
}

-- headers of the same sizes, or one refusal
module _ (z : Lent) (f g : Screen → Outcome) (same : (screen : Screen) → SamePlan z (f screen) (g screen)) where
  on_header_lem : (x : Result Screen Refusal) → SamePlan z (on_header x f) (on_header x g)
  on_header_lem (Ok screen) = same screen
  on_header_lem (Err why) = record { answer = refl; regions = refl; index = refl; rects = place_none Same }

  on_headers : (x y : Result Screen Refusal) → x ≡ y → SamePlan z (on_header x f) (on_header y g)
  on_headers x y e = subst (λ y. SamePlan z (on_header x f) (on_header y g)) e (on_header_lem x)

-- ---- inputs that agree
-- what changed in each is the same boxes, but for the signs of zeros
rects_same : (entry : Entry) (screen : Screen) (s t : List ℕ) (p q : ℕ) → AgreeAll (old_commands entry s) (old_commands entry t) → AgreeAll (commands_of s p) (commands_of t q) → SameBoxes (rects_since entry screen (old_commands entry s) (commands_of s p)) (rects_since entry screen (old_commands entry t) (commands_of t q))
rects_same First screen s t p q a b = place_one SameBox (screen_rect screen) (screen_rect screen) (box_self (screen_rect screen))
rects_same Next screen s t p q a b = diff_dirty_same (commands_of s 12) (commands_of t 12) (commands_of s p) (commands_of t q) (strips_matched s t 12 12 a) (strips_matched s t p q b)

pub same_by_value : SameByValue
unfolding outcome
same_by_value z entry s t x y a =
    on_headers z (λ screen. on_strips entry screen s (strips_of entry s)) (λ screen. on_strips entry screen t (strips_of entry t)) (λ screen. rw (a.read, a.other_read) (drafts screen)) (header_of s) (header_of t) a.sizes
  where
    drafts : (screen : Screen) → SamePlan z (on_strips entry screen s (Ok x)) (on_strips entry screen t (Ok y))
    drafts screen =
        let cs = commands_of s x.old.at in
        let ds = commands_of t y.old.at in
        let rs = rects_since entry screen (old_commands entry s) cs in
        let rs' = rects_since entry screen (old_commands entry t) ds in
        drafts_plan z (items_of x.old x.new) (items_of y.old y.new) (draft screen rs cs) (draft screen rs' ds)
        (draft_same screen rs rs' cs ds (rects_same entry screen s t x.old.at y.old.at a.old_agree a.new_agree) (strips_matched s t x.old.at y.old.at a.new_agree))
        (items_alike z entry s t x y a)

-- ---- so every word of the output is the same over what stood there before, whether the calls are accepted or not, but for the sign of a zero edge
module _ (z : Lent) (x y : Outcome) (p : SamePlan z x y) where
  pub regions_published : (before : List ℕ) → published (answer_of z x) (region_words_of x) before ≡ published (answer_of z y) (region_words_of y) before
  regions_published before = λ i. published (p.answer i) (p.regions i) before

  pub index_published : (before : List ℕ) → published (answer_of z x) (index_words_of x) before ≡ published (answer_of z y) (index_words_of y) before
  index_published before = λ i. published (p.answer i) (p.index i) before

  pub rects_published : (before : List Float) → ByPlace Same (published (answer_of z x) (rect_words_of x) before) (published (answer_of z y) (rect_words_of y) before)
  rects_published before = subst (λ a. ByPlace Same (published (answer_of z x) (rect_words_of x) before) (published a (rect_words_of y) before)) p.answer (over (answer_of z x) (rect_words_of x) (rect_words_of y) p.rects)
    where
      kept : (l : List Float) → ByPlace Same l l
      kept = place_self Same (λ f. inl refl)

      over : (a : Result Plan Refusal) (l m : List Float) → ByPlace Same l m → ByPlace Same (published a l before) (published a m before)
      over (Ok plan) l m h = place_append Same l (drop (length l) before) m (drop (length m) before) h (subst (λ n. ByPlace Same (drop (length l) before) (drop n before)) (place_length Same l m h) (kept (drop (length l) before)))
      over (Err why) l m h = kept before
