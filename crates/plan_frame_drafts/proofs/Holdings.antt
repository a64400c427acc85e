-- What lent space holds of the strips that were read, where their items fit: the counts are small, and the boxes of the new commands stand in a row.
-- Assumes nothing.
use Rattle.std.specs.Prelude.{Result, Ok}
use Rattle.base_refusals.specs.declared.Refusal.{Refusal}
use Rattle.std.proofs.Common.{◌≡◌, ℕ, zero, suc, ◌+◌, ◌*◌, ◌/◌, min, true, ◌&&◌, leb, List, map, length, drop, sym, refl, ap, ◌∙◌, subst, arith, leb-true}
use lib.Ieee.{Float}
use lib.Ieee.Fits.{and_l, and_r}
use Rattle.base_lists.proofs.Bools.{holds, is_true}
use Rattle.base_rect_words.specs.Words.{boxes_to}
use Rattle.display_list_commands.specs.Bounds.{Command, bounds}
use Rattle.strip.specs.declared.Cursor.{Cursor}
use Rattle.strip.specs.Steps.{start_at}
use Rattle.strip_laws.specs.Limits.{Within, WhereRead}
use Rattle.strip_laws.proofs.Limits.{strip_within}
use Rattle.strip_frame.specs.declared.Strips.{Strips}
use Rattle.strip_frame.specs.declared.Entry.{Entry}
use Rattle.strip_frame.specs.declared.Entry.TheVariants.{First, Next}
use Rattle.strip_frame.specs.Frame.{header_length, old_of, strips_of}
use Rattle.strip_frame.proofs.Checks.{strips_told}
use Rattle.display_list_stored.specs.Stored.{commands_in, Stored}
use Rattle.display_list_stored.proofs.Places.{boxes_beside}
use Rattle.strip_recording.specs.Recorded.{Space, SameLengths, Room}
use Rattle.plan_answers.specs.Drafts.{Items}
use Rattle.plan_answers.specs.Answers.{items_fit}
use Rattle.plan_frame_drafts.specs.Scratch.{lent_scratch}

-- ---- the counts are within the limits
none_within : Within (start_at header_length)
none_within = record { depth = omega arith; commands = omega arith; glyphs = omega arith; clips = omega arith }

old_within : (entry : Entry) (s : List ℕ) (old : Cursor) → old_of entry s ≡ Ok old → Within old
old_within First s old e = subst (WhereRead Within) e none_within
old_within Next s old e = subst (WhereRead Within) e (strip_within s header_length)

pub both_within : (entry : Entry) (s : List ℕ) {r : Result Strips Refusal} → r ≡ strips_of entry s → {both : Strips} → r ≡ Ok both → Within both.old × Within both.new
both_within entry s a {both} q =
    let t = strips_told entry s a q in
    (old_within entry s both.old t.0, subst (WhereRead Within) t.1 (strip_within s both.old.at))

-- ---- items that fit
-- whatever is lent for the draft
pub items_same : (z y : Space) (glyphs : List ℕ) (R G W : ℕ) (i : Items) → SameLengths z y → items_fit (lent_scratch y.boxes y.below y.items y.item_boxes glyphs 0 0 0) i ≡ items_fit (lent_scratch z.boxes z.below z.items z.item_boxes glyphs R G W) i
unfolding items_fit
items_same z y glyphs R G W i l = λ j. leb i.commands (min (l.items j / 2) (l.item_boxes j / 4)) && (leb i.glyphs (length glyphs) && leb i.clips (min (l.boxes j / 8) (l.below j)))

pub items_room : (y : Space) (glyphs : List ℕ) (i : Items) → items_fit (lent_scratch y.boxes y.below y.items y.item_boxes glyphs 0 0 0) i ≡ true → Room i.clips i.commands y
unfolding items_fit
items_room y glyphs i e =
    let a = leb i.commands (min (length y.items / 2) (length y.item_boxes / 4)) in
    let b = leb i.glyphs (length glyphs) in
    let c = leb i.clips (min (length y.boxes / 8) (length y.below)) in
    let t = holds (a && (b && c)) e in
    let p = leb-true i.commands (min (length y.items / 2) (length y.item_boxes / 4)) (is_true a (and_l a (b && c) t)) in
    let q = leb-true i.clips (min (length y.boxes / 8) (length y.below)) (is_true c (and_r b c (and_r a (b && c) t))) in
    record { boxes = omega (arith, q); below = omega (arith, q); items = omega (arith, p); item_boxes = omega (arith, p) }

-- ---- the boxes of the commands from a place on
pub list_length : (s : List ℕ) (bs : List Float) (ns is : List ℕ) (n i : ℕ) → length (commands_in s bs ns is i n) ≡ n
unfolding commands_in
list_length s bs ns is zero i = refl
list_length s bs ns is (suc n) i = ap suc (list_length s bs ns is n (suc i))

module _ (s : List ℕ) (bs : List Float) (ns is : List ℕ) (ibs : List Float) (first n : ℕ) (h : Stored (first + n) s bs ns is ibs) where
  pub stored_boxes : (cs : List Command) → commands_in s bs ns is first n ≡ cs → boxes_to (drop (4 * first) ibs) n ≡ map bounds cs
  stored_boxes cs e = sym (boxes_beside s bs ns is ibs (first + n) h first n (omega arith)) ∙ ap (map bounds) e
