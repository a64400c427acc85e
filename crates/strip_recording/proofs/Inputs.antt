-- Whole inputs: the new strip behind the old one, which may be nothing. Assumes nothing.
use mathlib.Core.Path.{◌≡◌, refl, sym, ap, ◌∙◌, subst}
use mathlib.Core.List.{List}
use Prim.Native.Nat.{ℕ, ◌+◌, ◌≤◌}
use native.Mathlib.Omega.{arith}
use lib.Dec.{ltb}
use lib.ListN.{length}
use Rattle.std.specs.Prelude.{Result, Ok, Err}
use Rattle.base_refusals.specs.declared.Fault.TheVariants.{TrailingByte}
use Rattle.base_refusals.specs.declared.Refusal.{Refusal}
use Rattle.base_refusals.specs.Table.{refused}
use Rattle.base_lists.proofs.Picks.{pick_cases}
use Rattle.display_list_clips.proofs.Chaining.{no_clips}
use Rattle.strip.specs.declared.Cursor.{Cursor}
use Rattle.strip.specs.Steps.{start_at}
use Rattle.strip.specs.Reading.{read_strip}
use Rattle.strip_laws.specs.Limits.{Within, WhereRead}
use Rattle.strip_laws.proofs.Limits.{strip_within}
use Rattle.strip_frame.specs.declared.Strips.{Strips}
use Rattle.strip_frame.specs.declared.Entry.{Entry}
use Rattle.strip_frame.specs.declared.Entry.TheVariants.{First, Next}
use Rattle.strip_frame.specs.Frame.{header_length, old_of, strips_of, old_commands, with_old, then_new, then_end, ended}
use Rattle.strip_frame.proofs.Checks.{strips_next}
use Rattle.display_list_stored.specs.Stored.{commands_in}
use Rattle.strip_recording.specs.Recorded.{Space, SameLengths, Room, Holds, Records, Two, RecordsNew, RecordsStrips}
use Rattle.strip_recording.proofs.Lists.{lists_alike, list_none}

-- a space that nothing has been written to holds nothing
holds_none : (s : List ℕ) (z : Space) → Holds 0 0 s z
holds_none s z = record {
  stored = record {
    used = 0;
    clips = no_clips z.boxes z.below;
    items = omega arith;
    boxes = omega arith;
    lower = λ i h. absurd (omega arith);
    whole = λ i h. absurd (omega arith);
    boxed = λ i h. absurd (omega arith);
  };
  used_is = refl;
}

-- the lengths of a space do not change
lengths_both : {x y z : Space} → SameLengths x y → SameLengths y z → SameLengths x z
lengths_both a b = record { boxes = b.boxes ∙ a.boxes; below = b.below ∙ a.below; items = b.items ∙ a.items; item_boxes = b.item_boxes ∙ a.item_boxes }

-- so there is as much room
room_before : {x y : Space} {c m : ℕ} → SameLengths x y → Room c m y → Room c m x
room_before l r = record { boxes = omega (arith, l.boxes, r.boxes); below = omega (arith, l.below, r.below); items = omega (arith, l.items, r.items); item_boxes = omega (arith, l.item_boxes, r.item_boxes) }

room_less : {x : Space} {c d m n : ℕ} → c ≤ d → m ≤ n → Room d n x → Room c m x
room_less p q r = record { boxes = omega (arith, r.boxes); below = omega (arith, r.below); items = omega (arith, r.items); item_boxes = omega (arith, r.item_boxes) }

-- the counts of a strip that was read are small
pub read_small : (s : List ℕ) (at : ℕ) (t : Cursor) → Ok t ≡ read_strip s at → (t.clips ≤ 4096) × (t.commands ≤ 4096)
read_small s at t e = let w : WhereRead Within (Ok t) = subst (WhereRead Within) (sym e) (strip_within s at) in (w.clips, w.commands)

-- ---- a strip that was read, and what its end comes to
-- the cursor of an end is that of the strip
end_is : (s : List ℕ) (t new : Cursor) → Ok new ≡ ended s t → t ≡ new
unfolding ended
end_is s t new e = pick_cases Same (ltb t.at (length s)) (refused TrailingByte t.at) (Ok t) (λ k n u. absurd (subst Read u tt)) (λ k n u. sym (ap (λ (x : Result Cursor Refusal). cursor_of x t) u)) new e
  where
    cursor_of : Result Cursor Refusal → Cursor → Cursor
    cursor_of (Ok u) c = u
    cursor_of (Err why) c = c

    Read : Result Cursor Refusal → Type 0
    Read (Ok u) = Unit {0}
    Read (Err why) = ⊥

    Same : Result Cursor Refusal → Type 0
    Same x = (n : Cursor) → Ok n ≡ x → t ≡ n

-- ---- the new strip behind the old one
module _ (s : List ℕ) (old : Cursor) (z y : Space) (r : Result Cursor Refusal) (a : r ≡ read_strip s old.at) (l : SameLengths z y) (h : Records s old.at old.clips old.commands z y r) where
  abbrev News : Result Strips Refusal → Type 0
  News f = (f ≡ then_new s old (read_strip s old.at)) × (SameLengths z y × RecordsNew s old z y f)

  module _ (t : Cursor) (q : r ≡ Ok t) where
    pub new_end : (new : Cursor) → Ok new ≡ ended s t → News (Ok (record { old = old; new = new }))
    new_end new e = (ap (with_old old) (e ∙ ap (then_end s) (sym q ∙ a)), (l, subst (Records s old.at old.clips old.commands z y) (q ∙ ap Ok (end_is s t new e)) h))

    pub new_more : (why : Refusal) → Err why ≡ ended s t → News (Err why)
    new_more why e = (ap (with_old old) (e ∙ ap (then_end s) (sym q ∙ a)), (l, tt))

  pub new_refused : (why : Refusal) → r ≡ Err why → News (Err why)
  new_refused why q = (ap (λ (x : Result Cursor Refusal). with_old old (then_end s x)) (sym q ∙ a), (l, tt))

-- ---- the old strip, from x to z, up to the cursor `old`
pub record OldHeld (entry : Entry) (s : List ℕ) (z : Space) (old : Cursor) : Type 0 where
  held : Holds old.clips old.commands s z
  listed : commands_in s z.boxes z.below z.items 0 old.commands ≡ old_commands entry s

pub record OldRecorded (entry : Entry) (s : List ℕ) (x z : Space) (old : Cursor) : Type 0 where
  pub read : old_of entry s ≡ Ok old
  pub lengths : SameLengths x z
  pub lists : Room old.clips old.commands z → OldHeld entry s z old

-- there is none
pub none_recorded : (s : List ℕ) (x : Space) (old : Cursor) → old ≡ start_at header_length → OldRecorded First s x x old
none_recorded s x old e = subst (OldRecorded First s x x) (sym e) (record {
  read = refl;
  lengths = record { boxes = refl; below = refl; items = refl; item_boxes = refl };
  lists = λ r. record { held = holds_none s x; listed = list_none s x.boxes x.below x.items 0 };
})

-- it is recorded from nothing
pub old_recorded : (s : List ℕ) (x z : Space) (old : Cursor) → Ok old ≡ read_strip s header_length → SameLengths x z → Records s header_length 0 0 x z (Ok old) → OldRecorded Next s x z old
old_recorded s x z old a l h = record {
  read = sym a;
  lengths = l;
  lists = λ r.
      let k = h (holds_none s x) (room_less (omega arith) (omega arith) (room_before l r)) in
      let c : 0 + old.clips ≡ old.clips = omega arith in
      let m : 0 + old.commands ≡ old.commands = omega arith in
      record { held = subst (λ (a : ℕ). Holds a old.commands s z) c (subst (λ (a : ℕ). Holds (0 + old.clips) a s z) m k.held); listed = k.listed };
}

-- ---- and the new one behind it
-- the old cursor of two strips is the one that they were made with
abbrev cursor_in : Result Strips Refusal → Cursor → Cursor
cursor_in (Ok both) c = both.old
cursor_in (Err why) c = c

old_kept : (old : Cursor) (x : Result Cursor Refusal) → cursor_in (with_old old x) old ≡ old
old_kept old (Ok new) = refl
old_kept old (Err why) = refl

module _ (entry : Entry) (s : List ℕ) (x z y : Space) (old : Cursor) (o : OldRecorded entry s x z old) (f : Result Strips Refusal) (b : f ≡ then_new s old (read_strip s old.at)) (k : SameLengths z y) (c : RecordsNew s old z y f) where
  two : (new : Cursor) → RecordsNew s old z y (Ok (record { old = old; new = new })) → Room (old.clips + new.clips) (old.commands + new.commands) y → Two entry s old new y
  two new c u =
      let f = o.lists (room_less (omega arith) (omega arith) (room_before k u)) in
      let n = c f.held (room_before k u) in
      record {
        held = n.held;
        old_list = lists_alike s y.boxes z.boxes y.below z.below y.items z.items old.commands 0 (λ i v. n.kept i (omega arith)) ∙ f.listed;
        new_list = n.listed;
      }

  pub strips_recorded : (f ≡ strips_of entry s) × (SameLengths x y × RecordsStrips entry s y f)
  strips_recorded = (b ∙ strips_next entry s old o.read, (lengths_both o.lengths k, go f b c))
    where
      go : (f : Result Strips Refusal) → f ≡ then_new s old (read_strip s old.at) → RecordsNew s old z y f → RecordsStrips entry s y f
      go (Ok both) b c =
          let e : both.old ≡ old = ap (λ (p : Result Strips Refusal). cursor_in p old) b ∙ old_kept old (then_end s (read_strip s old.at)) in
          subst (λ (p : Cursor). Room (p.clips + both.new.clips) (p.commands + both.new.commands) y → Two entry s p both.new y) (sym e) (two both.new c)
      go (Err why) b c = tt
