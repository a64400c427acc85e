-- A strip on its way into lent space: what has been listed so far stands there, where there was room, and what is left to read makes the whole. Assumes
-- nothing.
use mathlib.Core.Path.{◌≡◌, refl, sym, ap, ◌∙◌, subst}
use mathlib.Core.List.{List, [], ◌∷◌, ◌++◌}
use Prim.Native.Nat.{ℕ, zero, suc, ◌+◌, ◌-◌, ◌*◌, ◌≤◌, ◌<◌}
use native.Mathlib.Omega.{arith}
use lib.ListN.{length, take, length-append, length-take}
use lib.Seq.{take_at}
use borrow.Author.Tests.{ne_eqb}
use lib.Ieee.{Float}
use Rattle.std.specs.Prelude.{Result, Ok, Err}
use Rattle.base_refusals.specs.declared.Refusal.{Refusal}
use Rattle.base_lists.proofs.Picks.{by_le}
use Rattle.kurbo_geometry.specs.declared.Rect.{Rect}
use Rattle.kurbo_affine.proofs.Corners.{try_is}
use Rattle.display_list_commands.specs.Bounds.{transform_of, local_bounds, clipped, bounds}
use Rattle.display_list_clips.specs.Chains.{chain, Clips}
use Rattle.display_list_clips.proofs.Chaining.{chain_none}
use Rattle.strip_format.specs.Format.{rect_at, command_at}
use Rattle.display_list.specs.declared.ListState.{ListState}
use Rattle.display_list.specs.Lists.{pushed_clip, clip_boxes, clip_numbers, popped_clip, open_rect, pushed, item_words, item_boxes, offset_at, clip_number_at}
use Rattle.display_list.proofs.Holding.{HoldsClips, held_push, held_pop, push_keeps, open_rect_is, length_boxes, length_numbers}
use Rattle.display_list.proofs.Items.{push_offset, push_number, push_box, offset_kept, number_kept, box_kept, length_items, length_item_boxes}
use Rattle.strip.specs.declared.Cursor.{Cursor}
use Rattle.strip.specs.declared.Step.{Step}
use Rattle.strip.specs.declared.Step.TheVariants.{Next, Clip, Pop, Draw, End}
use Rattle.strip.specs.Steps.{start_at, step_at}
use Rattle.strip.specs.Effects.{Moves, Passes}
use Rattle.strip.specs.Reading.{on_step, read_from, read_strip, command_of, drop_last, Listing, noted, on_next, list_from, commands_of}
use Rattle.strip.proofs.Moves.{Moved, step_moves}
use Rattle.strip_laws.specs.Limits.{Within, WholeCommand}
use Rattle.strip_laws.proofs.Steps.{by_cases, Kept}
use Rattle.strip_laws.proofs.Limits.{step_within, start_within}
use Rattle.strip_laws.proofs.Runs.{InRun, step_in_run, Draws, step_draws}
use Rattle.strip_laws.proofs.Boxes.{glyphs_of, Boxed, step_boxed}
use Rattle.display_list_stored.specs.Stored.{command_in, commands_in}
use Rattle.strip_recording.specs.Recorded.{Space, space, SameLengths, Room, Holds, Recorded, Records}
use Rattle.strip_recording.proofs.Lists.{lists_alike, list_last, list_none}
use Rattle.base_rect_words.specs.Words.{box_at}

-- ---- the cursor beside the listing
-- as many clips are open, and as many commands counted; of a run whose glyphs are due the command is counted before it is listed
pub record Tally (st : Cursor) (l : Listing) : Type 0 where
  pub depth : st.depth ≡ length l.clips
  pub running : 0 < st.due → st.commands ≡ suc (length l.commands)
  pub resting : st.due ≡ 0 → st.commands ≡ length l.commands

-- a cursor t behind st: what it counts of clips
pub record Counts (st t : Cursor) (opened closed : ℕ) : Type 0 where
  pub clips : t.clips ≡ st.clips + opened
  pub depth : t.depth + closed ≡ st.depth + opened

abbrev Counted : Cursor → Result Step Refusal → Type 0
Counted st (Ok (Next t)) = Counts st t 0 0
Counted st (Ok (Clip t box)) = Counts st t 1 0
Counted st (Ok (Pop t)) = Counts st t 0 1
Counted st (Ok (Draw t at box)) = Counts st t 0 0
Counted st (Ok (End t)) = Counts st t 0 0 × (t.due ≡ 0)
Counted st (Err why) = Unit {0}

step_counted : (s : List ℕ) (st : Cursor) → Counted st (step_at s st)
step_counted s st = by_cases s st (Counted st) record {
  refused = λ n p. tt;
  ended = λ due. (record { clips = omega arith; depth = omega arith }, due);
  clip = λ d c due. record { clips = omega arith; depth = omega arith };
  pop = λ d due. record { clips = omega arith; depth = omega arith };
  draw = λ len c due alone box f. record { clips = omega arith; depth = omega arith };
  run = λ c due is fits some. record { clips = omega arith; depth = omega arith };
  glyph = λ g due fits d own o. record { clips = omega arith; depth = omega arith };
  last = λ g fits d own o box f. record { clips = omega arith; depth = omega arith };
}

snoc_length : {A : Type 0} (l : List A) (a : A) → length (l ++ (a ∷ [])) ≡ suc (length l)
snoc_length l a = omega (arith, length-append l (a ∷ []))

drop-length : (l : List Rect) → length (drop_last l) ≡ length l - 1
drop-length l = length-take (length l - 1) l ∙ (omega arith)

step_tally : (s : List ℕ) (st : Cursor) (l : Listing) → InRun s st → Tally st l → Kept (λ t. Tally t (noted s l (step_at s st))) (λ t. Tally t l) (step_at s st)
step_tally s st l h y = by_cases s st (λ x. Kept (λ t. Tally t (noted s l x)) (λ t. Tally t l) x) record {
  refused = λ n p. tt;
  ended = λ due. record { depth = y.depth; running = y.running; resting = y.resting };
  clip = λ d c due. record { depth = omega (arith, y.depth, snoc_length l.clips (rect_at s (st.at + 1))); running = y.running; resting = y.resting };
  pop = λ d due. record { depth = omega (arith, y.depth, drop-length l.clips); running = y.running; resting = y.resting };
  draw = λ len c due alone box f. record { depth = y.depth; running = λ k. absurd (omega arith); resting = λ k. omega (arith, y.resting due, snoc_length l.commands (command_of s st.at l.clips)) };
  run = λ c due is fits some. record { depth = y.depth; running = λ k. omega (arith, y.resting due); resting = λ k. absurd (some k) };
  glyph = λ g due fits d own o. record { depth = y.depth; running = λ k. y.running due; resting = λ k. absurd (omega arith) };
  last = λ g fits d own o box f. record { depth = y.depth; running = λ k. absurd (omega (arith, d)); resting = λ k. omega (arith, y.running (omega (arith, d)), snoc_length l.commands (command_of s st.run l.clips)) };
}

-- ---- what the space holds on the way
-- z is the space at the start, y the space now, l what has been listed since
pub record Listed (s : List ℕ) (m : ℕ) (z y : Space) (d : ListState) (l : Listing) : Type 0 where
  pub open_clips : HoldsClips l.clips d y.boxes y.below
  pub lower : (i : ℕ) → i < d.commands → clip_number_at y.items i ≤ d.clips
  pub whole : (i : ℕ) → i < d.commands → WholeCommand s (offset_at y.items i)
  pub boxed : (i : ℕ) → i < d.commands → box_at y.item_boxes i ≡ bounds (command_in s y.boxes y.below y.items i)
  pub kept : (i : ℕ) → i < m → command_in s y.boxes y.below y.items i ≡ command_in s z.boxes z.below z.items i
  pub listed : commands_in s y.boxes y.below y.items m (length l.commands) ≡ l.commands

module _ (s : List ℕ) (m : ℕ) (z y : Space) (d : ListState) (l : Listing) (h : Listed s m z y d l) (count : d.commands ≡ m + length l.commands) where
  -- a clip more
  module _ (b : Rect) (p : 8 * d.clips + 8 ≤ length y.boxes) (q : d.clips < length y.below) where
    under : (i : ℕ) → i < d.commands → command_in s (clip_boxes d y.boxes y.below b) (clip_numbers d y.boxes y.below) y.items i ≡ command_in s y.boxes y.below y.items i
    under i k = ap (command_of s (offset_at y.items i)) (push_keeps l.clips d y.boxes y.below b h.open_clips p q (clip_number_at y.items i) (h.lower i k))

    pub listed_clip : Listed s m z (space (clip_boxes d y.boxes y.below b) (clip_numbers d y.boxes y.below) y.items y.item_boxes) (pushed_clip d) (record { clips = l.clips ++ (b ∷ []); commands = l.commands })
    listed_clip = record {
      open_clips = held_push l.clips d y.boxes y.below b h.open_clips p q;
      lower = λ i k. omega (arith, h.lower i k);
      whole = h.whole;
      boxed = λ i k. h.boxed i k ∙ ap bounds (sym (under i k));
      kept = λ i k. under i (omega (arith, count)) ∙ h.kept i k;
      listed = lists_alike s _ _ _ _ _ _ (length l.commands) m (λ i k. under i (omega (arith, count))) ∙ h.listed;
    }

  -- a clip less
  pub listed_pop : (cs : List Rect) (b : Rect) → l.clips ≡ cs ++ (b ∷ []) → (popped_clip d y.below).clips ≡ d.clips → (popped_clip d y.below).commands ≡ d.commands → Listed s m z y (popped_clip d y.below) (record { clips = drop_last l.clips; commands = l.commands })
  listed_pop cs b e f g =
      let n : length cs ≡ length l.clips - 1 = omega (arith, snoc_length cs b, ap length e) in
      let x : drop_last l.clips ≡ cs = ap (λ (k : List Rect). take (length l.clips - 1) k) e ∙ take_at cs (b ∷ []) (length l.clips - 1) n in
      record {
        open_clips = subst (λ (k : List Rect). HoldsClips k (popped_clip d y.below) y.boxes y.below) (sym x) (held_pop cs b d y.boxes y.below (subst (λ (k : List Rect). HoldsClips k d y.boxes y.below) e h.open_clips));
        lower = λ i k. omega (arith, f, h.lower i (omega (arith, g)));
        whole = λ i k. h.whole i (omega (arith, g));
        boxed = λ i k. h.boxed i (omega (arith, g));
        kept = h.kept;
        listed = h.listed;
      }

  -- a command more
  module _ (at : ℕ) (box : Rect) (p : 2 * d.commands + 2 ≤ length y.items) (q : 4 * d.commands + 4 ≤ length y.item_boxes) (w : WholeCommand s at) (drawn : Boxed s (Ok (Draw (start_at at) at box))) where
    abbrev cut : Rect
    cut = open_rect d y.boxes box

    abbrev is : List ℕ
    is = item_words d y.items y.item_boxes at

    abbrev ibs : List Float
    ibs = item_boxes d y.items y.item_boxes (open_rect d y.boxes box)

    before : (i : ℕ) → i < d.commands → command_in s y.boxes y.below (item_words d y.items y.item_boxes at) i ≡ command_in s y.boxes y.below y.items i
    before i k =
        let o = offset_kept d y.items y.item_boxes at cut p q i k in
        let x = number_kept d y.items y.item_boxes at cut p q i k in
        λ j. command_of s (o j) (chain y.boxes y.below (x j))

    new : command_in s y.boxes y.below (item_words d y.items y.item_boxes at) d.commands ≡ command_of s at l.clips
    new =
        let o = push_offset d y.items y.item_boxes at cut p q in
        let x = ap (chain y.boxes y.below) (push_number d y.items y.item_boxes at cut p q) ∙ h.open_clips.chained in
        λ j. command_of s (o j) (x j)

    new_box : box_at (item_boxes d y.items y.item_boxes (open_rect d y.boxes box)) d.commands ≡ bounds (command_of s at l.clips)
    unfolding bounds
    new_box =
        push_box d y.items y.item_boxes at cut p q
        ∙ open_rect_is l.clips d y.boxes y.below h.open_clips box
        ∙ ap (clipped l.clips) (try_is (transform_of (command_at s at)) (local_bounds (command_at s at) (glyphs_of s at)) box drawn)

    -- the places before, and the new one
    places : (P : ℕ → Type 0) → ((i : ℕ) → i < d.commands → P i) → P d.commands → (i : ℕ) → i < d.commands + 1 → P i
    places P f g i k = by_le d.commands i (λ u. let e : d.commands ≡ i = omega arith in subst P e g) (λ u. f i u)

    pub listed_draw : Listed s m z (space y.boxes y.below (item_words d y.items y.item_boxes at) (item_boxes d y.items y.item_boxes (open_rect d y.boxes box))) (pushed d) (record { clips = l.clips; commands = l.commands ++ (command_of s at l.clips ∷ []) })
    listed_draw = record {
      open_clips = record { clips = h.open_clips.clips; low = h.open_clips.low; chained = h.open_clips.chained; depth = h.open_clips.depth };
      lower = places (λ i. clip_number_at is i ≤ d.clips) (λ i k. omega (arith, number_kept d y.items y.item_boxes at cut p q i k, h.lower i k)) (omega (arith, push_number d y.items y.item_boxes at cut p q, h.open_clips.low));
      whole = places (λ i. WholeCommand s (offset_at is i)) (λ i k. subst (WholeCommand s) (sym (offset_kept d y.items y.item_boxes at cut p q i k)) (h.whole i k)) (subst (WholeCommand s) (sym (push_offset d y.items y.item_boxes at cut p q)) w);
      boxed = places (λ i. box_at ibs i ≡ bounds (command_in s y.boxes y.below is i)) (λ i k. box_kept d y.items y.item_boxes at cut p q i k ∙ h.boxed i k ∙ ap bounds (sym (before i k))) (new_box ∙ ap bounds (sym new));
      kept = λ i k. before i (omega (arith, count)) ∙ h.kept i k;
      listed =
          ap (λ (n : ℕ). commands_in s y.boxes y.below is m n) (snoc_length l.commands (command_of s at l.clips))
          ∙ list_last s y.boxes y.below is (length l.commands) m
          ∙ (λ j. (lists_alike s y.boxes y.boxes y.below y.below is y.items (length l.commands) m (λ i k. before i (omega (arith, count))) ∙ h.listed) j ++ ((ap (λ (i : ℕ). command_in s y.boxes y.below is i) (sym count) ∙ new) j ∷ []));
    }

-- ---- the loop
-- what is left to read, behind what has been listed, makes the strip's answer and its list
pub record RecordingSoFar (s : List ℕ) (at c m : ℕ) (z : Space) (st : Cursor) (d : ListState) (y : Space) : Type 0 where
  pub fuel : ℕ
  pub enough : length s - st.at < fuel
  pub reads : read_from fuel s st ≡ read_strip s at
  pub listing : Listing
  pub lists : (list_from fuel s st listing).commands ≡ commands_of s at
  pub in_run : InRun s st
  pub within : Within st
  pub tally : Tally st listing
  pub clips_are : d.clips ≡ c + st.clips
  pub depth_is : d.depth ≡ st.depth
  pub commands_are : d.commands ≡ m + length listing.commands
  pub lengths : SameLengths z y
  pub holds : Holds c m s z → Room d.clips d.commands z → Listed s m z y d listing

abbrev pub begin : ℕ → ℕ → ListState
begin c m = record { clips = c; top = 0; depth = 0; commands = m }

pub going_start : (s : List ℕ) (at c m : ℕ) (z : Space) (st : Cursor) → st ≡ start_at at → RecordingSoFar s at c m z st (begin c m) z
going_start s at c m z st e = rw e record {
  fuel = suc (length s);
  enough = omega arith;
  reads = refl;
  listing = record { clips = []; commands = [] };
  lists = refl;
  in_run = λ k. absurd (omega arith);
  within = start_within at;
  tally = record { depth = refl; running = λ k. absurd (omega arith); resting = λ k. refl };
  clips_are = omega arith;
  depth_is = refl;
  commands_are = omega arith;
  lengths = record { boxes = refl; below = refl; items = refl; item_boxes = refl };
  holds = λ h r. record {
    open_clips = record { clips = subst (λ (n : ℕ). Clips n z.boxes z.below) h.used_is h.stored.clips; low = omega arith; chained = chain_none z.boxes z.below; depth = refl };
    lower = λ i k. omega (arith, h.used_is, h.stored.lower i k);
    whole = h.stored.whole;
    boxed = h.stored.boxed;
    kept = λ i k. refl;
    listed = list_none s z.boxes z.below z.items m;
  };
}

-- ---- a step
-- the last of some clips, and those before it
last_of : (l : List Rect) → 0 < length l → (cs : List Rect) × (b : Rect) × (l ≡ cs ++ (b ∷ []))
last_of [] h = absurd (omega arith)
last_of (a ∷ []) h = ([], a, refl)
last_of (a ∷ b ∷ l) h = let r = last_of (b ∷ l) (omega arith) in (a ∷ r.0, r.1, ap (λ (k : List Rect). a ∷ k) r.2)

-- what a pop leaves as it is, where a clip is open
pub record Popped (d e : ListState) : Type 0 where
  pub clips : e.clips ≡ d.clips
  pub depth : e.depth ≡ d.depth - 1
  pub commands : e.commands ≡ d.commands

popped : (d : ListState) (ns : List ℕ) → (d.depth ≡ 0 → ⊥) → Popped d (popped_clip d ns)
unfolding popped_clip
popped d ns h = rw (ne_eqb d.depth 0 h) record { clips = refl; depth = refl; commands = refl }

module _ (s : List ℕ) (at c m : ℕ) (z : Space) (st : Cursor) (d : ListState) (y : Space) (g : RecordingSoFar s at c m z st d y) (r : Result Step Refusal) (p : r ≡ step_at s st) where
  -- what every step gives
  record Facts (x : Result Step Refusal) : Type 0 where
    moved : Moved (length s) st x
    in_run : Kept (InRun s) (λ t. Unit {0}) x
    within : Kept Within Within x
    tally : Kept (λ t. Tally t (noted s g.listing x)) (λ t. Tally t g.listing) x
    counted : Counted st x
    draws : Draws s x
    boxed : Boxed s x

  facts : (x : Result Step Refusal) → r ≡ x → Facts x
  facts x q = subst Facts (sym p ∙ q) record {
    moved = step_moves s st;
    in_run = step_in_run s st g.in_run;
    within = step_within s st g.within;
    tally = step_tally s st g.listing g.in_run g.tally;
    counted = step_counted s st;
    draws = step_draws s st g.in_run;
    boxed = step_boxed s st g.in_run;
  }

  -- what a step hands on
  record Onward (x : Result Step Refusal) (t : Cursor) (e : ListState) (w : Space) : Type 0 where
    reads_on : (k : Cursor → Result Cursor Refusal) → on_step x k ≡ k t
    lists_on : (k : Cursor → Listing) → on_next x g.listing k ≡ k t
    ahead : (st.at < t.at) × (t.at ≤ length s)
    in_run : InRun s t
    within : Within t
    tally : Tally t (noted s g.listing x)
    clips_are : e.clips ≡ c + t.clips
    depth_is : e.depth ≡ t.depth
    commands_are : e.commands ≡ m + length (noted s g.listing x).commands
    lengths : SameLengths z w
    holds : Holds c m s z → Room e.clips e.commands z → Listed s m z w e (noted s g.listing x)

  -- closer to the end, and on the way still
  abbrev pub Nearer : Cursor → ListState → Space → Type 0
  Nearer t e w = (length s - t.at < length s - st.at) × RecordingSoFar s at c m z t e w

  onward : (x : Result Step Refusal) (t : Cursor) (e : ListState) (w : Space) → r ≡ x → Onward x t e w → Nearer t e w
  unfolding read_from list_from
  onward x t e w q o = go g.fuel g.enough g.reads g.lists
    where
      go : (k : ℕ) → length s - st.at < k → read_from k s st ≡ read_strip s at → (list_from k s st g.listing).commands ≡ commands_of s at → Nearer t e w
      go zero a b f = absurd (omega arith)
      go (suc k) a b f = (
        omega (arith, o.ahead.0, o.ahead.1),
        record {
          fuel = k;
          enough = omega (arith, o.ahead.0, o.ahead.1);
          reads = sym (ap (λ v. on_step v (read_from k s)) (sym p ∙ q) ∙ o.reads_on (read_from k s)) ∙ b;
          listing = noted s g.listing x;
          lists = sym (ap (λ (v : Result Step Refusal). (on_next v g.listing (λ (u : Cursor). list_from k s u (noted s g.listing v))).commands) (sym p ∙ q) ∙ ap (λ (v : Listing). v.commands) (o.lists_on (λ (u : Cursor). list_from k s u (noted s g.listing x)))) ∙ f;
          in_run = o.in_run;
          within = o.within;
          tally = o.tally;
          clips_are = o.clips_are;
          depth_is = o.depth_is;
          commands_are = o.commands_are;
          lengths = o.lengths;
          holds = o.holds;
        },
      )

  pub on_next_lem : (t : Cursor) → r ≡ Ok (Next t) → Nearer t d y
  on_next_lem t q = let f = facts (Ok (Next t)) q in onward (Ok (Next t)) t d y q record {
    reads_on = λ k. refl;
    lists_on = λ k. refl;
    ahead = f.moved;
    in_run = f.in_run;
    within = f.within;
    tally = f.tally;
    clips_are = omega (arith, g.clips_are, f.counted.clips);
    depth_is = omega (arith, g.depth_is, f.counted.depth);
    commands_are = g.commands_are;
    lengths = g.lengths;
    holds = g.holds;
  }

  clip_on : (t : Cursor) (box : Rect) → r ≡ Ok (Clip t box) → Nearer t (pushed_clip d) (space (clip_boxes d y.boxes y.below box) (clip_numbers d y.boxes y.below) y.items y.item_boxes)
  clip_on t box q =
      let f = facts (Ok (Clip t box)) q in
      let l = g.lengths in
      onward (Ok (Clip t box)) t (pushed_clip d) (space (clip_boxes d y.boxes y.below box) (clip_numbers d y.boxes y.below) y.items y.item_boxes) q record {
        reads_on = λ k. refl;
        lists_on = λ k. refl;
        ahead = f.moved;
        in_run = f.in_run;
        within = f.within;
        tally = f.tally;
        clips_are = omega (arith, g.clips_are, f.counted.clips);
        depth_is = omega (arith, g.depth_is, f.counted.depth);
        commands_are = g.commands_are;
        lengths = record { boxes = length_boxes d y.boxes y.below box ∙ l.boxes; below = length_numbers d y.boxes y.below ∙ l.below; items = l.items; item_boxes = l.item_boxes };
        holds = λ h a. listed_clip s m z y d g.listing (g.holds h record { boxes = omega (arith, a.boxes); below = omega (arith, a.below); items = a.items; item_boxes = a.item_boxes }) g.commands_are box (omega (arith, l.boxes, a.boxes)) (omega (arith, l.below, a.below));
      }

  pop_on : (t : Cursor) → r ≡ Ok (Pop t) → Nearer t (popped_clip d y.below) y
  pop_on t q =
      let f = facts (Ok (Pop t)) q in
      let e = popped d y.below (λ n. omega (arith, n, g.depth_is, f.counted.depth)) in
      onward (Ok (Pop t)) t (popped_clip d y.below) y q record {
        reads_on = λ k. refl;
        lists_on = λ k. refl;
        ahead = f.moved;
        in_run = f.in_run;
        within = f.within;
        tally = f.tally;
        clips_are = omega (arith, g.clips_are, f.counted.clips, e.clips);
        depth_is = omega (arith, g.depth_is, f.counted.depth, e.depth);
        commands_are = e.commands ∙ g.commands_are;
        lengths = g.lengths;
        holds = λ h a.
            let last = last_of g.listing.clips (omega (arith, g.tally.depth, f.counted.depth)) in
            listed_pop s m z y d g.listing (g.holds h record { boxes = omega (arith, a.boxes, e.clips); below = omega (arith, a.below, e.clips); items = omega (arith, a.items, e.commands); item_boxes = omega (arith, a.item_boxes, e.commands) }) g.commands_are last.0 last.1 last.2 e.clips e.commands;
      }

  draw_on : (t : Cursor) (from : ℕ) (box : Rect) → r ≡ Ok (Draw t from box) → Nearer t (pushed d) (space y.boxes y.below (item_words d y.items y.item_boxes from) (item_boxes d y.items y.item_boxes (open_rect d y.boxes box)))
  draw_on t from box q =
      let f = facts (Ok (Draw t from box)) q in
      let l = g.lengths in
      onward (Ok (Draw t from box)) t (pushed d) (space y.boxes y.below (item_words d y.items y.item_boxes from) (item_boxes d y.items y.item_boxes (open_rect d y.boxes box))) q record {
        reads_on = λ k. refl;
        lists_on = λ k. refl;
        ahead = f.moved;
        in_run = f.in_run;
        within = f.within;
        tally = f.tally;
        clips_are = omega (arith, g.clips_are, f.counted.clips);
        depth_is = omega (arith, g.depth_is, f.counted.depth);
        commands_are = omega (arith, g.commands_are, snoc_length g.listing.commands (command_of s from g.listing.clips));
        lengths = record { boxes = l.boxes; below = l.below; items = length_items d y.items y.item_boxes from ∙ l.items; item_boxes = length_item_boxes d y.items y.item_boxes (open_rect d y.boxes box) ∙ l.item_boxes };
        holds = λ h a. listed_draw s m z y d g.listing (g.holds h record { boxes = a.boxes; below = a.below; items = omega (arith, a.items); item_boxes = omega (arith, a.item_boxes) }) g.commands_are from box (omega (arith, l.items, a.items)) (omega (arith, l.item_boxes, a.item_boxes)) f.draws f.boxed;
      }

  -- the same, for what the steps of the list hand back
  pub on_clip : (t : Cursor) (box : Rect) → r ≡ Ok (Clip t box) → (e : ListState) (bs : List Float) (ns : List ℕ) → e ≡ pushed_clip d → bs ≡ clip_boxes d y.boxes y.below box → ns ≡ clip_numbers d y.boxes y.below → Nearer t e (space bs ns y.items y.item_boxes)
  on_clip t box q e bs ns u v w = rw (u, v, w) (clip_on t box q)

  pub on_pop : (t : Cursor) → r ≡ Ok (Pop t) → (e : ListState) → e ≡ popped_clip d y.below → Nearer t e y
  on_pop t q e u = rw u (pop_on t q)

  pub on_draw : (t : Cursor) (from : ℕ) (box : Rect) → r ≡ Ok (Draw t from box) → (e : ListState) (b : Rect) (is : List ℕ) (ibs : List Float) → b ≡ open_rect d y.boxes box → e ≡ pushed d → is ≡ item_words d y.items y.item_boxes from → ibs ≡ item_boxes d y.items y.item_boxes b → Nearer t e (space y.boxes y.below is ibs)
  on_draw t from box q e b is ibs o u v w = rw (u, v, w, o) (draw_on t from box q)

  -- ---- the end
  pub on_end : (t : Cursor) → r ≡ Ok (End t) → ((Ok t) ≡ read_strip s at) × (SameLengths z y × Records s at c m z y (Ok t))
  unfolding read_from list_from
  on_end t q = go g.fuel g.enough g.reads g.lists
    where
      clips_are : d.clips ≡ c + t.clips
      clips_are = omega (arith, g.clips_are, (facts (Ok (End t)) q).counted.0.clips)

      commands_are : d.commands ≡ m + t.commands
      commands_are = omega (arith, g.commands_are, (facts (Ok (End t)) q).tally.resting (facts (Ok (End t)) q).counted.1)

      done : Room (c + t.clips) (m + t.commands) z → Listed s m z y d g.listing → g.listing.commands ≡ commands_of s at → Recorded s at c m z y t
      done u h e = let n : t.commands ≡ length g.listing.commands = (facts (Ok (End t)) q).tally.resting (facts (Ok (End t)) q).counted.1 in record {
        held = record {
          stored = record {
            used = d.clips;
            clips = h.open_clips.clips;
            items = omega (arith, u.items, g.lengths.items);
            boxes = omega (arith, u.item_boxes, g.lengths.item_boxes);
            lower = λ i k. h.lower i (omega (arith, commands_are));
            whole = λ i k. h.whole i (omega (arith, commands_are));
            boxed = λ i k. h.boxed i (omega (arith, commands_are));
          };
          used_is = clips_are;
        };
        kept = h.kept;
        listed = ap (commands_in s y.boxes y.below y.items m) n ∙ h.listed ∙ e;
      }

      go : (k : ℕ) → length s - st.at < k → read_from k s st ≡ read_strip s at → (list_from k s st g.listing).commands ≡ commands_of s at → ((Ok t) ≡ read_strip s at) × (SameLengths z y × Records s at c m z y (Ok t))
      go zero a b e = absurd (omega arith)
      go (suc k) a b e = (
        sym (ap (λ v. on_step v (read_from k s)) (sym p ∙ q)) ∙ b,
        (
          g.lengths,
          λ h u. done u (g.holds h record { boxes = omega (arith, u.boxes, clips_are); below = omega (arith, u.below, clips_are); items = omega (arith, u.items, commands_are); item_boxes = omega (arith, u.item_boxes, commands_are) }) (sym (ap (λ (v : Result Step Refusal). (on_next v g.listing (λ (u : Cursor). list_from k s u (noted s g.listing v))).commands) (sym p ∙ q)) ∙ e),
        ),
      )

  pub on_refused : (why : Refusal) → r ≡ Err why → (Err why ≡ read_strip s at) × (SameLengths z y × Records s at c m z y (Err why))
  unfolding read_from
  on_refused why q = go g.fuel g.enough g.reads
    where
      go : (f : ℕ) → length s - st.at < f → read_from f s st ≡ read_strip s at → ((Err why) ≡ read_strip s at) × (SameLengths z y × Records s at c m z y (Err why))
      go zero a b = absurd (omega arith)
      go (suc f) a b = (sym (ap (λ v. on_step v (read_from f s)) (sym p ∙ q)) ∙ b, (g.lengths, tt))

-- ---- several steps at once that only move the cursor
module _ (s : List ℕ) (at c m : ℕ) (z : Space) (d : ListState) (y : Space) where
  moves_on : (n : ℕ) (st t : Cursor) → RecordingSoFar s at c m z st d y → Moves n s st t → (length s - t.at ≤ length s - st.at) × RecordingSoFar s at c m z t d y
  unfolding Moves
  moves_on zero st t g e = rw e (omega arith, g)
  moves_on (suc n) st t g (u, w, q) =
      let h = moves_on n st u g w in
      let k = on_next_lem s at c m z u d y h.1 (step_at s u) refl t q in
      (omega (arith, h.0, k.0), k.1)

  pub on_passed : (st : Cursor) (g : RecordingSoFar s at c m z st d y) (r : Result Step Refusal) (p : r ≡ step_at s st) (t v : Cursor) → r ≡ Ok (Next t) → Passes s t v → (length s - v.at < length s - st.at) × RecordingSoFar s at c m z v d y
  on_passed st g r p t v q w =
      let a = on_next_lem s at c m z st d y g r p t q in
      let b = moves_on w.steps t v a.1 w.moves in
      (omega (arith, a.0, b.0), b.1)
