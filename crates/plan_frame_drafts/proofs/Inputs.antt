-- Each answer of the functions that draft a whole input. Assumes nothing.
use Rattle.std.specs.Prelude.{Result, Ok, Err}
use Rattle.base_refusals.specs.declared.Fault.TheVariants.{NoRoom}
use Rattle.base_refusals.specs.declared.Refusal.{Refusal}
use Rattle.base_refusals.specs.Table.{refused}
use Rattle.std.proofs.Common.{◌≡◌, ℕ, ◌+◌, ◌-◌, ◌*◌, ◌≤◌, Bool, true, false, ltb, List, [], ◌∷◌, map, length, take, drop, length-drop, ◌/◌, sym, refl, ap, ◌∙◌, subst, arith}
use mathlib.Core.Bool.{false≢true}
use lib.Ieee.{Float, binary64, of_bits, of_int}
use Rattle.base_lists.proofs.Picks.{pick_cases}
use Rattle.base_floats.specs.Whole.{whole}
use Rattle.kurbo_geometry.specs.declared.Rect.{Rect}
use Rattle.base_rect_list.specs.Rects.{Added, Listed}
use Rattle.base_rect_list.proofs.Appends.{listed}
use Rattle.display_list_changes.specs.Changes.{diff_dirty}
use Rattle.strip.specs.declared.Cursor.{Cursor}
use Rattle.strip.specs.Reading.{commands_of}
use Rattle.strip_laws.specs.Limits.{Within}
use Rattle.compositor_screen.specs.declared.Screen.{Screen}
use Rattle.compositor_screen.specs.Sizes.{fits}
use Rattle.strip_frame.specs.declared.Strips.{Strips}
use Rattle.strip_frame.specs.Frame.{sizes_at, header_of, strips_of, old_commands}
use Rattle.display_list_stored.specs.Stored.{commands_in, Stored}
use Rattle.strip_recording.specs.Recorded.{Space, SameLengths, Room, Two, RecordsStrips}
use Rattle.plan_answers.specs.declared.Plan.{Plan}
use Rattle.plan_answers.specs.Drafts.{Items, Outcome, refuses, drafted, screen_rect, items_of, rects_since, on_strips, outcome}
use Rattle.plan_answers.specs.Space.{Lent}
use Rattle.plan_answers.specs.Answers.{items_fit, answer_of}
use Rattle.display_list_commands.specs.Bounds.{bounds}
use Rattle.plan_drafting.proofs.Words.{part_count, part_boxes}
use Rattle.plan_drafting.specs.Drafted.{draft_in, rooms, judged, WrittenIf, Ready}
use Rattle.strip_frame.specs.declared.Entry.{Entry}
use Rattle.strip_frame.specs.declared.Entry.TheVariants.{First, Next}
use Rattle.plan_frame_drafts.specs.declared.Changed.{Changed}
use Rattle.plan_frame_drafts.specs.Scratch.{lent_scratch, Roomy, WrittenFor}
use Rattle.plan_frame_drafts.specs.Listing.{Stand}
use Rattle.plan_frame_drafts.specs.declared.Items.{Items as Counts}
use Rattle.plan_frame_drafts.specs.Counts.{count_both, counted}
use Rattle.plan_frame_drafts.proofs.Holdings.{both_within, items_same, items_room, list_length, stored_boxes}
use Rattle.plan_frame_drafts.proofs.Judgements.{answered, no_items}
use Rattle.base_rect_words.specs.Words.{boxes_to}

-- what is lent for a call, with this scratch for its lists
abbrev scratch_for : Space → List ℕ → ℕ → ℕ → ℕ → Lent
scratch_for z glyphs R G W = lent_scratch z.boxes z.below z.items z.item_boxes glyphs R G W

-- what was counted, as the items of an outcome
abbrev of_counts : Counts → Items
of_counts c = record { commands = c.commands; glyphs = c.glyphs; clips = c.clips }

abbrev Meets : Lent → Outcome → Result Plan Refusal → List Float → List ℕ → List ℕ → Type 0
Meets z o p rs gs ws = (p ≡ answer_of z o) × WrittenFor p o rs gs ws

-- ---- the strips, and their items
module _ (entry : Entry) (s : List ℕ) (screen : Screen) {z y : Space} (glyphs : List ℕ) {r : Result Strips Refusal} (a : r ≡ strips_of entry s) (l : SameLengths z y) (k : RecordsStrips entry s y r) where
  pub strips_none : (why : Refusal) → r ≡ Err why → (R G W : ℕ) → Err why ≡ answer_of (scratch_for z glyphs R G W) (on_strips entry screen s (strips_of entry s))
  strips_none why q R G W = rw (sym (sym q ∙ a)) refl

  module _ {both : Strips} (q : r ≡ Ok both) where
    abbrev old : Cursor
    old = both.old

    abbrev new : Cursor
    new = both.new

    within : Within old × Within new
    within = both_within entry s a q

    abbrev items : Items
    items = items_of old new

    module _ {counts : Counts} (are : counts ≡ counted both) {t : Bool} (judges : t ≡ items_fit (lent_scratch y.boxes y.below y.items y.item_boxes glyphs 0 0 0) (of_counts counts)) where
      -- no sum of two counts saturates
      same_counts : of_counts counts ≡ items
      same_counts =
          let o = within.0 in
          let n = within.1 in
          let c : count_both old.commands new.commands ≡ old.commands + new.commands = omega (arith, o.commands, n.commands) in
          let g : count_both old.glyphs new.glyphs ≡ old.glyphs + new.glyphs = omega (arith, o.glyphs, n.glyphs) in
          let p : count_both old.clips new.clips ≡ old.clips + new.clips = omega (arith, o.clips, n.clips) in
          ap of_counts are ∙ λ i. record { commands = c i; glyphs = g i; clips = p i }

      items_judged : t ≡ items_fit (lent_scratch y.boxes y.below y.items y.item_boxes glyphs 0 0 0) items
      items_judged = judges ∙ ap (items_fit (lent_scratch y.boxes y.below y.items y.item_boxes glyphs 0 0 0)) same_counts

      pub items_over : t ≡ false → (R G W : ℕ) → refused NoRoom 0 ≡ answer_of (scratch_for z glyphs R G W) (on_strips entry screen s (strips_of entry s))
      items_over e R G W = rw (sym (sym q ∙ a)) (no_items (scratch_for z glyphs R G W) _ _ (sym (items_same z y glyphs R G W _ l) ∙ sym items_judged ∙ e))

      module _ (e : t ≡ true) where
        room : Room (old.clips + new.clips) (old.commands + new.commands) y
        room = items_room y glyphs _ (sym items_judged ∙ e)

        two : Two entry s old new y
        two = subst (RecordsStrips entry s y) q k room

        pub lists_stored : Stored (old.commands + new.commands) s y.boxes y.below y.items y.item_boxes × (old.commands ≤ 4096) × (new.commands ≤ 4096)
        lists_stored = (two.held.stored, within.0.commands, within.1.commands)

        -- rectangles are those of the lists where they are those of what is recorded
        lists_stand : {before rs : List Float} {n : ℕ} → Listed before (rects_since entry screen (commands_in s y.boxes y.below y.items 0 old.commands) (commands_in s y.boxes y.below y.items old.commands new.commands)) rs n
            → Stand screen (on_strips entry screen s (strips_of entry s)) z glyphs before rs y.items y.item_boxes (record { first = old.commands; commands = new.commands; n = n })
        lists_stand {before} {rs} {n} x =
            let o = two.old_list in
            let u = two.new_list in
            record {
              items = items;
              rects = rects_since entry screen (old_commands entry s) (commands_of s old.at);
              commands = commands_of s old.at;
              is_draft = rw (sym (sym q ∙ a)) refl;
              fit = sym (items_same z y glyphs 0 0 0 _ l) ∙ sym items_judged ∙ e;
              listed = subst (λ (d : List Rect). Listed before d rs n) (λ i. rects_since entry screen (o i) (u i)) x;
              boxes = stored_boxes s y.boxes y.below y.items y.item_boxes old.commands new.commands two.held.stored (commands_of s old.at) u;
              count = sym (list_length s y.boxes y.below y.items new.commands old.commands) ∙ ap length u;
              few = within.1.commands;
              held = two.held.stored.boxes;
              span_room = omega (arith, room.items);
            }

        pub first_stands : entry ≡ First → {before rs : List Float} {n : ℕ} {whole_screen : Rect} → whole_screen ≡ screen_rect screen → Added 1 before 0 (whole_screen ∷ []) rs n
            → Stand screen (on_strips entry screen s (strips_of entry s)) z glyphs before rs y.items y.item_boxes (record { first = old.commands; commands = new.commands; n = n })
        first_stands e {before} {rs} {n} is x = lists_stand (rw e (subst (λ (d : Rect). Listed before (d ∷ []) rs n) is (listed 1 before _ rs n x)))

        pub next_stands : entry ≡ Next → {before rs : List Float} {n : ℕ} → Listed before (diff_dirty (commands_in s y.boxes y.below y.items 0 old.commands) (commands_in s y.boxes y.below y.items old.commands new.commands)) rs n
            → Stand screen (on_strips entry screen s (strips_of entry s)) z glyphs before rs y.items y.item_boxes (record { first = old.commands; commands = new.commands; n = n })
        next_stands e x = lists_stand (rw e x)

-- ---- the whole screen
pub zero_whole : of_bits binary64 0 ≡ whole 0
unfolding of_bits of_int
zero_whole = refl

-- ---- the draft of what stands in scratch
-- the words from box f up to k further on
pub new_part : (f k : ℕ) (xs : List Float) → take (4 * (f + k) - 4 * f) (drop (4 * f) xs) ≡ take (4 * k) (drop (4 * f) xs)
new_part f k xs = let e : 4 * (f + k) - 4 * f ≡ 4 * k = omega arith in ap (λ (m : ℕ). take m (drop (4 * f) xs)) e

module _ (screen : Screen) (o : Outcome) (z : Space) (glyphs : List ℕ) (before rs : List Float) (is : List ℕ) (ibs : List Float) (c : Changed) (g : Stand screen o z glyphs before rs is ibs c) (part : List Float) (the_part : part ≡ take (4 * c.commands) (drop (4 * c.first) ibs)) where
  behind : 4 * c.commands ≤ length (drop (4 * c.first) ibs)
  behind = omega (arith, length-drop (4 * c.first) ibs, g.held)

  many : length part / 4 ≡ c.commands
  many = ap (λ (l : List Float). length l / 4) the_part ∙ part_count (drop (4 * c.first) ibs) c.commands behind

  part_bounds : boxes_to (drop (4 * 0) part) (length part / 4) ≡ map bounds g.commands
  part_bounds = ap (λ (l : List Float). boxes_to l (length l / 4)) the_part ∙ part_boxes (drop (4 * c.first) ibs) c.commands behind ∙ g.boxes

  module _ (R G W : ℕ) where
    pub stand_ready : fits screen ≡ true → (work gs ws : List ℕ) → Roomy before work gs ws R G W → Ready screen rs (length part / 4) work is gs ws (rooms R G W)
    stand_ready S work gs ws m = record {
      sizes = S;
      few = omega (arith, many, g.few);
      rect_room = omega (arith, m.rect_room, g.listed.size);
      work_room = m.work_room;
      span_room = omega (arith, many, g.span_room);
      region_room = m.region_room;
      word_room = m.word_room;
    }

    still_fit : items_fit (scratch_for z glyphs R G W) g.items ≡ true
    unfolding items_fit
    still_fit = g.fit

    pub stand_meets : 4 * R ≤ length before → (p : Result Plan Refusal) (gs ws : List ℕ) → p ≡ judged (rooms R G W) (draft_in screen rs c.n part 0 (length part / 4)) → WrittenIf p (draft_in screen rs c.n part 0 (length part / 4)) rs gs ws → Meets (scratch_for z glyphs R G W) o p rs gs ws
    stand_meets m p gs ws e f =
        rw g.is_draft (answered screen g.rects g.commands before rs c.n part 0 (length part / 4) R G W g.listed m part_bounds (many ∙ g.count) (scratch_for z glyphs R G W) g.items still_fit refl refl refl p gs ws e f)

-- ---- the header
-- sizes that the header admits
abbrev HeaderFits : Result Screen Refusal → Type 0
HeaderFits (Ok screen) = fits screen ≡ true
HeaderFits (Err why) = Unit {0}

header_fits : (s : List ℕ) → HeaderFits (header_of s)
unfolding header_of
header_fits s =
    pick_cases HeaderFits (ltb (length s) 12) _ _ (λ e. tt)
    λ e. pick_cases HeaderFits (fits (sizes_at s)) _ _ (λ f. f) (λ f. tt)

-- what is refused leaves nothing to stand
pub none_stands : (why : Refusal) (o : Outcome) (rs : List Float) (gs ws : List ℕ) → WrittenFor (Err why) o rs gs ws
none_stands why (refuses r) rs gs ws = tt
none_stands why (drafted i d) rs gs ws = λ e. absurd (false≢true e)

module _ (s : List ℕ) (r : Result Screen Refusal) (a : r ≡ header_of s) where
  pub header_sizes : (screen : Screen) → r ≡ Ok screen → fits screen ≡ true
  header_sizes screen q = subst HeaderFits (sym a ∙ q) (header_fits s)

  -- what the strips come to is what the bytes come to
  pub header_strips : (screen : Screen) → r ≡ Ok screen → (entry : Entry) → on_strips entry screen s (strips_of entry s) ≡ outcome entry s
  unfolding outcome
  header_strips screen q entry = rw (sym (sym q ∙ a)) refl

  pub header_none : (z : Lent) (why : Refusal) → r ≡ Err why → (entry : Entry) → Err why ≡ answer_of z (outcome entry s)
  unfolding outcome
  header_none z why q entry = rw (sym (sym q ∙ a)) refl
