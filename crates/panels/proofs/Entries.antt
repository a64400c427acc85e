-- Demand 3 for the two entries: under every header their calls are as `Plans` asks, so the panels agree. Assumes nothing.
use mathlib.Core.Path.{◌≡◌, refl, sym, ap, ◌∙◌, subst}
use mathlib.Core.Bool.{true, true≢false}
use mathlib.Core.List.{List, ◌++◌, map, append_assoc}
use mathlib.Core.Option.{Option, none, some}
use Prim.Native.Nat.{ℕ, ◌+◌, ◌≤◌, ◌<◌}
use native.Mathlib.Omega.{arith}
use lib.ListN.{length, drop, get_or, length-append, get_or-append}
use borrow.Author.Tests.{le-ltb}
use Rattle.base_refusals.specs.Table.{refusal}
use Rattle.std.specs.Prelude.{Result, Ok, Err}
use Rattle.base_refusals.specs.declared.Fault.{Fault}
use Rattle.base_refusals.specs.declared.Fault.TheVariants.{Size}
use Rattle.base_refusals.specs.declared.Refusal.{Refusal}
use Rattle.base_refusals.specs.Table.{refused}
use Rattle.base_lists.proofs.Picks.{pick_cases}
use Rattle.display_list_commands.specs.Bounds.{Command, bounds}
use Rattle.base_little_endian.specs.Words.{u32_at}
use Rattle.base_little_endian.proofs.Alike.{u32_same}
use Rattle.compositor_rows.specs.Rows.{row_count}
use Rattle.compositor_index_words.specs.Index.{index_words}
use Rattle.compositor_scheduler.specs.Schedule.{schedule}
use Rattle.display_list_changes.specs.Changes.{diff_dirty}
use Rattle.strip.specs.declared.Cursor.{Cursor}
use Rattle.strip.specs.Reading.{read_strip, commands_of}
use Rattle.strip_laws.specs.Limits.{WhereRead}
use Rattle.compositor_screen.specs.declared.Screen.{Screen}
use Rattle.compositor_screen.specs.Sizes.{fits}
use Rattle.strip_frame.specs.declared.Entry.{Entry}
use Rattle.strip_frame.specs.declared.Strips.{Strips}
use Rattle.strip_frame.specs.Frame.{sizes_at, header_of, old_of, strips_of, old_commands}
use Rattle.strip_frame.proofs.Checks.{strips_told}
use Rattle.plan_answers.specs.declared.Plan.{Plan}
use Rattle.plan_answers.specs.Drafts.{Outcome, refuses, drafted, rects_since, on_strips, on_header, outcome}
use Rattle.plan_answers.specs.Space.{Slices, Lent, lent_of}
use Rattle.plan_answers.specs.Answers.{answer_of, accepted, published, index_words_of}
use Rattle.panels.specs.Entries.{entry_after, strips_after, call_of, drafted_regions, entries, EntriesAgree}
use Rattle.panels.proofs.Plans.{boxes_since, GoodLast, Call, Plans}
use Rattle.panels.proofs.Panels.{plans_agree}
use Rattle.panels.proofs.Strips.{OneStrip, strip_sound, as_alone, one_strip, old_read, old_list}

module _ (header : List ℕ) (twelve : length header ≡ 12) where
  abbrev screen : Screen
  screen = sizes_at header

  abbrev commands : List ℕ → List Command
  commands s = commands_of (header ++ s) 12

  -- ---- the header, before any bytes
  word_same : (s : List ℕ) (at : ℕ) → at + 4 ≤ 12 → u32_at (header ++ s) at ≡ u32_at header at
  word_same s at k = sym (u32_same header (header ++ s) 0 12 front at at (omega arith) k)
    where
      front : (i j : ℕ) → j ≡ 0 + i → i < 12 → get_or header i 0 ≡ get_or (header ++ s) j 0
      front i j e h = let f : j ≡ i = omega arith in rw f (sym (get_or-append header s 0 i (omega (arith, twelve))))

  -- it is turned away, or its sizes fit
  pub by_header : (P : Outcome → Type 0) (s : List ℕ) (k : Screen → Outcome) → ((f : Fault) → P (refuses (refusal f 0))) → (fits screen ≡ true → P (k screen)) → P (on_header (header_of (header ++ s)) k)
  unfolding header_of
  by_header P s k away f =
      rw (le-ltb (length (header ++ s)) 12 (omega (arith, twelve, length-append header s)), word_same s 0 (omega arith), word_same s 4 (omega arith), word_same s 8 (omega arith))
      (pick_cases (λ x. P (on_header x k)) (fits screen) (Ok screen) (refused Size 0) f (λ e. away Size))

  -- ---- what a call comes to
  record Drafted (last : Option (List ℕ)) (s : List ℕ) (x : Outcome) : Type 0 where
    sizes : fits screen ≡ true
    alone : OneStrip header s
    regions : drafted_regions x ≡ schedule screen (boxes_since commands screen last s)
    words : index_words_of x ≡ index_words screen.band_height (row_count screen.height screen.band_height) (map bounds (commands s))

  abbrev WhereDrafted : Option (List ℕ) → List ℕ → Outcome → Type 0
  WhereDrafted last s (refuses why) = Unit {0}
  WhereDrafted last s (drafted i d) = Drafted last s (drafted i d)

  -- the bytes in front of the new strip: the header, and the last accepted strip behind it
  abbrev before : Option (List ℕ) → List ℕ
  before none = header
  before (some old) = header ++ old

  input_is : (last : Option (List ℕ)) (s : List ℕ) → before last ++ s ≡ header ++ strips_after last s
  input_is none s = refl
  input_is (some old) s = append_assoc header old s

  module _ (last : Option (List ℕ)) (s : List ℕ) (good : GoodLast (OneStrip header) last) where
    abbrev entry : Entry
    entry = entry_after last

    abbrev input : List ℕ
    input = before last ++ s

    abbrev AtEnd : Cursor → Type 0
    AtEnd c = c.at ≡ length (before last)

    -- there the old strip ends, or would have begun
    old_end : (last : Option (List ℕ)) → GoodLast (OneStrip header) last → WhereRead (λ c. c.at ≡ length (before last)) (old_of (entry_after last) (before last ++ s))
    old_end none g = sym twelve
    old_end (some old) g = let d = old_read header twelve old s g in subst (WhereRead (λ c. c.at ≡ length (header ++ old))) (sym d.1) d.2

    rects_are : (last : Option (List ℕ)) → GoodLast (OneStrip header) last → (new : List Command) → new ≡ commands s
        → rects_since (entry_after last) screen (old_commands (entry_after last) (before last ++ s)) new ≡ boxes_since commands screen last s
    rects_are none g new e = refl
    rects_are (some old) g new e = λ i. diff_dirty (old_list header twelve old s g i) (e i)

    strips_drafted : fits screen ≡ true → (x : Result Strips Refusal) → x ≡ strips_of entry input → WhereDrafted last s (on_strips entry screen input x)
    strips_drafted z (Err why) e = tt
    strips_drafted z (Ok both) e =
        let told = strips_told entry input e refl in
        let at : AtEnd both.old = subst (WhereRead AtEnd) told.0 (old_end last good) in
        let new : commands_of input both.old.at ≡ commands s = ap (commands_of input) at ∙ as_alone header twelve (before last) s in
        record {
          sizes = z;
          alone = one_strip header twelve (before last) s both.new (subst (λ (n : ℕ). read_strip input n ≡ Ok both.new) at told.1) told.2;
          regions = ap (schedule screen) (rects_are last good (commands_of input both.old.at) new);
          words = λ i. index_words screen.band_height (row_count screen.height screen.band_height) (map bounds (new i));
        }

    call_drafted : WhereDrafted last s (call_of header last s)
    unfolding outcome
    call_drafted = by_header (WhereDrafted last s) (strips_after last s) (λ screen. on_strips entry screen (header ++ strips_after last s) (strips_of entry (header ++ strips_after last s))) (λ n. tt)
        (λ z. subst (λ (t : List ℕ). WhereDrafted last s (on_strips entry screen t (strips_of entry t))) (input_is last s) (strips_drafted z (strips_of entry input) refl))

  -- ---- an accepted call
  accepted_drafted : (last : Option (List ℕ)) (s : List ℕ) (z : Lent) (x : Outcome) → WhereDrafted last s x → accepted (answer_of z x) ≡ true → Drafted last s x
  accepted_drafted last s z (refuses why) m e = absurd (true≢false (sym e))
  accepted_drafted last s z (drafted i d) m e = m

  call_made : (last : Option (List ℕ)) (s : List ℕ) (z : Slices) → Call (entries header) (OneStrip header) last s z → Drafted last s (call_of header last s)
  call_made last s z c = accepted_drafted last s (lent_of z) (call_of header last s) (call_drafted last s c.good_last) c.no_number

  pub words_behind : (a : Result Plan Refusal) (new old : List ℕ) → accepted a ≡ true → published a new old ≡ new ++ drop (length new) old
  words_behind (Ok plan) new old e = refl
  words_behind (Err why) new old e = absurd (true≢false (sym e))

  entries_plan : Plans screen (entries header) (OneStrip header)
  entries_plan = record {
    sizes = λ last s z c. (call_made last s z c).sizes;
    one_strip = λ last s z c. (call_made last s z c).alone;
    sound = λ last s z c. strip_sound (header ++ s) 12;
    regions = λ last s z c. (call_made last s z c).regions;
    words = λ last s z c.
        let x = call_of header last s in (
          drop (length (index_words_of x)) z.words,
          words_behind (answer_of (lent_of z) x) (index_words_of x) z.words c.no_number ∙ ap (λ (l : List ℕ). l ++ drop (length (index_words_of x)) z.words) (call_made last s z c).words,
        );
  }

pub panels_agree : EntriesAgree
panels_agree header twelve = plans_agree (sizes_at header) (entries header) (OneStrip header) (entries_plan header twelve)
