-- What the cursor has counted where a strip ends is what is listed: drawing commands, and their glyphs. Assumes nothing.
use mathlib.Core.Path.{◌≡◌, refl, ap, ◌∙◌}
use mathlib.Core.List.{List, [], ◌∷◌, ◌++◌}
use Prim.Native.Nat.{ℕ, zero, suc, ◌+◌, ◌<◌}
use native.Mathlib.Omega.{arith}
use lib.ListN.{length, length-append}
use Rattle.std.specs.Prelude.{Result, Ok, Err}
use Rattle.base_refusals.specs.declared.Refusal.{Refusal}
use Rattle.display_list_commands.specs.Bounds.{Command, glyph_count}
use Rattle.strip_format.specs.Format.{command_at}
use Rattle.strip.specs.declared.Cursor.{Cursor}
use Rattle.strip.specs.declared.Step.{Step}
use Rattle.strip.specs.declared.Step.TheVariants.{Next, Clip, Pop, Draw, End}
use Rattle.strip.specs.Steps.{start_at, step_at}
use Rattle.strip.specs.Reading.{on_step, read_from, read_strip, command_of, Listing, noted, on_next, list_from, commands_of}
use Rattle.strip_laws.specs.Limits.{WhereRead}
use Rattle.strip_laws.proofs.Steps.{run_count, by_cases, Kept}
use Rattle.strip_laws.proofs.Runs.{glyphs_length}

-- the glyphs of a list of commands
unfoldable pub glyph_total : List Command → ℕ
glyph_total [] = 0
glyph_total (c ∷ cs) = length c.glyphs + glyph_total cs

total_more : (cs : List Command) (c : Command) → glyph_total (cs ++ (c ∷ [])) ≡ glyph_total cs + length c.glyphs
unfolding glyph_total
total_more [] c = omega arith
total_more (d ∷ cs) c = let e = total_more cs c in omega arith

pub record Counted (cs : List Command) (t : Cursor) : Type 0 where
  pub commands : t.commands ≡ length cs
  pub glyphs : t.glyphs ≡ glyph_total cs

-- while glyphs are due, their run is counted and not yet listed
record Counting (s : List ℕ) (cs : List Command) (st : Cursor) : Type 0 where
  idle : st.due ≡ 0 → Counted cs st
  commands : 0 < st.due → st.commands ≡ length cs + 1
  glyphs : 0 < st.due → st.glyphs + st.due ≡ glyph_total cs + glyph_count (command_at s st.run)

-- one more is listed, with as many glyphs as it says
module _ (s : List ℕ) (l : Listing) (at n : ℕ) (is : glyph_count (command_at s at) ≡ n) where
  many : length (l.commands ++ (command_of s at l.clips ∷ [])) ≡ length l.commands + 1
  many = length-append l.commands (command_of s at l.clips ∷ [])

  inked : glyph_total (l.commands ++ (command_of s at l.clips ∷ [])) ≡ glyph_total l.commands + n
  inked = total_more l.commands (command_of s at l.clips) ∙ ap (λ (k : ℕ). glyph_total l.commands + k) (glyphs_length s (glyph_count (command_at s at)) (at + 103) ∙ is)

step_counts : (s : List ℕ) (l : Listing) (st : Cursor) → Counting s l.commands st → Kept (Counting s (noted s l (step_at s st)).commands) (Counted l.commands) (step_at s st)
step_counts s l st h = by_cases s st (λ x. Kept (Counting s (noted s l x).commands) (Counted l.commands) x) record {
  refused = λ n p. tt;
  ended = λ due. record { commands = (h.idle due).commands; glyphs = (h.idle due).glyphs };
  clip = λ d c due. record { idle = λ k. record { commands = (h.idle due).commands; glyphs = (h.idle due).glyphs }; commands = λ k. absurd (omega (arith, due)); glyphs = λ k. absurd (omega (arith, due)) };
  pop = λ d due. record { idle = λ k. record { commands = (h.idle due).commands; glyphs = (h.idle due).glyphs }; commands = λ k. absurd (omega (arith, due)); glyphs = λ k. absurd (omega (arith, due)) };
  draw = λ len c due alone box f. record {
    idle = λ k. record { commands = omega (arith, (h.idle due).commands, many s l st.at 0 alone.none); glyphs = omega (arith, (h.idle due).glyphs, inked s l st.at 0 alone.none) };
    commands = λ k. absurd (omega arith);
    glyphs = λ k. absurd (omega arith);
  };
  run = λ c due is fits some. record {
    idle = λ k. absurd (some k);
    commands = λ k. omega (arith, (h.idle due).commands);
    glyphs = λ k. omega (arith, (h.idle due).glyphs, run_count s st.at is fits);
  };
  glyph = λ g due fits d own o. record { idle = λ k. absurd (d (omega (arith, k, due))); commands = λ k. h.commands due; glyphs = λ k. omega (arith, h.glyphs due, due) };
  last = λ g fits d own o box f. record {
    idle = λ k. record {
      commands = omega (arith, h.commands (omega (arith, d)), many s l st.run (glyph_count (command_at s st.run)) refl);
      glyphs = omega (arith, d, h.glyphs (omega (arith, d)), inked s l st.run (glyph_count (command_at s st.run)) refl);
    };
    commands = λ k. absurd (omega (arith, d));
    glyphs = λ k. absurd (omega (arith, d));
  };
}

-- reading and listing take the same steps
module _ (s : List ℕ) where
  on_counts : (n : ℕ) (l : Listing) (x : Result Step Refusal) → Kept (Counting s (noted s l x).commands) (Counted l.commands) x
      → ((t : Cursor) → Counting s (noted s l x).commands t → WhereRead (Counted (list_from n s t (noted s l x)).commands) (read_from n s t))
      → WhereRead (Counted (on_next x l (λ t. list_from n s t (noted s l x))).commands) (on_step x (λ t. read_from n s t))
  on_counts n l (Ok (Next t)) h f = f t h
  on_counts n l (Ok (Clip t box)) h f = f t h
  on_counts n l (Ok (Pop t)) h f = f t h
  on_counts n l (Ok (Draw t at box)) h f = f t h
  on_counts n l (Ok (End t)) h f = h
  on_counts n l (Err why) h f = tt

  from_counts : (n : ℕ) (l : Listing) (st : Cursor) → Counting s l.commands st → WhereRead (Counted (list_from n s st l).commands) (read_from n s st)
  unfolding read_from list_from
  from_counts zero l st h = tt
  from_counts (suc n) l st h = on_counts n l (step_at s st) (step_counts s l st h) (λ t k. from_counts n (noted s l (step_at s st)) t k)

  pub strip_counted : (at : ℕ) → WhereRead (Counted (commands_of s at)) (read_strip s at)
  strip_counted at = from_counts (suc (length s)) (record { clips = []; commands = [] }) (start_at at) (record { idle = λ k. record { commands = refl; glyphs = none }; commands = λ k. absurd (omega arith); glyphs = λ k. absurd (omega arith) })
    where
      none : 0 ≡ glyph_total []
      none = unfold glyph_total in refl
