-- The words of the laws of reading. Document 01's number 6: "33rd open clip, 4,097th clip pushed", "4,097th drawing command",
-- "16,385th glyph of a frame".
use Rattle.base_refusals.specs.declared.Refusal.{Refusal}
use Rattle.std.specs.Prelude.{List, [], ◌∷◌, ℕ, zero, suc, ◌+◌, ◌*◌, ◌≤◌, ◌<◌, length, get_or, Result, Ok, Err}
use Rattle.display_list_commands.specs.Bounds.{glyph_count}
use Rattle.strip_format.specs.Format.{length_of, command_at}
use Rattle.strip_format.specs.Layout as Layout
use Rattle.strip_format.specs.Limits as Limits
use Rattle.strip.specs.declared.Cursor.{Cursor}
use Rattle.strip.specs.declared.Step.{Step}
use Rattle.strip.specs.declared.Step.TheVariants.{Next, Clip, Pop, Draw, End}
use Rattle.strip.specs.Steps.{start_at, step_at}

-- a cursor whose counts no number 6 forbids
pub record Within (st : Cursor) : Type 0 where
  pub depth : st.depth ≤ Limits.most_depth
  pub clips : st.clips ≤ Limits.most_clips
  pub commands : st.commands ≤ Limits.most_commands
  pub glyphs : st.glyphs ≤ Limits.most_glyphs

-- where a strip is read, its cursor has a property
abbrev pub WhereRead : (Cursor → Type 0) → Result Cursor Refusal → Type 0
WhereRead P (Ok t) = P t
WhereRead P (Err why) = Unit {0}

-- the cursor behind the END of a strip that begins at an offset, in n bytes
pub record Passed (at n : ℕ) (t : Cursor) : Type 0 where
  pub some : at < t.at
  pub inside : t.at ≤ n

-- a command stands whole at an offset, with its glyphs
pub record WholeCommand (s : List ℕ) (at : ℕ) : Type 0 where
  pub fits : at + length_of (get_or s at 0) ≤ length s
  pub glyphs : 0 < glyph_count (command_at s at) → at + Layout.run_glyphs + Layout.glyph_length * glyph_count (command_at s at) ≤ length s

-- where the drawing commands of a strip begin, in the order in which they are listed: a run is listed at its last GLYPH
abbrev pub on_offset : Result Step Refusal → (Cursor → List ℕ) → List ℕ
on_offset (Ok (Next t)) k = k t
on_offset (Ok (Clip t box)) k = k t
on_offset (Ok (Pop t)) k = k t
on_offset (Ok (Draw t at box)) k = at ∷ k t
on_offset (Ok (End t)) k = []
on_offset (Err why) k = []

unfoldable pub offsets_from : ℕ → List ℕ → Cursor → List ℕ
offsets_from zero s st = []
offsets_from (suc n) s st = on_offset (step_at s st) (λ t. offsets_from n s t)

abbrev pub offsets_of : List ℕ → ℕ → List ℕ
offsets_of s at = offsets_from (suc (length s)) s (start_at at)
