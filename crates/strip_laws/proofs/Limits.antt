-- The counts of a strip that is read are within document 01's limits, and its END lies behind its offset. Assumes nothing.
use mathlib.Core.List.{List}
use Prim.Native.Nat.{ℕ, suc, ◌≤◌}
use native.Mathlib.Omega.{arith}
use lib.ListN.{length}
use Rattle.std.specs.Prelude.{Result, Ok, Err}
use Rattle.base_refusals.specs.declared.Refusal.{Refusal}
use Rattle.strip.specs.declared.Cursor.{Cursor}
use Rattle.strip.specs.declared.Step.{Step}
use Rattle.strip.specs.declared.Step.TheVariants.{Next, Clip, Pop, Draw, End}
use Rattle.strip.specs.Steps.{start_at, step_at}
use Rattle.strip.specs.Reading.{read_strip}
use Rattle.strip.proofs.Moves.{Moved, step_moves}
use Rattle.strip_laws.specs.Limits.{Within, WhereRead, Passed}
use Rattle.strip_laws.proofs.Steps.{by_cases, Kept, read_keeps}

-- ---- the counts
pub step_within : (s : List ℕ) (st : Cursor) → Within st → Kept Within Within (step_at s st)
step_within s st w = by_cases s st (Kept Within Within) record {
  refused = λ n p. tt;
  ended = λ due. record { depth = w.depth; clips = w.clips; commands = w.commands; glyphs = w.glyphs };
  clip = λ d c due. record { depth = omega arith; clips = omega arith; commands = w.commands; glyphs = w.glyphs };
  pop = λ d due. record { depth = omega (arith, w.depth); clips = w.clips; commands = w.commands; glyphs = w.glyphs };
  draw = λ len c due alone box f. record { depth = w.depth; clips = w.clips; commands = omega arith; glyphs = w.glyphs };
  run = λ c due is fits some. record { depth = w.depth; clips = w.clips; commands = omega arith; glyphs = w.glyphs };
  glyph = λ g due fits d own o. record { depth = w.depth; clips = w.clips; commands = w.commands; glyphs = omega arith };
  last = λ g fits d own o box f. record { depth = w.depth; clips = w.clips; commands = w.commands; glyphs = omega arith };
}

pub start_within : (at : ℕ) → Within (start_at at)
start_within at = record { depth = omega arith; clips = omega arith; commands = omega arith; glyphs = omega arith }

pub strip_within : (s : List ℕ) (at : ℕ) → WhereRead Within (read_strip s at)
strip_within s at = read_keeps Within Within s (step_within s) (suc (length s)) (start_at at) (start_within at)

-- ---- the offset
module _ (s : List ℕ) (at : ℕ) where
  -- not fallen back behind the offset
  abbrev From : Cursor → Type 0
  From t = at ≤ t.at

  onward : (st : Cursor) → From st → (x : Result Step Refusal) → Moved (length s) st x → Kept From (Passed at (length s)) x
  onward st h (Ok (Next t)) m = omega (arith, m.0)
  onward st h (Ok (Clip t box)) m = omega (arith, m.0)
  onward st h (Ok (Pop t)) m = omega (arith, m.0)
  onward st h (Ok (Draw t from box)) m = omega (arith, m.0)
  onward st h (Ok (End t)) m = record { some = omega (arith, m.0); inside = m.1 }
  onward st h (Err why) m = tt

  -- some bytes are passed, and none that is not there
  pub strip_passed : WhereRead (Passed at (length s)) (read_strip s at)
  strip_passed = read_keeps From (Passed at (length s)) s (λ st h. onward st h (step_at s st) (step_moves s st)) (suc (length s)) (start_at at) (omega arith)
