-- The offsets of a strip's commands ascend, from the strip's first byte on. Assumes nothing.
use mathlib.Core.List.{List, [], ◌∷◌}
use Prim.Native.Nat.{ℕ, zero, suc, ◌≤◌, ◌<◌}
use native.Mathlib.Omega.{arith}
use lib.ListN.{length}
use Rattle.std.specs.Prelude.{Result, Ok, Err}
use Rattle.base_refusals.specs.declared.Refusal.{Refusal}
use Rattle.base_lists.specs.Members.{All, Pairs}
use Rattle.base_lists.proofs.Members.{all_map}
use Rattle.strip.specs.declared.Cursor.{Cursor}
use Rattle.strip.specs.declared.Step.{Step}
use Rattle.strip.specs.declared.Step.TheVariants.{Next, Clip, Pop, Draw, End}
use Rattle.strip.specs.Steps.{start_at, step_at}
use Rattle.strip.proofs.Moves.{Moved, step_moves}
use Rattle.strip_laws.specs.Limits.{on_offset, offsets_from, offsets_of}
use Rattle.strip_laws.proofs.Steps.{by_cases, Kept}
use Rattle.strip_laws.proofs.Runs.{InRun, step_in_run}

-- what is still to be listed begins at m or behind it
pub record Since (m : ℕ) (st : Cursor) : Type 0 where
  pub stands : m ≤ st.at
  pub running : 0 < st.due → m ≤ st.run

abbrev Ascends : ℕ → Result Step Refusal → Type 0
Ascends m (Ok (Next t)) = Since m t
Ascends m (Ok (Clip t box)) = Since m t
Ascends m (Ok (Pop t)) = Since m t
Ascends m (Ok (Draw t at box)) = (m ≤ at) × Since (suc at) t
Ascends m (Ok (End t)) = Unit {0}
Ascends m (Err why) = Unit {0}

step_ascends : (s : List ℕ) (m : ℕ) (st : Cursor) → InRun s st → Since m st → Moved (length s) st (step_at s st) → Ascends m (step_at s st)
step_ascends s m st h a = by_cases s st (λ x. Moved (length s) st x → Ascends m x) record {
  refused = λ n p v. tt;
  ended = λ due v. tt;
  clip = λ d c due v. record { stands = omega (arith, a.stands); running = λ k. absurd (omega (arith, due)) };
  pop = λ d due v. record { stands = omega (arith, a.stands); running = λ k. absurd (omega (arith, due)) };
  draw = λ len c due alone box f v. (a.stands, record { stands = v.0; running = λ k. absurd (omega arith) });
  run = λ c due is fits some v. record { stands = omega (arith, a.stands); running = λ k. a.stands };
  glyph = λ g due fits d own o v. record { stands = omega (arith, a.stands); running = λ k. a.running due };
  last = λ g fits d own o box f v. let b = h (omega (arith, d)) in (a.running (omega (arith, d)), record { stands = omega (arith, b.stands); running = λ k. absurd (omega (arith, d)) });
}

-- the offsets from m on, each before the next
pub record Rising (m : ℕ) (l : List ℕ) : Type 0 where
  pub from : All (λ i. m ≤ i) l
  pub ascending : Pairs (λ i j. i < j) l

rising_none : (m : ℕ) → Rising m []
unfolding All Pairs
rising_none m = record { from = tt; ascending = tt }

rising_more : (m at : ℕ) (l : List ℕ) → m ≤ at → Rising (suc at) l → Rising m (at ∷ l)
unfolding All Pairs
rising_more m at l h r = record { from = (h, all_map (λ i. suc at ≤ i) (λ i. m ≤ i) (λ i k. omega arith) l r.from); ascending = (all_map (λ i. suc at ≤ i) (λ i. at < i) (λ i k. omega arith) l r.from, r.ascending) }

offset_step : (s : List ℕ) (m : ℕ) (x : Result Step Refusal) (k : Cursor → List ℕ) → Kept (InRun s) (λ t. Unit {0}) x → Ascends m x → ((i : ℕ) (t : Cursor) → InRun s t → Since i t → Rising i (k t)) → Rising m (on_offset x k)
offset_step s m (Ok (Next t)) k h a f = f m t h a
offset_step s m (Ok (Clip t box)) k h a f = f m t h a
offset_step s m (Ok (Pop t)) k h a f = f m t h a
offset_step s m (Ok (Draw t at box)) k h a f = rising_more m at (k t) a.0 (f (suc at) t h a.1)
offset_step s m (Ok (End t)) k h a f = rising_none m
offset_step s m (Err why) k h a f = rising_none m

offsets_rise : (s : List ℕ) (n m : ℕ) (st : Cursor) → InRun s st → Since m st → Rising m (offsets_from n s st)
unfolding offsets_from
offsets_rise s zero m st h a = rising_none m
offsets_rise s (suc n) m st h a = offset_step s m (step_at s st) (λ t. offsets_from n s t) (step_in_run s st h) (step_ascends s m st h a (step_moves s st)) (λ i t g b. offsets_rise s n i t g b)

pub strip_offsets : (s : List ℕ) (at : ℕ) → Rising at (offsets_of s at)
strip_offsets s at = offsets_rise s (suc (length s)) at (start_at at) (λ k. absurd (omega arith)) record { stands = omega arith; running = λ k. absurd (omega arith) }
