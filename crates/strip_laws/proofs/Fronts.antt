-- P1: a strip that is read alone is read alike in front of other bytes. P2: what is made of a strip behind other bytes depends on the strip alone, and its
-- positions shift. Both with the same commands. Assumes nothing.
use mathlib.Core.Path.{◌≡◌, refl, sym, ap, ◌∙◌, subst}
use mathlib.Core.Logic.{◌⊎◌, inl, inr, ⊎_elim}
use mathlib.Core.List.{List, [], ◌∷◌, ◌++◌}
use Prim.Native.Nat.{ℕ, zero, suc, ◌+◌, ◌-◌, ◌*◌, ◌≤◌, ◌<◌}
use native.Mathlib.Omega.{arith}
use lib.ListN.{length, get_or, length-append, get_or-append}
use Rattle.std.specs.Prelude.{Result, Ok, Err}
use Rattle.base_refusals.specs.declared.Refusal.{Refusal}
use Rattle.kurbo_geometry.specs.declared.Rect.{Rect}
use Rattle.display_list_commands.specs.declared.DrawCommand.{DrawCommand}
use Rattle.display_list_commands.specs.Bounds.{glyph_count}
use Rattle.strip_format.specs.Format.{command_at, glyphs_from}
use Rattle.strip.specs.declared.Cursor.{Cursor}
use Rattle.strip.specs.declared.Step.{Step}
use Rattle.strip.specs.declared.Step.TheVariants.{Next, Clip, Pop, Draw, End}
use Rattle.strip.specs.Steps.{start_at, step_at}
use Rattle.strip.specs.Reading.{on_step, read_from, read_strip, command_of, Listing, noted, on_next, list_from, commands_of}
use Rattle.strip.proofs.Moves.{Moved, step_moves}
use Rattle.strip_laws.specs.Limits.{WholeCommand}
use Rattle.strip_laws.proofs.Steps.{Kept}
use Rattle.strip_laws.proofs.Runs.{InRun, step_in_run, Draws, step_draws}
use Rattle.strip_format.proofs.Alike.{glyph_same_at}
use Rattle.strip_laws.proofs.Alike.{command_same}
use Rattle.strip_laws.proofs.Shifts.{Shifted, StepAlike, nexts, clips, pops, draws, ends, turns, Goes, step_alike}

-- the same answer, `by` bytes further on
abbrev pub AnswerAlike : ℕ → Result Cursor Refusal → Result Cursor Refusal → Type 0
AnswerAlike by (Ok c) (Ok d) = Shifted by c d
AnswerAlike by (Ok c) (Err why) = ⊥
AnswerAlike by (Err why) (Ok d) = ⊥
AnswerAlike by (Err why) (Err also) = (also.fault ≡ why.fault) × (also.position ≡ by + why.position)

-- an answer that is a refusal
abbrev Away : Result Cursor Refusal → Type 0
Away (Ok c) = ⊥
Away (Err why) = Unit {0}

turned : (why : Refusal) (c : Cursor) → Err why ≡ Ok c → ⊥
turned why c e = subst Away e tt

goes : (x : Result Step Refusal) (k : Cursor → Result Cursor Refusal) (c : Cursor) → on_step x k ≡ Ok c → Goes x
goes (Ok (Next t)) k c e = tt
goes (Ok (Clip t box)) k c e = tt
goes (Ok (Pop t)) k c e = tt
goes (Ok (Draw t at box)) k c e = tt
goes (Ok (End t)) k c e = tt
goes (Err why) k c e = turned why c e

module _ (s r : List ℕ) (by : ℕ) (same : (i j : ℕ) → j ≡ by + i → i < length s → get_or s i 0 ≡ get_or r j 0) (more : by + length s ≤ length r) where
  -- ---- the commands
  glyphs_same : (k at to : ℕ) → to ≡ by + at → (0 < k → at + 45 * k ≤ length s) → glyphs_from s at k ≡ glyphs_from r to k
  unfolding glyphs_from
  glyphs_same zero at to e h = refl
  glyphs_same (suc k) at to e h =
      let l = h (omega arith) in
      let g = glyph_same_at s r by (length s) same at to e (omega arith) in
      let rest = glyphs_same k (at + 45) (to + 45) (omega arith) (λ u. omega arith) in
      λ i. g i ∷ rest i

  listed_same : (at to : ℕ) (under : List Rect) → to ≡ by + at → WholeCommand s at → command_of s at under ≡ command_of r to under
  listed_same at to under e w =
      let d = command_same s r by (length s) same at to e w.fits (omega arith) more in
      let g : glyphs_from s (at + 103) (glyph_count (command_at s at)) ≡ glyphs_from r (to + 103) (glyph_count (command_at r to)) = glyphs_same (glyph_count (command_at s at)) (at + 103) (to + 103) (omega arith) w.glyphs ∙ ap (λ (x : DrawCommand). glyphs_from r (to + 103) (glyph_count x)) d in
      λ i. record { draw = d i; glyphs = g i; clips = under }

  noted_same : (l : Listing) {x y : Result Step Refusal} → StepAlike by x y → Draws s x → noted r l y ≡ noted s l x
  noted_same l (nexts a) w = refl
  noted_same l (clips a e) w = ap (λ (b : Rect). record { clips = l.clips ++ (b ∷ []); commands = l.commands }) (sym e)
  noted_same l (pops a) w = refl
  noted_same l (draws {p = p} {q = q} a e f) w = let c = sym (listed_same p q l.clips e w) in λ i. record { clips = l.clips; commands = l.commands ++ (c i ∷ []) }
  noted_same l (ends a) w = refl
  noted_same l (turns e) w = refl

  -- ---- reading: s is read, or both inputs end alike
  abbrev Sure : Result Cursor Refusal → Type 0
  Sure x = ((c : Cursor) × (x ≡ Ok c)) ⊎ (length r ≡ by + length s)

  record Both (k m : ℕ) (st to : Cursor) (l : Listing) : Type 0 where
    answers : AnswerAlike by (read_from k s st) (read_from m r to)
    lists : list_from m r to l ≡ list_from k s st l

  -- a step more
  module _ (k m : ℕ) (l : Listing) where
    record After (x y : Result Step Refusal) (w : Listing) : Type 0 where
      after_answers : AnswerAlike by (on_step x (λ t. read_from k s t)) (on_step y (λ t. read_from m r t))
      after_lists : on_next y l (λ t. list_from m r t w) ≡ on_next x l (λ t. list_from k s t w)

    module _ (st to : Cursor) (far : to.at ≡ by + st.at) (n : length s - st.at < suc k) (o : length r - to.at < suc m) (w : Listing) (f : (t u : Cursor) → Shifted by t u → InRun s t → length s - t.at < k → length r - u.at < m → Sure (read_from k s t) → Both k m t u w) where
      on : (t u : Cursor) → Shifted by t u → InRun s t → (st.at < t.at) × (t.at ≤ length s) → Sure (read_from k s t) → Both k m t u w
      on t u a i v h = f t u a i (omega (arith, v.0, v.1)) (omega (arith, a.at_is, v.0, v.1)) h

      after : {x y : Result Step Refusal} → StepAlike by x y → Kept (InRun s) (λ t. Unit {0}) x → Moved (length s) st x → Sure (on_step x (λ t. read_from k s t)) → After x y w
      after (nexts {c} {d} a) i v h = let b = on c d a i v h in record { after_answers = b.answers; after_lists = b.lists }
      after (clips {c} {d} a e) i v h = let b = on c d a i v h in record { after_answers = b.answers; after_lists = b.lists }
      after (pops {c} {d} a) i v h = let b = on c d a i v h in record { after_answers = b.answers; after_lists = b.lists }
      after (draws {c} {d} a e g) i v h = let b = on c d a i v h in record { after_answers = b.answers; after_lists = b.lists }
      after (ends a) i v h = record { after_answers = a; after_lists = refl }
      after (turns e) i v h = record { after_answers = (refl, e); after_lists = refl }

  both : (k m : ℕ) (st to : Cursor) (l : Listing) → Shifted by st to → InRun s st → length s - st.at < k → length r - to.at < m → Sure (read_from k s st) → Both k m st to l
  unfolding read_from list_from
  both zero m st to l a i n o h = absurd (omega arith)
  both (suc k) zero st to l a i n o h = absurd (omega arith)
  both (suc k) (suc m) st to l a i n o h =
      let x = step_alike s r by same more st to a i (⊎_elim (λ c. inl (goes (step_at s st) (λ t. read_from k s t) c.0 c.1)) (λ e. inr e) h) in
      let w = noted s l (step_at s st) in
      let b = after k m l st to a.at_is n o w (λ t u a i n o h. both k m t u w a i n o h) x (step_in_run s st i) (step_moves s st) h in
      record {
        answers = b.after_answers;
        lists = ap (λ (z : Listing). on_next (step_at r to) l (λ t. list_from m r t z)) (noted_same l x (step_draws s st i)) ∙ b.after_lists;
      }

  -- from an offset of s, and from `by` bytes further on in r
  whole : (at to : ℕ) → to ≡ by + at → Sure (read_strip s at) → Both (suc (length s)) (suc (length r)) (start_at at) (start_at to) (record { clips = []; commands = [] })
  whole at to e h = both (suc (length s)) (suc (length r)) (start_at at) (start_at to) (record { clips = []; commands = [] }) record { at_is = e; depth_is = refl; clips_are = refl; commands_are = refl; glyphs_are = refl; due_is = refl; run_is = λ k. absurd (omega arith); united_is = refl } (λ k. absurd (omega arith)) (omega arith) (omega arith) h

  pub answers_alike : (at to : ℕ) → to ≡ by + at → Sure (read_strip s at) → AnswerAlike by (read_strip s at) (read_strip r to)
  answers_alike at to e h = (whole at to e h).answers

  pub lists_alike : (at to : ℕ) → to ≡ by + at → Sure (read_strip s at) → commands_of r to ≡ commands_of s at
  lists_alike at to e h = ap (λ (l : Listing). l.commands) (whole at to e h).lists

-- the cursor of an answer that is alike one that was read
read_of : (by : ℕ) (c : Cursor) (x y : Result Cursor Refusal) → x ≡ Ok c → AnswerAlike by x y → (d : Cursor) × (y ≡ Ok d) × Shifted by c d
read_of by c x (Ok d) e a = (d, refl, subst (λ (z : Result Cursor Refusal). AnswerAlike by z (Ok d)) e a)
read_of by c x (Err why) e a = absurd (subst (λ (z : Result Cursor Refusal). AnswerAlike by z (Err why)) e a)

-- ---- P1: "a strip accepted alone" reads the same in front of other bytes: it ends at the same place with the same counts and commands
module _ (s t : List ℕ) (at : ℕ) (c : Cursor) (read : read_strip s at ≡ Ok c) where
  in_front : (i j : ℕ) → j ≡ 0 + i → i < length s → get_or s i 0 ≡ get_or (s ++ t) j 0
  in_front i j e h = let k : i ≡ j = omega arith in sym (get_or-append s t 0 i h) ∙ ap (λ (x : ℕ). get_or (s ++ t) x 0) k

  longer : 0 + length s ≤ length (s ++ t)
  longer = omega (arith, length-append s t)

  pub front_read : (d : Cursor) × (read_strip (s ++ t) at ≡ Ok d) × Shifted 0 c d
  front_read = read_of 0 c (read_strip s at) (read_strip (s ++ t) at) read (answers_alike s (s ++ t) 0 in_front longer at at (omega arith) (inl (c, read)))

  pub front_list : commands_of (s ++ t) at ≡ commands_of s at
  front_list = lists_alike s (s ++ t) 0 in_front longer at at (omega arith) (inl (c, read))

-- ---- P2: what is made of a strip behind other bytes is what is made of it alone, `length u` bytes further on
behind : (u t : List ℕ) (i j : ℕ) → j ≡ length u + i → i < length t → get_or t i 0 ≡ get_or (u ++ t) j 0
behind [] t i j e h = let k : i ≡ j = omega arith in ap (λ (x : ℕ). get_or t x 0) k
behind (a ∷ u) t i zero e h = absurd (omega arith)
behind (a ∷ u) t i (suc j) e h = behind u t i j (omega arith) h

module _ (u t : List ℕ) where
  pub behind_answer : AnswerAlike (length u) (read_strip t 0) (read_strip (u ++ t) (length u))
  behind_answer = answers_alike t (u ++ t) (length u) (behind u t) (omega (arith, length-append u t)) 0 (length u) (omega arith) (inr (length-append u t))

  pub behind_list : commands_of (u ++ t) (length u) ≡ commands_of t 0
  behind_list = lists_alike t (u ++ t) (length u) (behind u t) (omega (arith, length-append u t)) 0 (length u) (omega arith) (inr (length-append u t))
