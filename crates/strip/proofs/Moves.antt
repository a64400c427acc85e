-- A step that goes on passes a byte and stays within the strip, so reading ends; and what is left to read decides as the whole does. Assumes nothing.
use mathlib.Core.Path.{◌≡◌, refl, sym, ap, ◌∙◌, subst}
use mathlib.Core.Bool.{true, false}
use mathlib.Core.Logic.{◌⊎◌, inl, inr}
use mathlib.Core.List.{List}
use Prim.Native.Nat.{ℕ, zero, suc, ◌+◌, ◌-◌, ◌≤◌, ◌<◌}
use native.Mathlib.Omega.{arith}
use lib.Dec.{leb, ltb, eqb}
use lib.ListN.{length, get_or}
use borrow.Author.Tests.{ltb-true, ltb-false, eqb-true}
use Rattle.base_refusals.specs.declared.Refusal.{Refusal}
use Rattle.base_lists.proofs.Picks.{pick_cases}
use Rattle.base_little_endian.specs.Words.{u16_at}
use Rattle.kurbo_geometry.specs.declared.Rect.{Rect}
use Rattle.kurbo_affine.specs.Affines.{try_transform}
use Rattle.display_list_commands.specs.Bounds.{transform_of, try_with}
use Rattle.strip_format.specs.Format.{length_of, rect_at, command_at}
use Rattle.strip_format.proofs.Lengths.{length_pos, length_clip, length_pop, length_run, length_glyph}
use Rattle.strip_operand_checks.specs.Operands.{operands_at}
use Rattle.strip.specs.declared.Cursor.{Cursor}
use Rattle.strip.specs.declared.Step.{Step}
use Rattle.strip.specs.declared.Step.TheVariants.{Next, Clip, Pop, Draw, End}
use Rattle.strip.specs.Steps.{start_at, due_fits, on_box, clip_step, pop_step, drawn, draw_step, run_step, unite, glyph_read, last_step, glyph_step, effect_of, step_at}
use Rattle.strip.proofs.Effects.{operands_cases}
use Rattle.strip.specs.Reading.{on_step, read_from, read_strip}
use Rattle.std.specs.Prelude.{Option, Some, None, Result, Ok, Err}

-- past a byte, and not past the n bytes there are
abbrev pub Ahead : ℕ → Cursor → Cursor → Type 0
Ahead n st t = (st.at < t.at) × (t.at ≤ n)

abbrev pub Moved : ℕ → Cursor → Result Step Refusal → Type 0
Moved n st (Ok (Next t)) = Ahead n st t
Moved n st (Ok (Clip t box)) = Ahead n st t
Moved n st (Ok (Pop t)) = Ahead n st t
Moved n st (Ok (Draw t at box)) = Ahead n st t
Moved n st (Ok (End t)) = Ahead n st t
Moved n st (Err r) = Unit {0}

module _ (n : ℕ) (st : Cursor) where
  on_box_lem : (at : ℕ) (r : Option Rect) (k : Rect → Result Step Refusal) → ((box : Rect) → Moved n st (k box)) → Moved n st (on_box at r k)
  on_box_lem at (Some box) k h = h box
  on_box_lem at None k h = tt

  clip_moves : (s : List ℕ) → st.at + 33 ≤ n → Moved n st (clip_step s st)
  unfolding clip_step
  clip_moves s h = pick_cases (Moved n st) (leb 32 st.depth) _ _ (λ e. tt) (λ e. pick_cases (Moved n st) (leb 4096 st.clips) _ _ (λ e. tt) (λ e. (omega arith, h)))

  pop_moves : st.at + 1 ≤ n → Moved n st (pop_step st)
  unfolding pop_step
  pop_moves h = pick_cases (Moved n st) (eqb st.depth 0) _ _ (λ e. tt) (λ e. (omega arith, h))

  draw_moves : (s : List ℕ) (len : ℕ) → 0 < len → st.at + len ≤ n → Moved n st (draw_step s st len)
  unfolding draw_step
  draw_moves s len p h = pick_cases (Moved n st) (leb 4096 st.commands) _ _ (λ e. tt) (λ e. on_box_lem st.at (try_with (command_at s st.at) st.united) (λ box. Ok (Draw (drawn st len 0) st.at box)) (λ box. (omega arith, h)))

  run_moves : (s : List ℕ) → st.at + 103 ≤ n → Moved n st (run_step s st)
  unfolding run_step
  run_moves s h = pick_cases (Moved n st) (eqb (u16_at s (st.at + 101)) 0) _ _ (λ e. draw_moves s 103 (omega arith) h) (λ e. pick_cases (Moved n st) (leb 4096 st.commands) _ _ (λ e. tt) (λ e. (omega arith, h)))

  last_moves : (s : List ℕ) (box : Rect) → st.at + 45 ≤ n → Moved n st (last_step s st box)
  unfolding last_step
  last_moves s box h = pick_cases (Moved n st) (eqb st.due 1) _ _ (λ e. on_box_lem st.at (try_transform (transform_of (command_at s st.run)) (unite st box)) (λ whole. Ok (Draw (glyph_read st box) st.run whole)) (λ whole. (omega arith, h))) (λ e. (omega arith, h))

  glyph_moves : (s : List ℕ) → st.at + 45 ≤ n → Moved n st (glyph_step s st)
  unfolding glyph_step
  glyph_moves s h = pick_cases (Moved n st) (leb 16384 st.glyphs) _ _ (λ e. tt) (λ e. on_box_lem st.at (try_transform (transform_of (command_at s st.run)) (rect_at s (st.at + 13))) (λ own. last_step s st (rect_at s (st.at + 13))) (λ own. last_moves s (rect_at s (st.at + 13)) h))

-- a length of the table, at a byte that is known
pub at_byte : (x n b k : ℕ) → x + length_of b ≤ n → b ≡ k → x + length_of k ≤ n
at_byte x n b k h e = subst (λ (y : ℕ). x + length_of y ≤ n) e h

effect_moves : (s : List ℕ) (st : Cursor) (b : ℕ) → st.at + length_of b ≤ length s → Moved (length s) st (effect_of s st b)
unfolding effect_of
effect_moves s st b h =
    pick_cases M (eqb b 0) _ _ (λ e. (omega arith, omega (arith, length_pos b)))
    λ e. pick_cases M (eqb b 1) _ _ (λ e. clip_moves (length s) st s (omega (arith, at_byte st.at (length s) b 1 h (eqb-true _ _ e), length_clip)))
    λ e. pick_cases M (eqb b 2) _ _ (λ e. pop_moves (length s) st (omega (arith, at_byte st.at (length s) b 2 h (eqb-true _ _ e), length_pop)))
    λ e. pick_cases M (eqb b 5) _ _ (λ e. run_moves (length s) st s (omega (arith, at_byte st.at (length s) b 5 h (eqb-true _ _ e), length_run)))
    λ e. pick_cases M (eqb b 6) _ _ (λ e. glyph_moves (length s) st s (omega (arith, at_byte st.at (length s) b 6 h (eqb-true _ _ e), length_glyph)))
    λ e. draw_moves (length s) st s (length_of b) (length_pos b) h
  where
    M : Result Step Refusal → Type 0
    M x = Moved (length s) st x

pub step_moves : (s : List ℕ) (st : Cursor) → Moved (length s) st (step_at s st)
unfolding step_at
step_moves s st =
    pick_cases M (ltb st.at (length s)) _ _
    (λ a. pick_cases M (leb b 7) _ _
    (λ e. pick_cases M (due_fits b st.due) _ _
    (λ e. pick_cases M (ltb (length s - st.at) (length_of b)) _ _ (λ e. tt)
    (λ l. operands_cases M st.at (operands_at s st.at b) _ (λ e. effect_moves s st b (fits a l)) (λ f e. tt)))
    (λ e. tt))
    (λ e. tt))
    (λ e. tt)
  where
    b : ℕ
    b = get_or s st.at 0

    M : Result Step Refusal → Type 0
    M x = Moved (length s) st x

    fits : ltb st.at (length s) ≡ true → ltb (length s - st.at) (length_of b) ≡ false → st.at + length_of b ≤ length s
    fits a l = omega (arith, ltb-true st.at (length s) a, ltb-false (length s - st.at) (length_of b) l)

-- ---- what is left from a cursor is the whole: some number of steps above the bytes left gives the strip's answer
abbrev pub Rest : List ℕ → ℕ → Cursor → Type 0
Rest s at st = (k : ℕ) × (length s - st.at < k) × (read_from k s st ≡ read_strip s at)

pub rest_start : (s : List ℕ) (at : ℕ) (st : Cursor) → st ≡ start_at at → Rest s at st
rest_start s at st e = rw e (suc (length s), omega arith, refl)

-- a step r that goes on to t, whatever is done there
abbrev GoesTo : Result Step Refusal → Cursor → Type 0
GoesTo r t = (k : Cursor → Result Cursor Refusal) → on_step r k ≡ k t

module _ (s : List ℕ) (at : ℕ) (st : Cursor) (r : Result Step Refusal) (rest : Rest s at st) (p : r ≡ step_at s st) where
  advance : (t : Cursor) → Ahead (length s) st t → GoesTo r t → (length s - t.at < length s - st.at) × Rest s at t
  unfolding read_from
  advance t a g = go rest
    where
      go : Rest s at st → (length s - t.at < length s - st.at) × Rest s at t
      go (zero, b, c) = absurd (omega arith)
      go (suc k, b, c) = (omega (arith, a.0, a.1), (k, omega (arith, a.0, a.1), sym (ap (λ x. on_step x (read_from k s)) (sym p) ∙ g (read_from k s)) ∙ c))

  moved : (x : Result Step Refusal) → r ≡ x → Moved (length s) st x
  moved x q = subst (Moved (length s) st) (sym p ∙ q) (step_moves s st)

  on_next_lem : (t : Cursor) → r ≡ Ok (Next t) → (length s - t.at < length s - st.at) × Rest s at t
  on_next_lem t q = advance t (moved (Ok (Next t)) q) (λ k. ap (λ x. on_step x k) q)

  on_clip : (t : Cursor) (box : Rect) → r ≡ Ok (Clip t box) → (length s - t.at < length s - st.at) × Rest s at t
  on_clip t box q = advance t (moved (Ok (Clip t box)) q) (λ k. ap (λ x. on_step x k) q)

  on_pop : (t : Cursor) → r ≡ Ok (Pop t) → (length s - t.at < length s - st.at) × Rest s at t
  on_pop t q = advance t (moved (Ok (Pop t)) q) (λ k. ap (λ x. on_step x k) q)

  on_draw : (t : Cursor) (from : ℕ) (box : Rect) → r ≡ Ok (Draw t from box) → (length s - t.at < length s - st.at) × Rest s at t
  on_draw t from box q = advance t (moved (Ok (Draw t from box)) q) (λ k. ap (λ x. on_step x k) q)

  pub on_end : (t : Cursor) → r ≡ Ok (End t) → Ok t ≡ read_strip s at
  unfolding read_from
  on_end t q = go rest
    where
      go : Rest s at st → Ok t ≡ read_strip s at
      go (zero, b, c) = absurd (omega arith)
      go (suc k, b, c) = sym (ap (λ x. on_step x (read_from k s)) (sym p ∙ q)) ∙ c

  pub on_refused : (f : Refusal) → r ≡ Err f → Err f ≡ read_strip s at
  unfolding read_from
  on_refused f q = go rest
    where
      go : Rest s at st → Err f ≡ read_strip s at
      go (zero, b, c) = absurd (omega arith)
      go (suc k, b, c) = sym (ap (λ x. on_step x (read_from k s)) (sym p ∙ q)) ∙ c

-- each of the four
pub on_moved : (s : List ℕ) (at : ℕ) (st : Cursor) {step : Step} {t : Cursor} → Rest s at st → Ok step ≡ step_at s st → (step ≡ Next t) ⊎ (((box : Rect) × (step ≡ Clip t box)) ⊎ ((step ≡ Pop t) ⊎ ((from : ℕ) × (box : Rect) × (step ≡ Draw t from box)))) → (length s - t.at < length s - st.at) × Rest s at t
on_moved s at st w p (inl e) = on_next_lem s at st _ w p _ (ap Ok e)
on_moved s at st w p (inr (inl (box, e))) = on_clip s at st _ w p _ box (ap Ok e)
on_moved s at st w p (inr (inr (inl e))) = on_pop s at st _ w p _ (ap Ok e)
on_moved s at st w p (inr (inr (inr (from, box, e)))) = on_draw s at st _ w p _ from box (ap Ok e)
