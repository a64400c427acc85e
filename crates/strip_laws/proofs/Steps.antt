-- A property of steps, case by case; and what every step keeps, reading keeps. Assumes nothing.
use mathlib.Core.Path.{◌≡◌, refl, sym, ap, ◌∙◌, subst}
use mathlib.Core.Bool.{true, false}
use mathlib.Core.List.{List}
use Prim.Native.Nat.{ℕ, zero, suc, ◌+◌, ◌-◌, ◌≤◌, ◌<◌}
use native.Mathlib.Omega.{arith}
use lib.Dec.{leb, ltb, eqb}
use lib.ListN.{length, get_or}
use borrow.Author.Tests.{le-leb, leb-false, ltb-true, ltb-false, eqb-true, eqb-false}
use Rattle.base_refusals.specs.declared.Fault.{Fault}
use Rattle.base_refusals.specs.declared.Fault.TheVariants.{CutOff, UnknownCode, NoOpenClip, TooMany, GlyphOrder, BoxNotFinite}
use Rattle.base_refusals.specs.declared.Refusal.{Refusal}
use Rattle.base_refusals.specs.Table.{refusal}
use Rattle.base_lists.proofs.Picks.{pick_false, pick_cases}
use Rattle.base_little_endian.specs.Words.{u16_at}
use Rattle.kurbo_geometry.specs.declared.Rect.{Rect}
use Rattle.kurbo_affine.specs.Affines.{try_transform}
use Rattle.display_list_commands.specs.declared.DrawCommand.{DrawCommand}
use Rattle.display_list_commands.specs.Bounds.{transform_of, glyph_count, try_with}
use Rattle.strip_format.specs.Format.{length_of, rect_at, command_at}
use Rattle.strip_format.proofs.Commands.{command_cases}
use Rattle.strip_format.proofs.Lengths.{length_run, length_glyph}
use Rattle.strip_operand_checks.specs.Operands.{operands_at}
use Rattle.strip.specs.declared.Cursor.{Cursor}
use Rattle.strip.specs.declared.Step.{Step}
use Rattle.strip.specs.declared.Step.TheVariants.{Next, Clip, Pop, Draw, End}
use Rattle.strip.specs.Steps.{due_fits, on_box, opened, closed, clip_step, pop_step, drawn, draw_step, run_step, unite, glyph_read, last_step, glyph_step, end_step, effect_of, step_at}
use Rattle.strip.proofs.Effects.{due_glyph, operands_cases}
use Rattle.strip.specs.Reading.{on_step, read_from, Listing, noted, on_next, list_from}
use Rattle.strip_laws.specs.Limits.{WhereRead}
use Rattle.std.specs.Prelude.{Option, Some, None, Result, Ok, Err}

-- ---- case by case
abbrev Z : DrawCommand → Type 0
Z d = glyph_count d ≡ 0

-- a drawing command without glyphs stands whole at an offset
pub record Alone (s : List ℕ) (at : ℕ) : Type 0 where
  pub fits : at + length_of (get_or s at 0) ≤ length s
  pub none : glyph_count (command_at s at) ≡ 0

-- how many glyphs a command says it has, by its byte
pub run_count : (s : List ℕ) (at : ℕ) → get_or s at 0 ≡ 5 → at + 103 ≤ length s → glyph_count (command_at s at) ≡ u16_at s (at + 101)
unfolding command_at
run_count s at is h = rw (is, length_run, le-leb (at + 103) (length s) h)

pub no_count : (s : List ℕ) (at : ℕ) → (get_or s at 0 ≡ 5 → ⊥) → glyph_count (command_at s at) ≡ 0
no_count s at other = command_cases s at Z refl refl (λ e. absurd (other e)) refl refl

-- no glyph is due where another command may stand
due_none : (b k due : ℕ) → b ≡ k → eqb k 6 ≡ false → due_fits b due ≡ true → due ≡ 0
unfolding due_fits
due_none b k due e n h = eqb-true due 0 (sym (pick_false (eqb b 6) (ltb 0 due) (eqb due 0) (ap (λ (x : ℕ). eqb x 6) e ∙ n)) ∙ h)

-- M holds of every step that may be taken at a cursor
pub record Cases (s : List ℕ) (st : Cursor) (M : Result Step Refusal → Type 0) : Type 0 where
  pub refused : (f : Fault) (p : ℕ) → M (Err (refusal f p))
  pub ended : st.due ≡ 0 → M (end_step st)
  pub clip : st.depth < 32 → st.clips < 4096 → st.due ≡ 0 → M (Ok (Clip (opened st) (rect_at s (st.at + 1))))
  pub pop : (st.depth ≡ 0 → ⊥) → st.due ≡ 0 → M (Ok (Pop (closed st)))
  pub draw : (len : ℕ) → st.commands < 4096 → st.due ≡ 0 → Alone s st.at → (box : Rect) → try_with (command_at s st.at) st.united ≡ Some box → M (Ok (Draw (drawn st len 0) st.at box))
  pub run : st.commands < 4096 → st.due ≡ 0 → get_or s st.at 0 ≡ 5 → st.at + 103 ≤ length s → (u16_at s (st.at + 101) ≡ 0 → ⊥) → M (Ok (Next (drawn st 103 (u16_at s (st.at + 101)))))
  pub glyph : st.glyphs < 16384 → 0 < st.due → st.at + 45 ≤ length s → (st.due ≡ 1 → ⊥) → (own : Rect) → try_transform (transform_of (command_at s st.run)) (rect_at s (st.at + 13)) ≡ Some own → M (Ok (Next (glyph_read st (rect_at s (st.at + 13)))))
  pub last : st.glyphs < 16384 → st.at + 45 ≤ length s → st.due ≡ 1 → (own : Rect) → try_transform (transform_of (command_at s st.run)) (rect_at s (st.at + 13)) ≡ Some own → (box : Rect) → try_transform (transform_of (command_at s st.run)) (unite st (rect_at s (st.at + 13))) ≡ Some box → M (Ok (Draw (glyph_read st (rect_at s (st.at + 13))) st.run box))

module _ (s : List ℕ) (st : Cursor) (M : Result Step Refusal → Type 0) (cases : Cases s st M) where
  on_box_lem : (r : Option Rect) (k : Rect → Result Step Refusal) → ((box : Rect) → r ≡ Some box → M (k box)) → M (on_box st.at r k)
  on_box_lem (Some box) k h = h box refl
  on_box_lem None k h = cases.refused BoxNotFinite st.at

  of_clip : st.due ≡ 0 → M (clip_step s st)
  unfolding clip_step
  of_clip due =
      pick_cases M (leb 32 st.depth) _ _ (λ e. cases.refused TooMany st.at)
      λ e. pick_cases M (leb 4096 st.clips) _ _ (λ e. cases.refused TooMany st.at) (λ f. cases.clip (leb-false 32 st.depth e) (leb-false 4096 st.clips f) due)

  of_pop : st.due ≡ 0 → M (pop_step st)
  unfolding pop_step
  of_pop due = pick_cases M (eqb st.depth 0) _ _ (λ e. cases.refused NoOpenClip st.at) (λ e. cases.pop (eqb-false st.depth 0 e) due)

  of_draw : (len : ℕ) → st.due ≡ 0 → Alone s st.at → M (draw_step s st len)
  unfolding draw_step
  of_draw len due alone =
      pick_cases M (leb 4096 st.commands) _ _ (λ e. cases.refused TooMany st.at)
      λ e. on_box_lem (try_with (command_at s st.at) st.united) (λ box. Ok (Draw (drawn st len 0) st.at box)) (λ box f. cases.draw len (leb-false 4096 st.commands e) due alone box f)

  of_run : st.due ≡ 0 → get_or s st.at 0 ≡ 5 → st.at + 103 ≤ length s → M (run_step s st)
  unfolding run_step
  of_run due is fits =
      pick_cases M (eqb (u16_at s (st.at + 101)) 0) _ _ (λ e. of_draw 103 due record { fits = subst (λ (y : ℕ). st.at + length_of y ≤ length s) (sym is) (omega (arith, length_run)); none = run_count s st.at is fits ∙ eqb-true (u16_at s (st.at + 101)) 0 e })
      λ z. pick_cases M (leb 4096 st.commands) _ _ (λ e. cases.refused TooMany st.at) (λ e. cases.run (leb-false 4096 st.commands e) due is fits (eqb-false (u16_at s (st.at + 101)) 0 z))

  of_last : st.glyphs < 16384 → 0 < st.due → st.at + 45 ≤ length s → (own : Rect) → try_transform (transform_of (command_at s st.run)) (rect_at s (st.at + 13)) ≡ Some own → M (last_step s st (rect_at s (st.at + 13)))
  unfolding last_step
  of_last h due fits own o =
      pick_cases M (eqb st.due 1) _ _
      (λ e. on_box_lem (try_transform (transform_of (command_at s st.run)) (unite st (rect_at s (st.at + 13)))) (λ box. Ok (Draw (glyph_read st (rect_at s (st.at + 13))) st.run box)) (λ box f. cases.last h fits (eqb-true st.due 1 e) own o box f))
      (λ e. cases.glyph h due fits (eqb-false st.due 1 e) own o)

  of_glyph : 0 < st.due → st.at + 45 ≤ length s → M (glyph_step s st)
  unfolding glyph_step
  of_glyph due fits =
      pick_cases M (leb 16384 st.glyphs) _ _ (λ e. cases.refused TooMany st.at)
      λ e. on_box_lem (try_transform (transform_of (command_at s st.run)) (rect_at s (st.at + 13))) (λ own. last_step s st (rect_at s (st.at + 13))) (λ own o. of_last (leb-false 16384 st.glyphs e) due fits own o)

  of_effect : (b : ℕ) → get_or s st.at 0 ≡ b → due_fits b st.due ≡ true → st.at + length_of b ≤ length s → M (effect_of s st b)
  unfolding effect_of
  of_effect b is due fits =
      pick_cases M (eqb b 0) _ _ (λ e. cases.ended (due_none b 0 st.due (eqb-true b 0 e) refl due))
      λ e. pick_cases M (eqb b 1) _ _ (λ e. of_clip (due_none b 1 st.due (eqb-true b 1 e) refl due))
      λ e. pick_cases M (eqb b 2) _ _ (λ e. of_pop (due_none b 2 st.due (eqb-true b 2 e) refl due))
      λ e. pick_cases M (eqb b 5) _ _ (λ e. let k = eqb-true b 5 e in of_run (due_none b 5 st.due k refl due) (is ∙ k) (omega (arith, subst (λ (y : ℕ). st.at + length_of y ≤ length s) k fits, length_run)))
      λ f. pick_cases M (eqb b 6) _ _ (λ e. of_glyph (due_glyph b st.due (eqb-true b 6 e) due) (omega (arith, subst (λ (y : ℕ). st.at + length_of y ≤ length s) (eqb-true b 6 e) fits, length_glyph))) (λ e. of_draw (length_of b) (due_none b b st.due refl e due) record { fits = subst (λ (y : ℕ). st.at + length_of y ≤ length s) (sym is) fits; none = no_count s st.at (λ k. eqb-false b 5 f (sym is ∙ k)) })

  pub by_cases : M (step_at s st)
  unfolding step_at
  by_cases =
      pick_cases M (ltb st.at (length s)) _ _
      (λ a. pick_cases M (leb b 7) _ _
      (λ e. pick_cases M (due_fits b st.due) _ _
      (λ d. pick_cases M (ltb (length s - st.at) (length_of b)) _ _ (λ e. cases.refused CutOff st.at)
      (λ l. operands_cases M st.at (operands_at s st.at b) _ (λ e. of_effect b refl d (omega (arith, ltb-true st.at (length s) a, ltb-false (length s - st.at) (length_of b) l))) (λ f e. cases.refused f st.at)))
      (λ e. cases.refused GlyphOrder st.at))
      (λ e. cases.refused UnknownCode st.at))
      (λ e. cases.refused CutOff (length s))
    where
      b : ℕ
      b = get_or s st.at 0

-- ---- reading
-- the cursor that a step goes on with has one property, the one that it ends with another
abbrev pub Kept : (Cursor → Type 0) → (Cursor → Type 0) → Result Step Refusal → Type 0
Kept P Q (Ok (Next t)) = P t
Kept P Q (Ok (Clip t box)) = P t
Kept P Q (Ok (Pop t)) = P t
Kept P Q (Ok (Draw t at box)) = P t
Kept P Q (Ok (End t)) = Q t
Kept P Q (Err why) = Unit {0}

module _ (P Q : Cursor → Type 0) where
  on_step_lem : (x : Result Step Refusal) (k : Cursor → Result Cursor Refusal) → Kept P Q x → ((t : Cursor) → P t → WhereRead Q (k t)) → WhereRead Q (on_step x k)
  on_step_lem (Ok (Next t)) k h f = f t h
  on_step_lem (Ok (Clip t box)) k h f = f t h
  on_step_lem (Ok (Pop t)) k h f = f t h
  on_step_lem (Ok (Draw t at box)) k h f = f t h
  on_step_lem (Ok (End t)) k h f = h
  on_step_lem (Err why) k h f = tt

  pub read_keeps : (s : List ℕ) → ((st : Cursor) → P st → Kept P Q (step_at s st)) → (n : ℕ) (st : Cursor) → P st → WhereRead Q (read_from n s st)
  unfolding read_from
  read_keeps s f zero st h = tt
  read_keeps s f (suc n) st h = on_step_lem (step_at s st) (λ t. read_from n s t) (f st h) (λ t k. read_keeps s f n t k)

-- ---- the list
module _ (P : Cursor → Type 0) (L : Listing → Type 0) where
  next_keeps : (x : Result Step Refusal) (l : Listing) (k : Cursor → Listing) → Kept P (λ t. Unit {0}) x → L l → ((t : Cursor) → P t → L (k t)) → L (on_next x l k)
  next_keeps (Ok (Next t)) l k h o f = f t h
  next_keeps (Ok (Clip t box)) l k h o f = f t h
  next_keeps (Ok (Pop t)) l k h o f = f t h
  next_keeps (Ok (Draw t at box)) l k h o f = f t h
  next_keeps (Ok (End t)) l k h o f = o
  next_keeps (Err why) l k h o f = o

  pub list_keeps : (s : List ℕ) → ((st : Cursor) → P st → Kept P (λ t. Unit {0}) (step_at s st)) → ((st : Cursor) (l : Listing) → P st → L l → L (noted s l (step_at s st))) → (n : ℕ) (st : Cursor) (l : Listing) → P st → L l → L (list_from n s st l)
  unfolding list_from
  list_keeps s f g zero st l h o = o
  list_keeps s f g (suc n) st l h o =
      next_keeps (step_at s st) l (λ t. list_from n s t (noted s l (step_at s st))) (f st h) o (λ t k. list_keeps s f g n t (noted s l (step_at s st)) k (g st l h o))
