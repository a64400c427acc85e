-- Effects whose box is still to be transformed, as the steps that they settle to; and steps that only move the cursor. Assumes nothing.
use mathlib.Core.Path.{◌≡◌, refl, sym, ap, subst, ◌∙◌}
use mathlib.Core.Bool.{true, false}
use mathlib.Core.List.{List}
use Prim.Native.Nat.{ℕ, zero, suc, ◌+◌, ◌≤◌, ◌<◌}
use native.Mathlib.Omega.{arith}
use borrow.Author.Tests.{lt-ltb, eq-eqb, ne_eqb}
use lib.Dec.{leb, eqb}
use Rattle.base_refusals.specs.declared.Fault.TheVariants.{TooMany, BoxNotFinite}
use Rattle.base_refusals.specs.declared.Refusal.{Refusal}
use Rattle.base_refusals.specs.Table.{refused}
use Rattle.base_lists.specs.Pick.{pick}
use Rattle.base_lists.proofs.Picks.{pick_true, pick_false, pick_map}
use Rattle.kurbo_geometry.specs.declared.Rect.{Rect}
use Rattle.kurbo_affine.specs.declared.Affine.{Affine}
use Rattle.kurbo_affine.specs.Affines.{finite_corners, try_transform}
use Rattle.kurbo_affine.proofs.Answers.{corners_yes, corners_no}
use Rattle.display_list_commands.specs.Bounds.{transform_of}
use Rattle.strip_format.specs.Format.{rect_at, command_at}
use Rattle.strip_format.proofs.Lengths.{length_glyph}
use Rattle.strip_operand_checks.specs.Operands.{finite_glyph, operands_at}
use Rattle.strip.specs.declared.Cursor.{Cursor}
use Rattle.strip.specs.declared.Effect.{Effect}
use Rattle.strip.specs.declared.Effect.TheVariants.{Drawn, Done}
use Rattle.strip.specs.declared.Step.{Step}
use Rattle.strip.specs.declared.Step.TheVariants.{Next, Draw}
use Rattle.strip.specs.Steps.{due_fits, on_box, drawn, announce, draw_step, glyph_read, last_step, glyph_step, step_at}
use Rattle.strip.specs.Effects.{settle, settled, drawn_or_many, last_effect, OwnBounds, GoesOn, Moves, Passes}
use Rattle.strip.proofs.Effects.{glyph_box, glyph_not_finite, effect_glyph, step_effect}
use Rattle.std.specs.Prelude.{Option, Some, None, Result, Ok, Err}

-- ---- an effect that was taken apart
module _ (e : Effect) (t : Cursor) (o at : ℕ) (m : Affine) (b : Rect) (r : Option Rect) (p : e ≡ Drawn t o at m b) (q : r ≡ try_transform m b) where
  pub settled_box : (w : Rect) → r ≡ Some w → Ok (Draw t o w) ≡ settle e
  settled_box w f = sym (ap settle p ∙ ap (λ (x : Option Rect). on_box at x (λ v. Ok (Draw t o v))) (sym q ∙ f))

  pub settled_not_finite : r ≡ None → refused BoxNotFinite at ≡ settle e
  settled_not_finite f = sym (ap settle p ∙ ap (λ (x : Option Rect). on_box at x (λ v. Ok (Draw t o v))) (sym q ∙ f))

-- ---- the last glyph of a run, and one that is not
module _ (st : Cursor) (m : Affine) (b : Rect) where
  pub last_one : {next : Cursor} → next ≡ glyph_read st b → st.due ≡ 1 → Drawn next st.run st.at m next.united ≡ last_effect st m b
  unfolding last_effect
  last_one e h = (λ i. Drawn (e i) st.run st.at m (e i).united) ∙ sym (pick_true _ _ _ (eq-eqb st.due 1 h))

  pub one_more : {next : Cursor} → next ≡ glyph_read st b → (st.due ≡ 1 → ⊥) → Done (Next next) ≡ last_effect st m b
  unfolding last_effect
  one_more e h = (λ i. Done (Next (e i))) ∙ sym (pick_false _ _ _ (ne_eqb st.due 1 h))

module _ (s : List ℕ) where
  module _ (st : Cursor) where
    module _ (m : Affine) (b : Rect) (e : m ≡ transform_of (command_at s st.at)) (f : OwnBounds s st.at b) where
      -- what is drawn once the cursor is past the command, or is turned away
      abbrev pub to_effect : Result Cursor Refusal → Result Effect Refusal
      to_effect (Ok next) = Ok (Drawn next st.at st.at m b)
      to_effect (Err r) = Err r

      pub draw_settles : (len : ℕ) (r : Result Cursor Refusal) → r ≡ drawn_or_many st len 0 → settled (to_effect r) ≡ draw_step s st len
      unfolding draw_step
      draw_settles len r g =
          ap (λ x. settled (to_effect x)) g
          ∙ pick_map (λ x. settled (to_effect x)) (leb 4096 st.commands) (refused TooMany st.at) (Ok (drawn st len 0))
          ∙ (λ i. pick (leb 4096 st.commands) (refused TooMany st.at) (on_box st.at (try_transform (e i) (f st.united i)) (λ box. Ok (Draw (drawn st len 0) st.at box))))

    -- a RUN that announces glyphs only moves the cursor
    abbrev pub to_next : Result Cursor Refusal → Result Step Refusal
    to_next (Ok next) = Ok (Next next)
    to_next (Err r) = Err r

    pub run_settles : (due : ℕ) (r : Result Cursor Refusal) → r ≡ drawn_or_many st 103 due → to_next r ≡ announce st due
    run_settles due r g = ap to_next g ∙ pick_map to_next (leb 4096 st.commands) (refused TooMany st.at) (Ok (drawn st 103 due))

    -- both, by the affine of the run
    module _ (m : Affine) (b : Rect) where
      more_settles : (st.due ≡ 1 → ⊥) → Ok (Next (glyph_read st b)) ≡ last_step s st b
      unfolding last_step
      more_settles h = sym (pick_false _ _ _ (ne_eqb st.due 1 h))

      pub last_settles : m ≡ transform_of (command_at s st.run) → settle (last_effect st m b) ≡ last_step s st b
      unfolding last_effect last_step
      last_settles f =
          pick_map settle (eqb st.due 1) (Drawn (glyph_read st b) st.run st.at m (glyph_read st b).united) (Done (Next (glyph_read st b)))
          ∙ (λ i. pick (eqb st.due 1) (settle (Drawn (glyph_read st b) st.run st.at (f i) (glyph_read st b).united)) (Ok (Next (glyph_read st b))))

    -- ---- a glyph by the test of its corners alone
    module _ (b : Rect) (e : b ≡ rect_at s (st.at + 13)) (h : st.glyphs < 16384) where
      pub corners_finite : finite_corners (transform_of (command_at s st.run)) b ≡ true → last_step s st b ≡ glyph_step s st
      corners_finite t = glyph_box s st b _ refl _ e h (corners_yes (transform_of (command_at s st.run)) b t)

      pub corners_not_finite : finite_corners (transform_of (command_at s st.run)) b ≡ false → refused BoxNotFinite st.at ≡ glyph_step s st
      corners_not_finite t = glyph_not_finite s st b _ refl e h (corners_no (transform_of (command_at s st.run)) b t)

    -- ---- a glyph that only moves the cursor
    operands_pass : finite_glyph s st.at ≡ true → operands_at s st.at 6 ≡ Ok tt
    unfolding operands_at
    operands_pass e = rw e

    due_more : 2 ≤ st.due → due_fits 6 st.due ≡ true
    unfolding due_fits
    due_more h = lt-ltb 0 st.due (omega arith)

    pub goes_on : (t : Affine) → t ≡ transform_of (command_at s st.run) → GoesOn s st t → step_at s st ≡ Ok (Next (glyph_read st (rect_at s (st.at + 13))))
    goes_on t e w =
        sym (step_effect s st 6 w.due.byte (omega (arith, w.due.room)) (omega arith) (due_more w.due.more) (omega (arith, w.due.room, length_glyph)) (operands_pass w.operands))
        ∙ sym (effect_glyph s st 6 refl)
        ∙ sym (corners_finite (rect_at s (st.at + 13)) refl w.due.count (ap (λ (x : Affine). finite_corners x (rect_at s (st.at + 13))) (sym e) ∙ w.corners))
        ∙ sym (more_settles t (rect_at s (st.at + 13)) (λ z. omega (arith, w.due.more)))

  pub passes_none : (st : Cursor) → Passes s st st
  unfolding Moves
  passes_none st = record { steps = 0; moves = refl }

  pub passes_one : (st u t : Cursor) → Passes s st u → step_at s u ≡ Ok (Next t) → Passes s st t
  unfolding Moves
  passes_one st u t w e = record { steps = suc w.steps; moves = (u, w.moves, e) }

  -- one row of steps after another
  pub passes_both : (st u t : Cursor) → Passes s st u → Passes s u t → Passes s st t
  unfolding Moves
  passes_both st u t v w = go w.steps t w.moves
    where
      go : (n : ℕ) (t : Cursor) → Moves n s u t → Passes s st t
      go zero t e = subst (Passes s st) (sym e) v
      go (suc n) t m = passes_one st m.0 t (go n m.0 m.1) m.2

-- the affine of a run that the cursor is still in; a cursor past a glyph whose box was read
pub transform_is : (s : List ℕ) (t : Affine) (run : ℕ) (st : Cursor) → t ≡ transform_of (command_at s run) → st.run ≡ run → t ≡ transform_of (command_at s st.run)
transform_is s t run st e f = e ∙ ap (λ (x : ℕ). transform_of (command_at s x)) (sym f)

pub glyph_read_lem : (st t : Cursor) (b box : Rect) → b ≡ box → t ≡ glyph_read st b → t ≡ glyph_read st box
glyph_read_lem st t b box e f = f ∙ ap (glyph_read st) e
