-- What a step is, by the tests that the code makes. Assumes nothing.
use mathlib.Core.Path.{◌≡◌, refl, sym, ap, ◌∙◌}
use mathlib.Core.Bool.{Bool, true, false}
use mathlib.Core.List.{List}
use Prim.Native.Nat.{ℕ, ◌+◌, ◌-◌, ◌≤◌, ◌<◌}
use native.Mathlib.Omega.{arith}
use lib.ListN.{length, get_or}
use borrow.Author.Tests.{le-leb, lt-leb, lt-ltb, le-ltb, eq-eqb, ne_eqb, eqb-true, eqb-false, ltb-true}
use lib.Dec.{eqb}
use Rattle.base_refusals.specs.declared.Fault.{Fault}
use Rattle.base_refusals.specs.declared.Fault.TheVariants.{CutOff, UnknownCode, NoOpenClip, TooMany, GlyphOrder, BoxNotFinite}
use Rattle.base_refusals.specs.declared.Refusal.{Refusal}
use Rattle.base_refusals.specs.Table.{refused}
use Rattle.base_lists.proofs.Picks.{pick_true, pick_false}
use Rattle.strip_format.proofs.Lengths.{length_run}
use Rattle.base_little_endian.specs.Words.{u16_at}
use Rattle.kurbo_geometry.specs.declared.Rect.{Rect}
use Rattle.kurbo_geometry.specs.Boxes.{union}
use Rattle.kurbo_affine.specs.Affines.{try_transform}
use Rattle.display_list_commands.specs.Bounds.{transform_of}
use Rattle.strip_format.specs.Format.{length_of, rect_at, command_at}
use Rattle.strip_operand_checks.specs.Operands.{operands_at}
use Rattle.strip.specs.declared.Cursor.{Cursor}
use Rattle.strip.specs.declared.Step.TheVariants.{Clip, Pop}
use Rattle.strip.specs.declared.Step.{Step}
use Rattle.strip.specs.Steps.{due_fits, on_box, on_operands, opened, closed, clip_step, pop_step, draw_step, run_step, announced, announce, Draws, unite, last_step, glyph_step, end_step, effect_of, step_at}
use Rattle.std.specs.Prelude.{Option, Some, None, Result, Ok, Err}

-- a step by whether its operands pass
pub operands_cases : (P : Result Step Refusal → Type 0) (at : ℕ) (o : Result (Unit {0}) Fault) (step : Result Step Refusal) → (o ≡ Ok tt → P step) → ((f : Fault) → o ≡ Err f → P (refused f at)) → P (on_operands at o step)
operands_cases P at (Ok tt) step f g = f refl
operands_cases P at (Err e) step f g = g e refl

-- a GLYPH that may stand here is due
pub due_glyph : (b due : ℕ) → b ≡ 6 → due_fits b due ≡ true → 0 < due
unfolding due_fits
due_glyph b due e h = ltb-true 0 due (sym (ap (λ (n : ℕ). due_fits n due) e) ∙ h)

module _ (s : List ℕ) (st : Cursor) where
  -- ---- CLIP and POP
  pub clip_deep : 32 ≤ st.depth → refused TooMany st.at ≡ clip_step s st
  unfolding clip_step
  clip_deep h = rw (le-leb 32 st.depth h)

  pub clip_many : st.depth < 32 → 4096 ≤ st.clips → refused TooMany st.at ≡ clip_step s st
  unfolding clip_step
  clip_many h k = rw (lt-leb 32 st.depth h, le-leb 4096 st.clips k)

  pub clip_read : (box : Rect) → box ≡ rect_at s (st.at + 1) → st.depth < 32 → st.clips < 4096 → Ok (Clip (opened st) box) ≡ clip_step s st
  unfolding clip_step
  clip_read box e h k = rw (lt-leb 32 st.depth h, lt-leb 4096 st.clips k) (ap (λ (b : Rect). Ok (Clip (opened st) b)) e)

  pub pop_none : st.depth ≡ 0 → refused NoOpenClip st.at ≡ pop_step st
  unfolding pop_step
  pop_none h = rw (eq-eqb st.depth 0 h)

  pub pop_read : (st.depth ≡ 0 → ⊥) → Ok (Pop (closed st)) ≡ pop_step st
  unfolding pop_step
  pop_read h = rw (ne_eqb st.depth 0 h)

  -- ---- drawing commands
  pub run_empty : u16_at s (st.at + 101) ≡ 0 → draw_step s st 103 ≡ run_step s st
  unfolding run_step
  run_empty h = rw (eq-eqb (u16_at s (st.at + 101)) 0 h)

  -- ---- glyphs
  pub unite_first : (box : Rect) → st.run ≤ st.at → st.at - st.run ≡ 103 → box ≡ unite st box
  unite_first box l h = let e : st.at ≡ st.run + 103 = omega arith in rw (eq-eqb st.at (st.run + 103) e)

  pub unite_more : (box u : Rect) → u ≡ union st.united box → (st.at ≡ st.run + 103 → ⊥) → u ≡ unite st box
  unite_more box u e h = e ∙ rw (ne_eqb st.at (st.run + 103) h)

  -- the run's affine, as the code reads it, and what it makes of a box
  module _ (b : Rect) (r : Option Rect) (e : r ≡ try_transform (transform_of (command_at s st.run)) b) where
    glyph_by : b ≡ rect_at s (st.at + 13) → st.glyphs < 16384 → glyph_step s st ≡ on_box st.at r (λ own. last_step s st b)
    unfolding glyph_step
    glyph_by u h =
        rw (lt-leb 16384 st.glyphs h) refl
        ∙ ap (λ (v : Rect). on_box st.at (try_transform (transform_of (command_at s st.run)) v) (λ own. last_step s st v)) (sym u)
        ∙ ap (λ (t : Option Rect). on_box st.at t (λ own. last_step s st b)) (sym e)

    pub glyph_box : (own : Rect) → b ≡ rect_at s (st.at + 13) → st.glyphs < 16384 → r ≡ Some own → last_step s st b ≡ glyph_step s st
    glyph_box own u h k = sym (glyph_by u h ∙ ap (λ (t : Option Rect). on_box st.at t (λ own. last_step s st b)) k)

    pub glyph_not_finite : b ≡ rect_at s (st.at + 13) → st.glyphs < 16384 → r ≡ None → refused BoxNotFinite st.at ≡ glyph_step s st
    glyph_not_finite u h k = sym (glyph_by u h ∙ ap (λ (t : Option Rect). on_box st.at t (λ own. last_step s st b)) k)

  pub glyph_many : 16384 ≤ st.glyphs → refused TooMany st.at ≡ glyph_step s st
  unfolding glyph_step
  glyph_many h = rw (le-leb 16384 st.glyphs h)

  -- ---- the effect, by the byte
  pub effect_end : (b : ℕ) → b ≡ 0 → end_step st ≡ effect_of s st b
  unfolding effect_of
  effect_end b e = rw e

  pub effect_clip : (b : ℕ) → b ≡ 1 → clip_step s st ≡ effect_of s st b
  unfolding effect_of
  effect_clip b e = rw e

  pub effect_pop : (b : ℕ) → b ≡ 2 → pop_step st ≡ effect_of s st b
  unfolding effect_of
  effect_pop b e = rw e

  pub effect_run : (b : ℕ) → b ≡ 5 → run_step s st ≡ effect_of s st b
  unfolding effect_of
  effect_run b e = rw e

  pub effect_glyph : (b : ℕ) → b ≡ 6 → glyph_step s st ≡ effect_of s st b
  unfolding effect_of
  effect_glyph b e = rw e

  pub effect_draw : (b : ℕ) → (b ≡ 0 → ⊥) → (b ≡ 1 → ⊥) → (b ≡ 2 → ⊥) → (b ≡ 5 → ⊥) → (b ≡ 6 → ⊥) → draw_step s st (length_of b) ≡ effect_of s st b
  unfolding effect_of
  effect_draw b n0 n1 n2 n5 n6 = rw (ne_eqb b 0 n0, ne_eqb b 1 n1, ne_eqb b 2 n2, ne_eqb b 5 n5, ne_eqb b 6 n6)

  -- ---- any drawing command, by how many glyphs it announces
  pub draws_whole : (b due : ℕ) → Draws b → due ≡ announced s st.at b → due ≡ 0 → draw_step s st (length_of b) ≡ effect_of s st b
  draws_whole b due d e z = by (eqb b 5) refl
    where
      by : (t : Bool) → eqb b 5 ≡ t → draw_step s st (length_of b) ≡ effect_of s st b
      by true q =
          let five : b ≡ 5 = eqb-true b 5 q in
          ap (draw_step s st) (ap length_of five ∙ length_run) ∙ run_empty (sym (pick_true (eqb b 5) (u16_at s (st.at + 101)) 0 q) ∙ sym e ∙ z) ∙ effect_run b five
      by false q = effect_draw b d.0 d.1 d.2 (eqb-false b 5 q) d.3

  pub draws_run : (b due : ℕ) → Draws b → due ≡ announced s st.at b → (due ≡ 0 → ⊥) → announce st due ≡ effect_of s st b
  unfolding run_step
  draws_run b due d e some = by (eqb b 5) refl
    where
      by : (t : Bool) → eqb b 5 ≡ t → announce st due ≡ effect_of s st b
      by true q =
          let u : due ≡ u16_at s (st.at + 101) = e ∙ pick_true (eqb b 5) (u16_at s (st.at + 101)) 0 q in
          ap (announce st) u
          ∙ sym (pick_false (eqb (u16_at s (st.at + 101)) 0) (draw_step s st 103) (announce st (u16_at s (st.at + 101))) (ne_eqb (u16_at s (st.at + 101)) 0 (λ z. some (u ∙ z))))
          ∙ effect_run b (eqb-true b 5 q)
      by false q = absurd (some (e ∙ pick_false (eqb b 5) (u16_at s (st.at + 101)) 0 q))

  -- ---- the step, by the checks in their order
  pub step_past : length s ≤ st.at → refused CutOff (length s) ≡ step_at s st
  unfolding step_at
  step_past h = rw (le-ltb st.at (length s) h)

  module _ (b : ℕ) (is : get_or s st.at 0 ≡ b) (inside : st.at < length s) where
    pub step_unknown : 7 < b → refused UnknownCode st.at ≡ step_at s st
    unfolding step_at
    step_unknown h = rw (lt-ltb st.at (length s) inside, is, lt-leb b 7 h)

    module _ (known : b ≤ 7) where
      pub step_due : due_fits b st.due ≡ false → refused GlyphOrder st.at ≡ step_at s st
      unfolding step_at
      step_due h = rw (lt-ltb st.at (length s) inside, is, le-leb b 7 known, h)

      module _ (due : due_fits b st.due ≡ true) where
        pub step_short : length s - st.at < length_of b → refused CutOff st.at ≡ step_at s st
        unfolding step_at
        step_short h = rw (lt-ltb st.at (length s) inside, is, le-leb b 7 known, due, lt-ltb (length s - st.at) (length_of b) h)

        pub step_operands : (f : Fault) → length_of b ≤ length s - st.at → operands_at s st.at b ≡ Err f → refused f st.at ≡ step_at s st
        unfolding step_at
        step_operands f h e = rw (lt-ltb st.at (length s) inside, is, le-leb b 7 known, due, le-ltb (length s - st.at) (length_of b) h, e)

        pub step_effect : length_of b ≤ length s - st.at → operands_at s st.at b ≡ Ok tt → effect_of s st b ≡ step_at s st
        unfolding step_at
        step_effect h e = rw (lt-ltb st.at (length s) inside, is, le-leb b 7 known, due, le-ltb (length s - st.at) (length_of b) h, e)
