-- A strip read at two places: from an offset of s, and `by` bytes further on in r, which holds the bytes of s there. Every step is the same but for its
-- positions, where s goes on or where both inputs end alike. Assumes nothing.
use mathlib.Core.Path.{◌≡◌, refl, sym, ap, ◌∙◌, subst}
use mathlib.Core.Bool.{Bool, true, false}
use mathlib.Core.Logic.{◌⊎◌, ⊎_elim}
use mathlib.Core.List.{List}
use Prim.Native.Nat.{ℕ, ◌+◌, ◌-◌, ◌≤◌, ◌<◌}
use native.Mathlib.Omega.{arith}
use lib.Dec.{leb, ltb, eqb}
use lib.ListN.{length, get_or}
use borrow.Author.Tests.{leb-true, leb-false, ltb-true, ltb-false, eqb-true, eqb-false, eq-eqb, ne_eqb}
use Rattle.base_refusals.specs.declared.Fault.TheVariants.{CutOff, UnknownCode, GlyphOrder}
use Rattle.base_refusals.specs.declared.Fault.{Fault}
use Rattle.base_refusals.specs.declared.Refusal.{Refusal}
use Rattle.base_refusals.specs.Table.{refusal}
use Rattle.base_lists.specs.Pick.{pick}
use Rattle.base_lists.proofs.Picks.{pick_cases}
use Rattle.kurbo_geometry.specs.declared.Rect.{Rect}
use Rattle.kurbo_geometry.specs.Boxes.{union}
use Rattle.kurbo_affine.specs.Affines.{try_transform}
use Rattle.display_list_commands.specs.Bounds.{transform_of, try_with}
use Rattle.base_little_endian.specs.Words.{u16_at}
use Rattle.strip_format.specs.Format.{length_of, rect_at, command_at}
use Rattle.strip_format.proofs.Lengths.{length_clip, length_run, length_glyph}
use Rattle.strip_operand_checks.specs.Operands.{operands_at}
use Rattle.strip.specs.declared.Cursor.{Cursor}
use Rattle.strip.specs.declared.Step.{Step}
use Rattle.strip.specs.declared.Step.TheVariants.{Next, Clip, Pop, Draw, End}
use Rattle.strip.specs.Steps.{due_fits, on_box, past_end, clip_step, pop_step, drawn, draw_step, run_step, unite, glyph_read, last_step, glyph_step, end_step, effect_of, step_at}
use Rattle.strip.proofs.Effects.{due_glyph, step_past, step_unknown, step_due, step_short, step_operands, step_effect, operands_cases}
use Rattle.strip.proofs.Moves.{at_byte}
use Rattle.strip_laws.proofs.Runs.{InRun}
use Rattle.base_little_endian.proofs.Alike.{u16_same}
use Rattle.strip_format.proofs.Alike.{rect_same}
use Rattle.strip_laws.proofs.Alike.{command_same, operands_same}
use Rattle.std.specs.Prelude.{Option, Some, None, Result, Ok, Err}

-- ---- what is the same
-- the same cursor, `by` bytes further on; where no glyph is due it does not matter where the last run began
pub record Shifted (by : ℕ) (c d : Cursor) : Type 0 where
  pub at_is : d.at ≡ by + c.at
  pub depth_is : d.depth ≡ c.depth
  pub clips_are : d.clips ≡ c.clips
  pub commands_are : d.commands ≡ c.commands
  pub glyphs_are : d.glyphs ≡ c.glyphs
  pub due_is : d.due ≡ c.due
  pub run_is : 0 < c.due → d.run ≡ by + c.run
  pub united_is : d.united ≡ c.united

-- the same step, `by` bytes further on
pub data StepAlike (by : ℕ) : Result Step Refusal → Result Step Refusal → Type 0 where
  nexts : {c d : Cursor} → Shifted by c d → StepAlike by (Ok (Next c)) (Ok (Next d))
  clips : {c d : Cursor} {a b : Rect} → Shifted by c d → a ≡ b → StepAlike by (Ok (Clip c a)) (Ok (Clip d b))
  pops : {c d : Cursor} → Shifted by c d → StepAlike by (Ok (Pop c)) (Ok (Pop d))
  draws : {c d : Cursor} {p q : ℕ} {a b : Rect} → Shifted by c d → q ≡ by + p → a ≡ b → StepAlike by (Ok (Draw c p a)) (Ok (Draw d q b))
  ends : {c d : Cursor} → Shifted by c d → StepAlike by (Ok (End c)) (Ok (End d))
  turns : {f : Fault} {p q : ℕ} → q ≡ by + p → StepAlike by (Err (refusal f p)) (Err (refusal f q))

-- a step that is not turned away
abbrev pub Goes : Result Step Refusal → Type 0
Goes (Ok (Next t)) = Unit {0}
Goes (Ok (Clip t box)) = Unit {0}
Goes (Ok (Pop t)) = Unit {0}
Goes (Ok (Draw t at box)) = Unit {0}
Goes (Ok (End t)) = Unit {0}
Goes (Err why) = ⊥

-- ---- tests
true_false : true ≡ false → ⊥
true_false e = let z : ◌≡◌ {A = ℕ} 0 1 = ap (λ (b : Bool). pick b 0 1) e in omega arith

picks : {A : Type 0} (R : A → A → Type 0) (t u : Bool) (x y z w : A) → u ≡ t → (t ≡ true → R x z) → (t ≡ false → R y w) → R (pick t x y) (pick u z w)
picks R true true x y z w e f g = f refl
picks R false false x y z w e f g = g refl
picks R true false x y z w e f g = absurd (true_false (sym e))
picks R false true x y z w e f g = absurd (true_false e)

eqb_shift : (by x y : ℕ) → eqb (by + x) (by + y) ≡ eqb x y
eqb_shift by x y = go (eqb x y) refl
  where
    go : (t : Bool) → eqb x y ≡ t → eqb (by + x) (by + y) ≡ t
    go true e = let h = eqb-true x y e in eq-eqb (by + x) (by + y) (omega arith)
    go false e = let h = eqb-false x y e in ne_eqb (by + x) (by + y) (λ k. h (omega arith))

module _ (s r : List ℕ) (by : ℕ) (same : (i j : ℕ) → j ≡ by + i → i < length s → get_or s i 0 ≡ get_or r j 0) (more : by + length s ≤ length r) where
  module _ (st to : Cursor) (e : Shifted by st to) where
    abbrev R : Result Step Refusal → Result Step Refusal → Type 0
    R x y = StepAlike by x y

    boxes : (x y : Option Rect) (k j : Rect → Result Step Refusal) → y ≡ x → ((box : Rect) → R (k box) (j box)) → R (on_box st.at x k) (on_box to.at y j)
    boxes x y k j f g = subst (λ (z : Option Rect). R (on_box st.at x k) (on_box to.at z j)) (sym f) (go x)
      where
        go : (z : Option Rect) → R (on_box st.at z k) (on_box to.at z j)
        go (Some box) = g box
        go None = turns e.at_is

    end_alike : R (end_step st) (end_step to)
    end_alike = ends {c = past_end st} {d = past_end to} (record { at_is = omega (arith, e.at_is); depth_is = e.depth_is; clips_are = e.clips_are; commands_are = e.commands_are; glyphs_are = e.glyphs_are; due_is = e.due_is; run_is = e.run_is; united_is = e.united_is })

    clip_alike : st.at + 33 ≤ length s → R (clip_step s st) (clip_step r to)
    unfolding clip_step
    clip_alike h =
        picks R (leb 32 st.depth) (leb 32 to.depth) _ _ _ _ (ap (leb 32) e.depth_is) (λ t. turns e.at_is)
        λ t. picks R (leb 4096 st.clips) (leb 4096 to.clips) _ _ _ _ (ap (leb 4096) e.clips_are) (λ t. turns e.at_is)
        λ t. clips record { at_is = omega (arith, e.at_is); depth_is = omega (arith, e.depth_is); clips_are = omega (arith, e.clips_are); commands_are = e.commands_are; glyphs_are = e.glyphs_are; due_is = e.due_is; run_is = e.run_is; united_is = e.united_is } (rect_same s r by (length s) same (st.at + 1) (to.at + 1) (omega (arith, e.at_is)) (omega arith))

    pop_alike : R (pop_step st) (pop_step to)
    unfolding pop_step
    pop_alike =
        picks R (eqb st.depth 0) (eqb to.depth 0) _ _ _ _ (ap (λ (d : ℕ). eqb d 0) e.depth_is) (λ t. turns e.at_is)
        λ t. pops record { at_is = omega (arith, e.at_is); depth_is = omega (arith, e.depth_is); clips_are = e.clips_are; commands_are = e.commands_are; glyphs_are = e.glyphs_are; due_is = e.due_is; run_is = e.run_is; united_is = e.united_is }

    -- the cursor behind a drawing command
    drawn_alike : (len due also : ℕ) → also ≡ due → Shifted by (drawn st len due) (drawn to len also)
    drawn_alike len due also f = record { at_is = omega (arith, e.at_is); depth_is = e.depth_is; clips_are = e.clips_are; commands_are = omega (arith, e.commands_are); glyphs_are = e.glyphs_are; due_is = f; run_is = λ k. e.at_is; united_is = e.united_is }

    draw_alike : (len : ℕ) → command_at s st.at ≡ command_at r to.at → R (draw_step s st len) (draw_step r to len)
    unfolding draw_step
    draw_alike len c =
        picks R (leb 4096 st.commands) (leb 4096 to.commands) _ _ _ _ (ap (leb 4096) e.commands_are) (λ t. turns e.at_is)
        λ t. boxes (try_with (command_at s st.at) st.united) (try_with (command_at r to.at) to.united) _ _ (λ i. try_with (sym c i) (e.united_is i)) (λ box. draws (drawn_alike len 0 0 refl) e.at_is refl)

    run_alike : st.at + 103 ≤ length s → command_at s st.at ≡ command_at r to.at → R (run_step s st) (run_step r to)
    unfolding run_step
    run_alike h c =
        let u = u16_same s r by (length s) same (st.at + 101) (to.at + 101) (omega (arith, e.at_is)) (omega arith) in
        picks R (eqb (u16_at s (st.at + 101)) 0) (eqb (u16_at r (to.at + 101)) 0) _ _ _ _ (ap (λ (n : ℕ). eqb n 0) (sym u)) (λ t. draw_alike 103 c)
        λ t. picks R (leb 4096 st.commands) (leb 4096 to.commands) _ _ _ _ (ap (leb 4096) e.commands_are) (λ t. turns e.at_is) (λ t. nexts (drawn_alike 103 _ _ (sym u)))

    module _ (due : 0 < st.due) where
      unite_alike : (a b : Rect) → a ≡ b → unite to b ≡ unite st a
      unite_alike a b f =
          let t : eqb to.at (to.run + 103) ≡ eqb st.at (st.run + 103) = let g : to.run + 103 ≡ by + (st.run + 103) = omega (arith, e.run_is due) in (λ i. eqb (e.at_is i) (g i)) ∙ eqb_shift by st.at (st.run + 103) in
          λ i. pick (t i) (sym f i) (union (e.united_is i) (sym f i))

      read_alike : (a b : Rect) → a ≡ b → Shifted by (glyph_read st a) (glyph_read to b)
      read_alike a b f = record { at_is = omega (arith, e.at_is); depth_is = e.depth_is; clips_are = e.clips_are; commands_are = e.commands_are; glyphs_are = omega (arith, e.glyphs_are); due_is = omega (arith, e.due_is); run_is = λ k. e.run_is due; united_is = unite_alike a b f }

      last_alike : (a b : Rect) → a ≡ b → command_at s st.run ≡ command_at r to.run → R (last_step s st a) (last_step r to b)
      unfolding last_step
      last_alike a b f c =
          picks R (eqb st.due 1) (eqb to.due 1) _ _ _ _ (ap (λ (n : ℕ). eqb n 1) e.due_is)
          (λ t. boxes (try_transform (transform_of (command_at s st.run)) (unite st a)) (try_transform (transform_of (command_at r to.run)) (unite to b)) _ _ (λ i. try_transform (transform_of (sym c i)) (unite_alike a b f i)) (λ box. draws (read_alike a b f) (e.run_is due) refl))
          (λ t. nexts (read_alike a b f))

      glyph_alike : st.at + 45 ≤ length s → command_at s st.run ≡ command_at r to.run → R (glyph_step s st) (glyph_step r to)
      unfolding glyph_step
      glyph_alike h c =
          let g = rect_same s r by (length s) same (st.at + 13) (to.at + 13) (omega (arith, e.at_is)) (omega arith) in
          picks R (leb 16384 st.glyphs) (leb 16384 to.glyphs) _ _ _ _ (ap (leb 16384) e.glyphs_are) (λ t. turns e.at_is)
          λ t. boxes (try_transform (transform_of (command_at s st.run)) (rect_at s (st.at + 13))) (try_transform (transform_of (command_at r to.run)) (rect_at r (to.at + 13))) _ _ (λ i. try_transform (transform_of (sym c i)) (sym g i)) (λ own. last_alike _ _ g c)

    effect_alike : InRun s st → (b : ℕ) → get_or s st.at 0 ≡ b → due_fits b st.due ≡ true → st.at + length_of b ≤ length s → R (effect_of s st b) (effect_of r to b)
    unfolding effect_of
    effect_alike run b is due h =
        let own = command_same s r by (length s) same st.at to.at e.at_is (subst (λ (y : ℕ). st.at + length_of y ≤ length s) (sym is) h) (omega arith) more in
        picks R (eqb b 0) (eqb b 0) _ _ _ _ refl (λ t. end_alike)
        λ t. picks R (eqb b 1) (eqb b 1) _ _ _ _ refl (λ t. clip_alike (omega (arith, at_byte st.at (length s) b 1 h (eqb-true b 1 t), length_clip)))
        λ t. picks R (eqb b 2) (eqb b 2) _ _ _ _ refl (λ t. pop_alike)
        λ t. picks R (eqb b 5) (eqb b 5) _ _ _ _ refl (λ t. run_alike (omega (arith, at_byte st.at (length s) b 5 h (eqb-true b 5 t), length_run)) own)
        λ t. picks R (eqb b 6) (eqb b 6) _ _ _ _ refl (λ t. let d = due_glyph b st.due (eqb-true b 6 t) due in let k = run d in glyph_alike d (omega (arith, at_byte st.at (length s) b 6 h (eqb-true b 6 t), length_glyph)) (command_same s r by (length s) same st.run to.run (e.run_is d) (subst (λ (y : ℕ). st.run + length_of y ≤ length s) (sym k.byte) (omega (arith, k.fits, length_run))) (omega arith) more))
        λ t. draw_alike (length_of b) own

    -- s goes on, or both inputs end alike
    abbrev pub Fair : Result Step Refusal → Type 0
    Fair x = Goes x ⊎ (length r ≡ by + length s)

    turned : (f : Fault) (p q : ℕ) (y : Result Step Refusal) → ((length r ≡ by + length s) → Err (refusal f q) ≡ y) → ((length r ≡ by + length s) → q ≡ by + p) → Fair (Err (refusal f p)) → R (Err (refusal f p)) y
    turned f p q y u g h = ⊎_elim (λ k. absurd k) (λ k. subst (R (Err (refusal f p))) (u k) (turns (g k))) h

    pub step_alike : InRun s st → Fair (step_at s st) → R (step_at s st) (step_at r to)
    unfolding step_at
    step_alike run =
        pick_cases M (ltb st.at (length s)) _ _
        (λ a. let a' = ltb-true st.at (length s) a in
        pick_cases M (leb b 7) _ _
        (λ k. let k' = leb-true b 7 k in
        pick_cases M (due_fits b st.due) _ _
        (λ d. pick_cases M (ltb (length s - st.at) (length_of b)) _ _
        (λ l. turned CutOff st.at to.at (step_at r to) (λ x. step_short r to b (is a') (inside a') k' (due d) (omega (arith, x, e.at_is, ltb-true (length s - st.at) (length_of b) l))) (λ x. e.at_is))
        (λ l. let fits : st.at + length_of b ≤ length s = omega (arith, ltb-false (length s - st.at) (length_of b) l) in
        let o = operands_same s r by (length s) same st.at to.at b e.at_is fits in
        let far : length_of b ≤ length r - to.at = omega (arith, e.at_is) in
        operands_cases M st.at (operands_at s st.at b) (effect_of s st b)
        (λ z x. subst (R (effect_of s st b)) (step_effect r to b (is a') (inside a') k' (due d) far (sym o ∙ z)) (effect_alike run b refl d fits))
        (λ f z. turned f st.at to.at (step_at r to) (λ x. step_operands r to b (is a') (inside a') k' (due d) f far (sym o ∙ z)) (λ x. e.at_is))))
        (λ d. turned GlyphOrder st.at to.at (step_at r to) (λ x. step_due r to b (is a') (inside a') k' (due d)) (λ x. e.at_is)))
        (λ k. turned UnknownCode st.at to.at (step_at r to) (λ x. step_unknown r to b (is a') (inside a') (leb-false b 7 k)) (λ x. e.at_is)))
        (λ a. turned CutOff (length s) (length r) (step_at r to) (λ x. step_past r to (omega (arith, x, e.at_is, ltb-false st.at (length s) a))) (λ x. x))
      where
        b : ℕ
        b = get_or s st.at 0

        M : Result Step Refusal → Type 0
        M x = Fair x → R x (step_at r to)

        is : st.at < length s → get_or r to.at 0 ≡ b
        is h = sym (same st.at to.at e.at_is h)

        inside : st.at < length s → to.at < length r
        inside h = omega (arith, e.at_is)

        due : {t : Bool} → due_fits b st.due ≡ t → due_fits b to.due ≡ t
        due h = ap (due_fits b) e.due_is ∙ h
