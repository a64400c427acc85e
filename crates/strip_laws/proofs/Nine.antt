-- A step gives number 9 exactly where the table does: the case holds and that of no number checked before it, and the position is the command's. Assumes nothing.
use mathlib.Core.Path.{◌≡◌, refl, sym, ap, ◌∙◌, subst}
use mathlib.Core.Bool.{true}
use mathlib.Core.List.{List, []}
use mathlib.Core.Logic.{inl, inr}
use Prim.Native.Nat.{ℕ, ◌+◌, ◌-◌, ◌≤◌, ◌<◌}
use native.Mathlib.Omega.{arith}
use lib.Dec.{leb, ltb, eqb}
use lib.ListN.{length, get_or}
use borrow.Author.Tests.{lt-leb, leb-true, leb-false, ltb-true, ltb-false, eq-eqb, eqb-true, eqb-false}
use Rattle.base_refusals.specs.Table.{number}
use Rattle.base_refusals.specs.declared.Fault.TheVariants.{BoxNotFinite}
use Rattle.base_refusals.specs.declared.Refusal.{Refusal}
use Rattle.base_refusals.specs.Table.{refused}
use Rattle.base_lists.proofs.Picks.{pick_true, pick_false, pick_cases}
use Rattle.base_little_endian.specs.Words.{u16_at}
use Rattle.kurbo_geometry.specs.declared.Rect.{Rect}
use Rattle.kurbo_affine.specs.Affines.{try_transform}
use Rattle.kurbo_affine.specs.Unbounded.{UnboundedBox}
use Rattle.kurbo_affine.proofs.Unbounded.{unbounded_no_box, no_box_unbounded}
use Rattle.display_list_commands.specs.Bounds.{transform_of, glyph_count, local_bounds, local_with, try_with}
use Rattle.display_list_commands.proofs.Runs.{local_is}
use Rattle.strip_format.specs.Format.{length_of, rect_at, command_at}
use Rattle.strip_format.proofs.Lengths.{length_run}
use Rattle.strip_operand_checks.specs.Operands.{operands_at}
use Rattle.strip_operand_checks.proofs.Numbers.{UpTo4, operands_most}
use Rattle.strip.specs.declared.Cursor.{Cursor}
use Rattle.strip.specs.declared.Step.{Step}
use Rattle.strip.specs.declared.Step.TheVariants.{Next, Clip, Pop, Draw, End}
use Rattle.strip.specs.Steps.{due_fits, on_box, clip_step, pop_step, drawn, draw_step, run_step, announced, unite, glyph_read, last_step, glyph_step, effect_of, Draws, step_at}
use Rattle.strip.proofs.Effects.{effect_glyph, draws_whole, step_effect, operands_cases}
use Rattle.strip_laws.specs.Nine.{byte_at, NoneBefore, DrawnUnbounded, GlyphUnbounded, Nine}
use Rattle.strip_laws.proofs.Steps.{run_count, no_count}
use Rattle.std.specs.Prelude.{Option, Some, None, Result, Ok, Err}

-- the number and the position that a step refuses with; 0 where it refuses nothing
abbrev number_in : Result Step Refusal → ℕ
number_in (Ok (Next t)) = 0
number_in (Ok (Clip t box)) = 0
number_in (Ok (Pop t)) = 0
number_in (Ok (Draw t at box)) = 0
number_in (Ok (End t)) = 0
number_in (Err why) = number why.fault

abbrev place_in : Result Step Refusal → ℕ
place_in (Ok (Next t)) = 0
place_in (Ok (Clip t box)) = 0
place_in (Ok (Pop t)) = 0
place_in (Ok (Draw t at box)) = 0
place_in (Ok (End t)) = 0
place_in (Err why) = why.position

-- a command that stands whole announces as many glyphs as it says it has
count_is : (s : List ℕ) (at : ℕ) → at + length_of (get_or s at 0) ≤ length s → announced s at (get_or s at 0) ≡ glyph_count (command_at s at)
count_is s at room =
    pick_cases (λ (n : ℕ). n ≡ glyph_count (command_at s at)) (eqb (get_or s at 0) 5) _ _
    (λ e. let k = eqb-true (get_or s at 0) 5 e in sym (run_count s at k (omega (arith, subst (λ (y : ℕ). at + length_of y ≤ length s) k room, length_run))))
    (λ e. sym (no_count s at (eqb-false (get_or s at 0) 5 e)))

-- the box of a command without glyphs
own_is : (s : List ℕ) (at : ℕ) (u : Rect) → glyph_count (command_at s at) ≡ 0 → local_with (command_at s at) u ≡ local_bounds (command_at s at) []
own_is s at u z = local_is (command_at s at) u u [] z (λ h. absurd (omega arith))

module _ (s : List ℕ) (st : Cursor) where
  -- ---- what is given 9 is such a case
  abbrev Told : Result Step Refusal → Type 0
  Told x = number_in x ≡ 9 → (place_in x ≡ st.at) × (NoneBefore s st × Nine s st)

  on_box_lem : (r : Option Rect) (k : Rect → Result Step Refusal) → (r ≡ None → NoneBefore s st × Nine s st) → ((box : Rect) → Told (k box)) → Told (on_box st.at r k)
  on_box_lem (Some box) k f g = g box
  on_box_lem None k f g = λ e. (refl, f refl)

  module _ (byte : st.at < length s) (known : byte_at s st ≤ 7) (due : due_fits (byte_at s st) st.due ≡ true) (room : st.at + length_of (byte_at s st) ≤ length s) (operands : operands_at s st.at (byte_at s st) ≡ Ok tt) where
    drawn_told : (len : ℕ) → Draws (byte_at s st) → announced s st.at (byte_at s st) ≡ 0 → Told (draw_step s st len)
    unfolding draw_step
    drawn_told len d z =
        pick_cases Told (leb 4096 st.commands) _ _ (λ e n. absurd (omega (arith, n)))
        λ e. on_box_lem (try_with (command_at s st.at) st.united) (λ box. Ok (Draw (drawn st len 0) st.at box))
        (λ r.
        let none : glyph_count (command_at s st.at) ≡ 0 = sym (count_is s st.at room) ∙ z in
        let same = own_is s st.at st.united none in
        (record { byte = byte; known = known; due = due; room = room; operands = operands; commands = λ _. omega (arith, leb-false 4096 st.commands e); glyphs = λ six. absurd (d.3 six) }, inl (d, (none, no_box_unbounded _ _ (ap (λ (b : Rect). try_transform (transform_of (command_at s st.at)) b) (sym same) ∙ r)))))
        (λ box n. absurd (omega (arith, n)))

    run_told : byte_at s st ≡ 5 → Draws (byte_at s st) → Told (run_step s st)
    unfolding run_step
    run_told five d =
        pick_cases Told (eqb (u16_at s (st.at + 101)) 0) _ _ (λ e. drawn_told 103 d (pick_true (eqb (byte_at s st) 5) _ _ (eq-eqb _ _ five) ∙ eqb-true _ _ e))
        λ e. pick_cases Told (leb 4096 st.commands) _ _ (λ e n. absurd (omega (arith, n))) (λ e n. absurd (omega (arith, n)))

    glyph_told : byte_at s st ≡ 6 → Told (glyph_step s st)
    unfolding glyph_step last_step
    glyph_told six =
        pick_cases Told (leb 16384 st.glyphs) _ _ (λ e n. absurd (omega (arith, n)))
        λ e.
        let ready : NoneBefore s st = record { byte = byte; known = known; due = due; room = room; operands = operands; commands = λ d. absurd (d.3 six); glyphs = λ _. omega (arith, leb-false 16384 st.glyphs e) } in
        on_box_lem (try_transform (transform_of (command_at s st.run)) (rect_at s (st.at + 13))) _ (λ r. (ready, inr (six, inl (no_box_unbounded _ _ r))))
        λ own. pick_cases Told (eqb st.due 1) _ _
        (λ one. on_box_lem (try_transform (transform_of (command_at s st.run)) (unite st (rect_at s (st.at + 13)))) _ (λ r. (ready, inr (six, inr (eqb-true st.due 1 one, no_box_unbounded _ _ r)))) (λ box n. absurd (omega (arith, n))))
        (λ e n. absurd (omega (arith, n)))

    effect_told : Told (effect_of s st (byte_at s st))
    unfolding effect_of clip_step pop_step
    effect_told =
        pick_cases Told (eqb (byte_at s st) 0) _ _ (λ e n. absurd (omega (arith, n)))
        λ n0. pick_cases Told (eqb (byte_at s st) 1) _ _ (λ e. pick_cases Told (leb 32 st.depth) _ _ (λ e n. absurd (omega (arith, n))) (λ e. pick_cases Told (leb 4096 st.clips) _ _ (λ e n. absurd (omega (arith, n))) (λ e n. absurd (omega (arith, n)))))
        λ n1. pick_cases Told (eqb (byte_at s st) 2) _ _ (λ e. pick_cases Told (eqb st.depth 0) _ _ (λ e n. absurd (omega (arith, n))) (λ e n. absurd (omega (arith, n))))
        λ n2. pick_cases Told (eqb (byte_at s st) 5) _ _ (λ e. let five = eqb-true (byte_at s st) 5 e in run_told five (λ z. omega (arith, z, five), λ z. omega (arith, z, five), λ z. omega (arith, z, five), λ z. omega (arith, z, five)))
        λ n5. pick_cases Told (eqb (byte_at s st) 6) _ _ (λ e. glyph_told (eqb-true (byte_at s st) 6 e))
        (λ n6. drawn_told (length_of (byte_at s st)) (eqb-false _ 0 n0, eqb-false _ 1 n1, eqb-false _ 2 n2, eqb-false _ 6 n6) (pick_false (eqb (byte_at s st) 5) _ _ n5))

  step_told : Told (step_at s st)
  unfolding step_at
  step_told =
      pick_cases Told (ltb st.at (length s)) _ _
      (λ a. pick_cases Told (leb (byte_at s st) 7) _ _
      (λ k. pick_cases Told (due_fits (byte_at s st) st.due) _ _
      (λ d. pick_cases Told (ltb (length s - st.at) (length_of (byte_at s st))) _ _ (λ e n. absurd (omega (arith, n)))
      (λ l. operands_cases Told st.at (operands_at s st.at (byte_at s st)) _
      (λ o. let i = ltb-true st.at (length s) a in effect_told i (leb-true _ _ k) d (omega (arith, i, ltb-false (length s - st.at) (length_of (byte_at s st)) l)) o)
      (λ f o n. absurd (omega (arith, n, subst UpTo4 o (operands_most s st.at (byte_at s st)))))))
      (λ e n. absurd (omega (arith, n))))
      (λ e n. absurd (omega (arith, n))))
      (λ e n. absurd (omega (arith, n)))

  pub given_nine : (p : ℕ) → step_at s st ≡ refused BoxNotFinite p → (p ≡ st.at) × (NoneBefore s st × Nine s st)
  given_nine p e = let h = step_told (ap number_in e) in (sym (ap place_in e) ∙ h.0, h.1)

  -- ---- such a case is given 9
  module _ (w : NoneBefore s st) where
    effect_is : step_at s st ≡ effect_of s st (byte_at s st)
    effect_is = sym (step_effect s st (byte_at s st) refl w.byte w.known w.due (omega (arith, w.byte, w.room)) w.operands)

    drawn_nine : Draws (byte_at s st) → DrawnUnbounded s st → step_at s st ≡ refused BoxNotFinite st.at
    unfolding draw_step
    drawn_nine d u =
        effect_is
        ∙ sym (draws_whole s st (byte_at s st) _ d refl (count_is s st.at w.room ∙ u.0))
        ∙ pick_false (leb 4096 st.commands) _ _ (lt-leb 4096 st.commands (w.commands d))
        ∙ ap (λ (r : Option Rect). on_box st.at r (λ box. Ok (Draw (drawn st (length_of (byte_at s st)) 0) st.at box))) (ap (λ (b : Rect). try_transform (transform_of (command_at s st.at)) b) (own_is s st.at st.united u.0) ∙ unbounded_no_box _ _ u.1)

    own_glyph : byte_at s st ≡ 6 → step_at s st ≡ on_box st.at (try_transform (transform_of (command_at s st.run)) (rect_at s (st.at + 13))) (λ own. last_step s st (rect_at s (st.at + 13)))
    unfolding glyph_step
    own_glyph six = effect_is ∙ sym (effect_glyph s st (byte_at s st) six) ∙ pick_false (leb 16384 st.glyphs) _ _ (lt-leb 16384 st.glyphs (w.glyphs six))

    last_nine : st.due ≡ 1 → UnboundedBox (transform_of (command_at s st.run)) (unite st (rect_at s (st.at + 13))) → last_step s st (rect_at s (st.at + 13)) ≡ refused BoxNotFinite st.at
    unfolding last_step
    last_nine one u =
        pick_true (eqb st.due 1) _ _ (eq-eqb _ _ one)
        ∙ ap (λ (r : Option Rect). on_box st.at r (λ whole. Ok (Draw (glyph_read st (rect_at s (st.at + 13))) st.run whole))) (unbounded_no_box _ _ u)

    glyph_nine : byte_at s st ≡ 6 → GlyphUnbounded s st → step_at s st ≡ refused BoxNotFinite st.at
    glyph_nine six (inl u) = own_glyph six ∙ ap (λ (r : Option Rect). on_box st.at r (λ own. last_step s st (rect_at s (st.at + 13)))) (unbounded_no_box _ _ u)
    glyph_nine six (inr (one, u)) = own_glyph six ∙ either (try_transform (transform_of (command_at s st.run)) (rect_at s (st.at + 13)))
      where
        -- whatever its own box comes to
        either : (r : Option Rect) → on_box st.at r (λ own. last_step s st (rect_at s (st.at + 13))) ≡ refused BoxNotFinite st.at
        either (Some own) = last_nine one u
        either None = refl

    pub nine_given : Nine s st → step_at s st ≡ refused BoxNotFinite st.at
    nine_given (inl (d, u)) = drawn_nine d u
    nine_given (inr (six, u)) = glyph_nine six u
