-- A glyph whose box is near passes by the affine of a run that is: no corner has to be computed for it. Assumes nothing.
use mathlib.Core.Path.{◌≡◌, refl, sym, ap, subst, ◌∙◌}
use mathlib.Core.Bool.{true}
use mathlib.Core.List.{List}
use Prim.Native.Nat.{ℕ, ◌+◌}
use native.Mathlib.Omega.{arith}
use Rattle.kurbo_affine.specs.declared.Affine.{Affine}
use Rattle.kurbo_affine.specs.Affines.{finite_corners}
use Rattle.kurbo_affine.proofs.Near.{near_corners}
use Rattle.display_list_commands.specs.Bounds.{transform_of}
use Rattle.strip_format.specs.Format.{rect_at, affine_at, command_at}
use Rattle.strip_format.specs.Finite.{FourFinite}
use Rattle.strip_format.proofs.Near.{near_finite, near_edges, near_entries}
use Rattle.strip_command_bounds.proofs.Standing.{is_run}
use Rattle.strip_operand_checks.specs.Operands.{finite_from, finite_glyph}
use Rattle.strip_operand_checks.proofs.Floats.{glyph_finite}
use Rattle.strip.specs.declared.Cursor.{Cursor}
use Rattle.strip.specs.Effects.{GoesOn, NearGoesOn, NearRun, OnlyMoves}
use Rattle.strip.proofs.Settled.{goes_on, transform_is}

module _ (s : List ℕ) where
  four_from : (at : ℕ) → FourFinite s at → finite_from s at 4 ≡ true
  unfolding finite_from
  four_from at w =
      let p : at + 8 + 8 ≡ at + 16 = omega arith in
      let q : at + 16 + 8 ≡ at + 24 = omega arith in
      rw (p, q, w.first, w.second, w.third, w.fourth)

  pub near_passes : (st : Cursor) → NearRun s st.run → NearGoesOn s st → GoesOn s st (transform_of (command_at s st.run))
  unfolding finite_glyph
  near_passes st r w =
      let t : affine_at s (st.run + 13) ≡ transform_of (command_at s st.run) = ap transform_of (is_run s st.run r.0).0 in
      record {
        due = w.0.0;
        operands = rw (w.0.1, w.0.2, four_from (st.at + 13) (near_finite s (st.at + 13) w.1));
        corners = ap (λ (x : Affine). finite_corners x (rect_at s (st.at + 13))) (sym t) ∙ near_corners (affine_at s (st.run + 13)) (near_entries s (st.run + 13) r.1 r.2) (rect_at s (st.at + 13)) (near_edges s (st.at + 13) w.1);
      }

  -- so it only moves the cursor, as any glyph does that passes by its run's affine
  pub passing_moves : (run : ℕ) (st : Cursor) {t : Affine} → t ≡ transform_of (command_at s run) → st.run ≡ run → GoesOn s st t → OnlyMoves s st
  passing_moves run st e f w = record { due = w.due; box = glyph_finite s st.at w.operands; step = goes_on s st _ (transform_is s _ run st e f) w }

  pub near_moves : (run : ℕ) (st : Cursor) → NearRun s run → st.run ≡ run → NearGoesOn s st → OnlyMoves s st
  near_moves run st r f w = passing_moves st.run st refl refl (near_passes st (subst (NearRun s) (sym f) r) w)
