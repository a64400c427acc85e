-- What changed between two commands, told by their bytes where they stand. Assumes nothing.
use mathlib.Core.Path.{◌≡◌, refl, sym, subst, ◌∙◌}
use mathlib.Core.Bool.{Bool, true, false, true≢false}
use mathlib.Core.List.{List, []}
use Prim.Native.Nat.{ℕ, ◌+◌}
use native.Mathlib.Omega.{arith}
use lib.Dec.{leb, eqb}
use lib.ListN.{length, get_or}
use lib.Ieee.{Float, binary32, to_bits}
use borrow.Author.Tests.{leb-true, eqb-true, eq-eqb}
use Rattle.std.specs.Prelude.{Some}
use Rattle.base_lists.specs.Pick.{pick}
use Rattle.base_lists.proofs.Bools.{and_off}
use Rattle.base_lists.proofs.Picks.{pick_cases}
use Rattle.base_little_endian.specs.Words.{u64_at, f32_at}
use Rattle.base_little_endian.specs.Same.{SameBytes}
use Rattle.display_list_commands.specs.declared.DrawCommand.{DrawCommand}
use Rattle.display_list_commands.specs.Bounds.{Command, glyph_count}
use Rattle.display_list_operand_equality.specs.Operands.{same_bits, same_clips}
use Rattle.display_list_operand_equality.proofs.Selves.{number_self, float_self, affine_self}
use Rattle.display_list_equality.specs.Drawings.{same_drawing, fills_alike, runs_alike, run_alike}
use Rattle.display_list.specs.Lists.{offset_at}
use Rattle.strip_format.specs.declared.Kind.TheVariants.{Fill as FillKind, Run as RunKind}
use Rattle.strip_format.specs.Format.{length_of, affine_at, fill_at, stroke_path_at, run_at, scene_at, blank, command_at}
use Rattle.strip_format.proofs.Commands.{command_cases}
use Rattle.strip_format.proofs.Lengths.{length_run}
use Rattle.strip_format.proofs.Numbers.{single_finite, entry_numbers}
use Rattle.strip.specs.Reading.{command_of}
use Rattle.strip_laws.proofs.Alike.{command_twice}
use Rattle.strip_command_bounds.specs.Kinds.{kind_at}
use Rattle.strip_command_bounds.proofs.Standing.{kind_whole, stands, is_fill, is_run}
use Rattle.display_list_changes.specs.declared.Change.TheVariants.{Same, Fills, Runs, Other}
use Rattle.display_list_stored.specs.Stored.{command_in}
use Rattle.runtime.specs.Placed.{apart, SameRun, Tells}
use Rattle.runtime.proofs.Cases.{fills_off, equal_off, equal_unclipped, runs_unclipped, runs_off, runs_from, tells_same, tells_fills, tells_other, tells_runs}
use Rattle.runtime.proofs.Repeats.{same_drawn, same_equal}

-- ---- by the kind of command that stands at an offset
module _ (s : List ℕ) (at : ℕ) where
  -- what holds of each kind, read there where one stands, and of the blank one holds of what stands there
  kind_cases : (P : DrawCommand → Type 0) → (kind_at s at ≡ Some FillKind → P (fill_at s at)) → P (stroke_path_at s at) → (kind_at s at ≡ Some RunKind → P (run_at s at)) → P (scene_at s at) → P blank → P (command_at s at)
  unfolding command_at
  kind_cases P fill stroke run scene none =
      let b = get_or s at 0 in
      pick_cases P (leb (at + length_of b) (length s)) _ _
      (λ w. pick_cases P (eqb b 3) _ _ (λ e. fill (kind_whole s at FillKind (leb-true _ _ w) (eqb-true b 3 e)))
      λ e. pick_cases P (eqb b 4) _ _ (λ e. stroke)
      λ e. pick_cases P (eqb b 5) _ _ (λ e. run (kind_whole s at RunKind (leb-true _ _ w) (eqb-true b 5 e)))
      λ e. pick_cases P (eqb b 7) _ _ (λ e. scene) (λ e. none))
      (λ e. none)

  pub no_glyphs : (kind_at s at ≡ Some RunKind → ⊥) → 0 ≡ glyph_count (command_at s at)
  no_glyphs off = kind_cases (λ c. 0 ≡ glyph_count c) (λ e. refl) refl (λ e. absurd (off e)) refl refl

  no_fill : (kind_at s at ≡ Some FillKind → ⊥) → (d : DrawCommand) → fills_alike (command_at s at) d ≡ false
  unfolding fills_alike
  no_fill off d = kind_cases (λ c. fills_alike c d ≡ false) (λ e. absurd (off e)) refl (λ e. refl) refl refl

  is_fills : kind_at s at ≡ Some FillKind → (d : DrawCommand) → same_drawing (command_at s at) d ≡ true → fills_alike (command_at s at) d ≡ true
  unfolding same_drawing fills_alike
  is_fills e d = subst (λ c. same_drawing c d ≡ true → fills_alike c d ≡ true) (is_fill s at e).0 (λ f. f)

-- ---- no run, and an operand differs
module _ (s : List ℕ) (p q : ℕ) where
  told : apart s p q ≡ true → (eqb (get_or s p 0) 5 ≡ false) × (same_drawing (command_at s p) (command_at s q) ≡ false)
  unfolding apart
  told = go (eqb (get_or s p 0) 5) (same_drawing (command_at s p) (command_at s q))
    where
      go : (x y : Bool) → pick x false (pick y false true) ≡ true → (x ≡ false) × (y ≡ false)
      go true y e = absurd (true≢false (sym e))
      go false true e = absurd (true≢false (sym e))
      go false false e = (refl, refl)

no_run : (s : List ℕ) (p : ℕ) (d : DrawCommand) → eqb (get_or s p 0) 5 ≡ false → runs_alike (command_at s p) d ≡ false
unfolding runs_alike
no_run s p d off = command_cases s p (λ c. runs_alike c d ≡ false) refl refl (λ e. absurd (true≢false (sym (eq-eqb _ 5 e) ∙ off))) refl refl

-- ---- a run that stands twice
module _ (s : List ℕ) (p q : ℕ) where
  pub run_twice : kind_at s p ≡ Some RunKind → kind_at s q ≡ Some RunKind → SameBytes s p q 103 → SameRun s p q
  run_twice e f w =
      let x = stands s p RunKind e in
      let y = is_run s p e in
      let z = is_run s q f in
      (e, f, command_twice s p q 103 w (rw x.0 (omega (arith, length_run))) y.1 z.1)

  run_self : runs_alike (run_at s p) (run_at s p) ≡ true
  unfolding runs_alike run_alike same_bits
  run_self =
      let size = f32_at s (p + 9) in
      rw (number_self (u64_at s (p + 1)), float_self size (single_finite s (p + 9)), number_self (to_bits binary32 size), affine_self (affine_at s (p + 13)) (entry_numbers s (p + 13)), number_self (u64_at s (p + 61))) refl

  run_alike_lem : SameRun s p q → runs_alike (command_at s p) (command_at s q) ≡ true
  run_alike_lem w =
      let e = (is_run s p w.0).0 in
      let f = e ∙ w.2 in
      sym (λ i. runs_alike (e i) (f i)) ∙ run_self

-- ---- two places of a list: which case tells what changed
module _ (s : List ℕ) (bs : List Float) (ns is : List ℕ) (i j : ℕ) where
  abbrev at : ℕ
  at = offset_at is i

  abbrev other : ℕ
  other = offset_at is j

  abbrev c : Command
  c = command_in s bs ns is i

  abbrev d : Command
  d = command_in s bs ns is j

  -- where the bytes are the same, the clips tell, and the kind
  module _ (e : command_of s at [] ≡ command_of s other []) {t : Bool} (k : t ≡ same_clips c.clips d.clips) where
    pub tells_unchanged : t ≡ true → Tells Same c d
    tells_unchanged v = tells_same c d (same_equal s at other c.clips d.clips e (sym k ∙ v))

    module _ (v : t ≡ false) where
      pub tells_clipped : kind_at s at ≡ Some FillKind → Tells Fills c d
      tells_clipped f = tells_fills c d (equal_unclipped c d (sym k ∙ v)) (is_fills s at f d.draw (same_drawn s at other e))

      pub tells_reclipped : (kind_at s at ≡ Some FillKind → ⊥) → Tells Other c d
      tells_reclipped off = tells_other c d (equal_unclipped c d (sym k ∙ v)) (no_fill s at off d.draw) (runs_unclipped c d (sym k ∙ v))

  pub tells_apart : {t : Bool} → t ≡ apart s at other → t ≡ true → Tells Other c d
  tells_apart v e =
      let z = told s at other (sym v ∙ e) in
      tells_other c d (equal_off c d (sym (and_off _ _ z.1))) (fills_off c.draw d.draw z.1) (runs_off c d (no_run s at d.draw z.0))

  pub tells_run : SameRun s at other → {t : Bool} → t ≡ same_clips c.clips d.clips → t ≡ true → Tells Runs c d
  tells_run w k v = tells_runs c d (runs_from c d (run_alike_lem s at other w) (sym k ∙ v))
