-- The affine and the box of a command whose operands passed, where they stand. Assumes nothing.
use mathlib.Core.Path.{◌≡◌, refl, sym, ap, subst, ◌∙◌}
use mathlib.Core.Bool.{Bool, true, false}
use mathlib.Core.List.{List}
use Prim.Native.Nat.{ℕ, ◌+◌, ◌≤◌}
use native.Mathlib.Omega.{arith}
use lib.Dec.{eqb}
use lib.ListN.{length}
use lib.Ieee.{Float}
use borrow.Author.Tests.{eqb-true, eqb-false, eq-eqb}
use Rattle.std.specs.Prelude.{Ok}
use Rattle.base_lists.proofs.Picks.{pick_true}
use Rattle.base_little_endian.specs.Words.{u16_at}
use Rattle.kurbo_geometry.specs.declared.Rect.{Rect}
use Rattle.kurbo_geometry.specs.Boxes.{inflate}
use Rattle.display_list_commands.specs.declared.Stroke.{Stroke}
use Rattle.display_list_commands.specs.declared.DrawCommand.{DrawCommand}
use Rattle.display_list_commands.specs.Strokes.{stroke_bounds_inflation}
use Rattle.display_list_commands.specs.Bounds.{transform_of, stroke_bounds, local_with}
use Rattle.strip_format.specs.Format.{rect_at, affine_at, stroke_at, fill_at, stroke_path_at, run_at, scene_at, command_at, affine_offset, rect_offset}
use Rattle.strip_format.specs.Finite.{FourFinite}
use Rattle.strip_format.proofs.Lengths.{length_fill, length_stroke, length_run, length_scene}
use Rattle.strip_format.proofs.Commands.{command_fill, command_stroke, command_run, command_scene}
use Rattle.strip_operand_checks.specs.Operands.{operands_at}
use Rattle.strip_operand_checks.proofs.Floats.{clip_finite, glyph_finite, glyph_floats, fill_finite, stroke_finite, run_finite, scene_finite}
use Rattle.strip.specs.Steps.{announced, Draws}
use Rattle.strip.specs.Effects.{CommandChecked, DrawsAt, OwnBounds}

-- the boxes of a CLIP and of a GLYPH
module _ (s : List ℕ) (at b : ℕ) (w : CommandChecked s at b) where
  pub clip_known : b ≡ 1 → FourFinite s (at + 1)
  clip_known e = clip_finite s at (subst (λ (n : ℕ). operands_at s at n ≡ Ok tt) e w.operands)

  pub glyph_known : b ≡ 6 → FourFinite s (at + 13)
  glyph_known e = glyph_finite s at (glyph_floats s at (subst (λ (n : ℕ). operands_at s at n ≡ Ok tt) e w.operands))

-- by whether a number is another
either : {P : Type 0} (b k : ℕ) → (b ≡ k → P) → ((b ≡ k → ⊥) → P) → P
either {P} b k same other = by (eqb b k) refl
  where
    by : (t : Bool) → eqb b k ≡ t → P
    by true q = same (eqb-true b k q)
    by false q = other (eqb-false b k q)

-- a byte of the table that is none of the eight, in parts that are small enough for omega
low : (b : ℕ) → (b ≡ 0 → ⊥) → (b ≡ 1 → ⊥) → (b ≡ 2 → ⊥) → (b ≡ 3 → ⊥) → 4 ≤ b
low b n0 n1 n2 n3 = omega arith

high : (b : ℕ) → b ≤ 7 → (b ≡ 6 → ⊥) → (b ≡ 7 → ⊥) → b ≤ 5
high b known n6 n7 = omega arith

none : (b : ℕ) → 4 ≤ b → b ≤ 5 → (b ≡ 4 → ⊥) → (b ≡ 5 → ⊥) → ⊥
none b l h n4 n5 = omega arith

-- the four drawing commands
by_kind : (P : ℕ → Type 0) (b : ℕ) → b ≤ 7 → Draws b → P 3 → P 4 → P 5 → P 7 → P b
by_kind P b known d fill stroke run scene =
    either b 3 (λ e. subst P (sym e) fill)
    λ n3. either b 4 (λ e. subst P (sym e) stroke)
    λ n4. either b 5 (λ e. subst P (sym e) run)
    λ n5. either b 7 (λ e. subst P (sym e) scene)
    λ n7. absurd (none b (low b d.0 d.1 d.2 n3) (high b known d.3 n7) n4 n5)

-- a box, inflated by the operands of its STROKE
abbrev inflated : List ℕ → ℕ → Rect → Rect
inflated s at box = stroke_bounds box (stroke_at s (at + 97))

-- a box that was inflated by what was read of its stroke
inflated_by : {read bounds by : Rect} {stroke operands : Stroke} {inflation : Float} → read ≡ bounds → stroke ≡ operands → inflation ≡ stroke_bounds_inflation stroke → by ≡ inflate read inflation inflation → by ≡ stroke_bounds bounds operands
inflated_by e f g h = cc

-- affine and box stand within the strip, with finite floats, and are the command's
pub record Placed (s : List ℕ) (at b : ℕ) : Type 0 where
  pub affine_room : affine_offset at b + 48 ≤ length s
  pub affine_finite : FourFinite s (affine_offset at b) × FourFinite s (affine_offset at b + 16)
  pub affine_here : affine_at s (affine_offset at b) ≡ transform_of (command_at s at)
  pub rect_room : rect_offset at b + 32 ≤ length s
  pub rect_finite : FourFinite s (rect_offset at b)
  pub inflated_here : b ≡ 4 → OwnBounds s at (inflated s at (rect_at s (rect_offset at b)))
  pub rect_here : (b ≡ 4 → ⊥) → announced s at b ≡ 0 → OwnBounds s at (rect_at s (rect_offset at b))

module _ (s : List ℕ) (at : ℕ) where
  -- the same by the command that stands there
  place : (b : ℕ) (c : DrawCommand)
      → c ≡ command_at s at
      → FourFinite s (rect_offset at b) × FourFinite s (affine_offset at b) × FourFinite s (affine_offset at b + 16)
      → affine_offset at b + 48 ≤ length s
      → rect_offset at b + 32 ≤ length s
      → affine_at s (affine_offset at b) ≡ transform_of c
      → (b ≡ 4 → (u : Rect) → inflated s at (rect_at s (rect_offset at b)) ≡ local_with c u)
      → ((b ≡ 4 → ⊥) → announced s at b ≡ 0 → (u : Rect) → rect_at s (rect_offset at b) ≡ local_with c u)
      → Placed s at b
  place b c here floats affine-fits rect-fits affine stroked box =
      record {
        affine_room = affine-fits;
        affine_finite = (floats.1, floats.2);
        affine_here = affine ∙ ap transform_of here;
        rect_room = rect-fits;
        rect_finite = floats.0;
        inflated_here = λ e u. stroked e u ∙ ap (λ (x : DrawCommand). local_with x u) here;
        rect_here = λ n z u. box n z u ∙ ap (λ (x : DrawCommand). local_with x u) here;
      }

  fill : CommandChecked s at 3 → Placed s at 3
  unfolding affine_offset rect_offset
  fill w = place 3 (fill_at s at) (command_fill s at w.byte w.room) (fill_finite s at w.operands) (omega (arith, w.room, length_fill)) (omega (arith, w.room, length_fill)) refl (λ e. absurd (omega (arith, e))) (λ n z u. refl)

  stroke : CommandChecked s at 4 → Placed s at 4
  unfolding affine_offset rect_offset
  stroke w = place 4 (stroke_path_at s at) (command_stroke s at w.byte w.room) (stroke_finite s at w.operands) (omega (arith, w.room, length_stroke)) (omega (arith, w.room, length_stroke)) refl (λ e u. refl) (λ n z. absurd (n refl))

  run : CommandChecked s at 5 → Placed s at 5
  unfolding affine_offset rect_offset
  run w = place 5 (run_at s at) (command_run s at w.byte w.room) (run_finite s at w.operands) (omega (arith, w.room, length_run)) (omega (arith, w.room, length_run)) refl (λ e. absurd (omega (arith, e))) (λ n z u. sym (pick_true (eqb (u16_at s (at + 101)) 0) (rect_at s (at + 69)) u (eq-eqb (u16_at s (at + 101)) 0 z)))

  scene : CommandChecked s at 7 → Placed s at 7
  unfolding affine_offset rect_offset
  scene w = place 7 (scene_at s at) (command_scene s at w.byte w.room) (scene_finite s at w.operands) (omega (arith, w.room, length_scene)) (omega (arith, w.room, length_scene)) refl (λ e. absurd (omega (arith, e))) (λ n z u. refl)

  module _ (b : ℕ) (w : DrawsAt s at b) where
    placed : Placed s at b
    placed = by_kind (λ (n : ℕ). CommandChecked s at n → Placed s at n) b w.stands.known w.draws fill stroke run scene w.stands

    -- what is read at the offsets that the code works out
    module _ (p : ℕ) (e : p ≡ affine_offset at b) where
      pub affine_known : (p + 48 ≤ length s) × FourFinite s p × FourFinite s (p + 16)
      affine_known = subst (λ (n : ℕ). (n + 48 ≤ length s) × FourFinite s n × FourFinite s (n + 16)) (sym e) (placed.affine_room, placed.affine_finite.0, placed.affine_finite.1)

      pub affine_is : affine_at s p ≡ transform_of (command_at s at)
      affine_is = ap (affine_at s) e ∙ placed.affine_here

    module _ (p : ℕ) (e : p ≡ rect_offset at b) where
      pub rect_known : (p + 32 ≤ length s) × FourFinite s p
      rect_known = subst (λ (n : ℕ). (n + 32 ≤ length s) × FourFinite s n) (sym e) (placed.rect_room, placed.rect_finite)

      module _ (read : Rect) (f : read ≡ rect_at s p) where
        pub rect_is : (b ≡ 4 → ⊥) → announced s at b ≡ 0 → OwnBounds s at read
        rect_is n z u = f ∙ ap (rect_at s) e ∙ placed.rect_here n z u

        pub inflated_is : b ≡ 4 → (stroke : Stroke) (inflation : Float) (by : Rect) → stroke ≡ stroke_at s (at + 97) → inflation ≡ stroke_bounds_inflation stroke → by ≡ inflate read inflation inflation → OwnBounds s at by
        inflated_is four stroke inflation by g h k u = inflated_by (f ∙ ap (rect_at s) e) g h k ∙ placed.inflated_here four u
