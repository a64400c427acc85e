-- `strip_command_bounds::transform_at` meets its contract: by the kind of the command that stands there. Assumes nothing.
use native.Mathlib.Omega.{arith}
use mathlib.Core.Logic.{◌⊎◌, inl, inr}
use mathlib.Core.List.{List}
use mathlib.Core.Path.{◌≡◌, sym, ap, subst, ◌∙◌}
use Prim.Native.Nat.{ℕ, ◌+◌, ◌≤◌}
use lib.ListN.{length}
use Rattle.std.specs.Prelude.{Option, Some, None}
use Rattle.display_list_commands.specs.Bounds.{transform_of}
use Rattle.strip_format.specs.declared.Kind.{Kind}
use Rattle.strip_format.specs.declared.Kind.TheVariants.{Fill, Stroke, Run, Scene}
use Rattle.strip_format.specs.Format.{affine_at, affine_offset, command_at}
use Rattle.strip_format.specs.Kinds.{code}
use Rattle.strip_command_bounds.specs.Kinds.{kind_at}
use Rattle.strip_command_bounds.proofs.Standing.{is_fill, is_stroke, is_run, is_scene, is_other}
use Rattle.strip_command_bounds.proofs.transform_at.Goals as goal

-- what stands there, once its kind is told
told : {o p : Option Kind} {kind k : Kind} → o ≡ p → o ≡ Some kind → kind ≡ k → p ≡ Some k
told u e q = sym u ∙ e ∙ ap Some q

-- the affine of a drawing command is all there, and is the command's
abbrev Here : List ℕ → ℕ → Kind → Type 0
Here s at k = (at + 97 ≤ length s) × (affine_offset at (code k) + 48 ≤ length s) × (affine_at s (affine_offset at (code k)) ≡ transform_of (command_at s at))

here : (s : List ℕ) (at : ℕ) {o : Option Kind} {kind : Kind} → o ≡ kind_at s at → o ≡ Some kind → (kind ≡ Fill) ⊎ (kind ≡ Stroke) ⊎ (kind ≡ Run) ⊎ (kind ≡ Scene) → Here s at kind
unfolding affine_offset
here s at u e (inl q) = let w = is_fill s at (told u e q) in subst (Here s at) (sym q) (w.1, omega (arith, w.1), ap transform_of w.0)
here s at u e (inr (inl q)) = let w = is_stroke s at (told u e q) in subst (Here s at) (sym q) (omega (arith, w.1), omega (arith, w.1), ap transform_of w.0)
here s at u e (inr (inr (inl q))) = let w = is_run s at (told u e q) in subst (Here s at) (sym q) (omega (arith, w.1), omega (arith, w.1), ap transform_of w.0)
here s at u e (inr (inr (inr q))) = let w = is_scene s at (told u e q) in subst (Here s at) (sym q) (omega (arith, w.1), omega (arith, w.1), ap transform_of w.0)

pub affine_offset-requires : goal.affine_offset-requires
affine_offset-requires c = omega (arith, (here _ _ c.kind_at.ensures c.in-Some.is c.in-Fill.is).0)

pub affine_inside-requires : goal.affine_inside-requires
affine_inside-requires c = subst (λ n. n + 48 ≤ length c.args.s.now) (sym c.affine_offset.ensures) (here _ _ c.kind_at.ensures c.in-Some.is c.in-Fill.is).1

pub returns-in-Fill : goal.returns-in-Fill
returns-in-Fill c = c.affine_inside.ensures ∙ ap (affine_at c.args.s.now) c.affine_offset.ensures ∙ (here _ _ c.kind_at.ensures c.in-Some.is c.in-Fill.is).2

pub returns-in_default : goal.returns-in_default
returns-in_default c = ap transform_of (is_other _ _ (λ q. c.in_default.not-Some Fill (c.kind_at.ensures ∙ q)) (λ q. c.in_default.not-Some Stroke (c.kind_at.ensures ∙ q)) (λ q. c.in_default.not-Some Run (c.kind_at.ensures ∙ q)) (λ q. c.in_default.not-Some Scene (c.kind_at.ensures ∙ q)))

-- another kind
abbrev or_fill : Option Kind → Kind
or_fill (Some k) = k
or_fill None = Fill

other : {o p : Option Kind} {kind k : Kind} → o ≡ p → o ≡ Some kind → (kind ≡ k → ⊥) → p ≡ Some k → ⊥
other u e n q = n (ap or_fill (sym e ∙ u ∙ q))

pub returns-in_default-kind : goal.returns-in_default-kind
returns-in_default-kind c = ap transform_of (is_other _ _ (other c.kind_at.ensures c.in-Some.is c.in_default-kind.not-Fill) (other c.kind_at.ensures c.in-Some.is c.in_default-kind.not-Stroke) (other c.kind_at.ensures c.in-Some.is c.in_default-kind.not-Run) (other c.kind_at.ensures c.in-Some.is c.in_default-kind.not-Scene))
