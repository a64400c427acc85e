use Rattle.strip_format.proofs.Commands.{command_fill, command_stroke, command_run, command_scene, command_short, command_past, command_other}
use Rattle.strip_format.proofs.Codes.{code_one}
use Rattle.strip_format.specs.declared.Kind.{Kind}
use Rattle.strip_format.specs.declared.Kind.TheVariants.{Fill, Stroke, Run, Scene}
use Rattle.strip_format.specs.Format.{length_of}
use Rattle.strip_format.specs.Kinds.{code}
use lib.ListN.{length, get_or}
use native.Mathlib.Omega.{arith}
use Prim.Native.Nat.{ℕ, ◌+◌, ◌-◌, ◌≤◌, ◌<◌}
use mathlib.Core.List.{List}
use mathlib.Core.Path.{◌≡◌, sym, ap, subst, ◌∙◌}
use Rattle.strip_format.proofs.command_at.Goals as goal

-- what is left holds the command, once its kind is known; and its byte is that kind's
whole : (s : List ℕ) (at n : ℕ) (kind k : Kind) → n ≡ length_of (code kind) → at < length s → n ≤ length s - at → kind ≡ k → at + length_of (code k) ≤ length s
whole s at n kind k l h g e = subst (λ x. at + length_of (code x) ≤ length s) e (omega (arith, l, h, g))

cut : (s : List ℕ) (at n : ℕ) (kind : Kind) → n ≡ length_of (code kind) → at < length s → length s - at < n → code kind ≡ get_or s at 0 → length s < at + length_of (get_or s at 0)
cut s at n kind l h g e = subst (λ b. length s < at + length_of b) e (omega (arith, l, h, g))

byte : {b : ℕ} {kind k : Kind} → code kind ≡ b → kind ≡ k → b ≡ code k
byte e q = sym e ∙ ap code q

other : {b : ℕ} {kind : Kind} (k : Kind) → code kind ≡ b → (kind ≡ k → ⊥) → b ≡ code k → ⊥
other k e n q = n (code_one _ k (e ∙ q))

pub returns-then-s-at : goal.returns-then-s-at
returns-then-s-at c = c.blank.ensures ∙ command_past _ _ c.if-s-at.true

pub returns-in_default : goal.returns-in_default
returns-in_default c = c.blank-in_default.ensures ∙ command_other _ _ (λ e. omega (arith, c.in_default.ensures.1, e)) (λ e. omega (arith, c.in_default.ensures.1, e)) (λ e. omega (arith, c.in_default.ensures.1, e)) (λ e. omega (arith, c.in_default.ensures.1, e))

pub returns-then-s-at-2 : goal.returns-then-s-at-2
returns-then-s-at-2 c = c.blank-then-s-at-2.ensures ∙ command_short _ _ (cut _ _ _ _ c.length.ensures c.if-s-at.false c.if-s-at-2.true c.in-Ok.ensures)

pub fill_at-requires : goal.fill_at-requires
unfolding length_of
fill_at-requires c = whole _ _ _ _ Fill c.length.ensures c.if-s-at.false c.if-s-at-2.false c.in-Fill.is

pub stroke_path_at-requires : goal.stroke_path_at-requires
unfolding length_of
stroke_path_at-requires c = whole _ _ _ _ Stroke c.length.ensures c.if-s-at.false c.if-s-at-2.false c.in-Stroke.is

pub run_at-requires : goal.run_at-requires
unfolding length_of
run_at-requires c = whole _ _ _ _ Run c.length.ensures c.if-s-at.false c.if-s-at-2.false c.in-Run.is

pub scene_at-requires : goal.scene_at-requires
unfolding length_of
scene_at-requires c = whole _ _ _ _ Scene c.length.ensures c.if-s-at.false c.if-s-at-2.false c.in-Scene.is

pub returns-in-Fill : goal.returns-in-Fill
returns-in-Fill c = c.fill_at.ensures ∙ command_fill _ _ (byte c.in-Ok.ensures c.in-Fill.is) (whole _ _ _ _ Fill c.length.ensures c.if-s-at.false c.if-s-at-2.false c.in-Fill.is)

pub returns-in-Stroke : goal.returns-in-Stroke
returns-in-Stroke c = c.stroke_path_at.ensures ∙ command_stroke _ _ (byte c.in-Ok.ensures c.in-Stroke.is) (whole _ _ _ _ Stroke c.length.ensures c.if-s-at.false c.if-s-at-2.false c.in-Stroke.is)

pub returns-in-Run : goal.returns-in-Run
returns-in-Run c = c.run_at.ensures ∙ command_run _ _ (byte c.in-Ok.ensures c.in-Run.is) (whole _ _ _ _ Run c.length.ensures c.if-s-at.false c.if-s-at-2.false c.in-Run.is)

pub returns-in-Scene : goal.returns-in-Scene
returns-in-Scene c = c.scene_at.ensures ∙ command_scene _ _ (byte c.in-Ok.ensures c.in-Scene.is) (whole _ _ _ _ Scene c.length.ensures c.if-s-at.false c.if-s-at-2.false c.in-Scene.is)

pub returns-in_default-kind : goal.returns-in_default-kind
returns-in_default-kind c = c.blank-in_default-kind.ensures ∙ command_other _ _ (other Fill c.in-Ok.ensures c.in_default-kind.not-Fill) (other Stroke c.in-Ok.ensures c.in_default-kind.not-Stroke) (other Run c.in-Ok.ensures c.in_default-kind.not-Run) (other Scene c.in-Ok.ensures c.in_default-kind.not-Scene)
