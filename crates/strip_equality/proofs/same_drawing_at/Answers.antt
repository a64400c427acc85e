-- `strip_equality::same_drawing_at` meets its contract: by the kind of the commands that stand there. Assumes nothing.
use Rattle.std.specs.Prelude.{Option, Some}
use Rattle.strip_format.specs.declared.Kind.{Kind}
use Rattle.display_list_equality.specs.Drawings.{same_drawing, same_fill}
use Rattle.strip_command_bounds.proofs.Standing.{is_fill, is_stroke, is_scene}
use mathlib.Core.Path.{◌≡◌, sym, ap, ◌∙◌}
use Rattle.strip_equality.proofs.same_drawing_at.Goals as goal

-- what stands there, once its kind is told
told : {o p : Option Kind} {kind k : Kind} → o ≡ p → o ≡ Some kind → kind ≡ k → p ≡ Some k
told u e q = sym u ∙ e ∙ ap Some q

as_read : {p : Option Kind} {kind k : Kind} → p ≡ Some kind → kind ≡ k → p ≡ Some k
as_read e q = e ∙ ap Some q

pub same_path-requires : goal.same_path-requires
same_path-requires c = ((is_fill _ _ (told c.kind_at.ensures c.in-Some.is c.in-Fill.is)).1, (is_fill _ _ (as_read (c.stands.ensures.whole c.if-not-stands.false) c.in-Fill.is)).1)

pub same_stroked-requires : goal.same_stroked-requires
same_stroked-requires c = ((is_stroke _ _ (told c.kind_at.ensures c.in-Some.is c.in-Stroke.is)).1, (is_stroke _ _ (as_read (c.stands.ensures.whole c.if-not-stands.false) c.in-Stroke.is)).1)

pub same_scene-requires : goal.same_scene-requires
same_scene-requires c = ((is_scene _ _ (told c.kind_at.ensures c.in-Some.is c.in-Scene.is)).1, (is_scene _ _ (as_read (c.stands.ensures.whole c.if-not-stands.false) c.in-Scene.is)).1)

pub returns-in-Fill : goal.returns-in-Fill
unfolding same_drawing same_fill
returns-in-Fill c = c.same_path.ensures ∙ λ i. same_drawing ((is_fill _ _ (told c.kind_at.ensures c.in-Some.is c.in-Fill.is)).0 i) ((is_fill _ _ (as_read (c.stands.ensures.whole c.if-not-stands.false) c.in-Fill.is)).0 i)

pub returns-in-Stroke : goal.returns-in-Stroke
returns-in-Stroke c = c.same_stroked.ensures ∙ λ i. same_drawing ((is_stroke _ _ (told c.kind_at.ensures c.in-Some.is c.in-Stroke.is)).0 i) ((is_stroke _ _ (as_read (c.stands.ensures.whole c.if-not-stands.false) c.in-Stroke.is)).0 i)

pub returns-in-Scene : goal.returns-in-Scene
returns-in-Scene c = c.same_scene.ensures ∙ λ i. same_drawing ((is_scene _ _ (told c.kind_at.ensures c.in-Some.is c.in-Scene.is)).0 i) ((is_scene _ _ (as_read (c.stands.ensures.whole c.if-not-stands.false) c.in-Scene.is)).0 i)
