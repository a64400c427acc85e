-- `display_list_glyph_changes::glyph_eq` meets its contract: the first operand that differs decides. Assumes nothing.
use mathlib.Core.Path.{sym, ◌∙◌}
use borrow.Author.Tests.{eqb-true}
use Rattle.display_list_glyph_changes.proofs.Places.{alike_by_number, alike_by_x, alike_by_y}
use Rattle.display_list_glyph_changes.proofs.glyph_eq.Goals.{then-u32_inside, else-u32_inside}
use Rattle.display_list_glyph_changes.proofs.glyph_eq.Goals as goal

pub returns-then-f32_at : goal.returns-then-f32_at
returns-then-f32_at c =
    elim c.if-u32_inside.branch [
      | then-u32_inside w ↦ alike_by_y _ _ c.u32_inside.ensures c.u32_inside-2.ensures w.if-u32_inside.true w.f32_at.ensures w.f32_at-then-u32_inside.ensures (sym w.value-is ∙ c.if-f32_at.true) c.f32_at-then-f32_at.ensures c.f32_at-then-f32_at-2.ensures
      | else-u32_inside w ↦ absurd (w.if-u32_inside.false (eqb-true _ _ (sym w.value-is ∙ c.if-f32_at.true)))
    ]

pub returns-else-f32_at : goal.returns-else-f32_at
returns-else-f32_at c =
    elim c.if-u32_inside.branch [
      | then-u32_inside w ↦ c.if-f32_at.false ∙ alike_by_x _ _ c.u32_inside.ensures c.u32_inside-2.ensures w.if-u32_inside.true w.f32_at.ensures w.f32_at-then-u32_inside.ensures (sym w.value-is ∙ c.if-f32_at.false)
      | else-u32_inside w ↦ c.if-f32_at.false ∙ alike_by_number _ _ c.u32_inside.ensures c.u32_inside-2.ensures w.if-u32_inside.false
    ]
