-- `ListSpace::append_change` meets its contract: the rectangles of each case. Assumes nothing.
use mathlib.Core.Path.{refl}
use native.Mathlib.Omega.{arith}
use Rattle.base_rect_list.proofs.Turns.{to_as, to_none}
use Rattle.runtime.proofs.Placed.{glyphs_changed}
use Rattle.runtime.proofs.ListSpace.append_change.Goals as goal

pub returns-in-Same : goal.returns-in-Same
returns-in-Same c = rw (c.in-Same.is) (to_as refl (omega arith) (to_none {k = 0}))

pub returns-in-Runs : goal.returns-in-Runs
returns-in-Runs c =
    let w = c.requires.0 in
    rw (c.in-Runs.is) (to_as (glyphs_changed _ _ _ _ _ _ w.stored _ _ w.old w.new) (omega arith) (rw (c.run_at-old.ensures, c.run_at-new.ensures) at (c.changed_glyph_bounds.ensures)))
