use mathlib.Core.Path.{◌≡◌}
use Prim.Native.Nat.{◌/◌}
use lib.ListN.{length}
use Rattle.compositor_rows.specs.Rows.{row_count}
use Rattle.compositor_bands.specs.Bands.{regions_of}
use Rattle.compositor_scheduler.proofs.Rows.{SchedulingSoFar}
use Rattle.compositor_scheduler.proofs.schedule.Given as goal
use Rattle.base_rect_words.specs.Words.{boxes_to}

abbrev pub invariant-loop-j : goal.invariant-loop-j
invariant-loop-j l = (l.j-end ≡ row_count l.screen.height l.screen.band_height) × (length l.work ≡ length l.initial.work) × SchedulingSoFar l.screen (regions_of l.screen.width l.screen.height (boxes_to l.rects (length l.rects / 4))) l.initial.out l.out l.j l.count l.pixels
