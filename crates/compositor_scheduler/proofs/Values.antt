-- A schedule is one of values: boxes that differ in the signs of zeros alone have the same regions, in the same order. Assumes nothing.
use mathlib.Core.Path.{◌≡◌, ap}
use mathlib.Core.List.{List}
use Rattle.kurbo_geometry.specs.declared.Rect.{Rect}
use Rattle.kurbo_geometry.proofs.Values.{SameBoxes}
use Rattle.compositor_screen.specs.declared.Screen.{Screen}
use Rattle.compositor_bands.proofs.Values.{regions_same}
use Rattle.compositor_scheduler.specs.Schedule.{schedule_of, schedule}

pub schedule_same : (s : Screen) (l m : List Rect) → SameBoxes l m → schedule s l ≡ schedule s m
schedule_same s l m p = ap (schedule_of s) (regions_same s.width s.height l m p)
