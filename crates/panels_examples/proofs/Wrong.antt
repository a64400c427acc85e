-- The wrong planners break demand 3: with no region to paint, panel B still shows the cell where it was. Assumes nothing.
use mathlib.Core.Path.{◌≡◌, subst}
use mathlib.Core.List.{List, []}
use mathlib.Core.Option.{Option, some}
use Prim.Native.Nat.{ℕ}
use native.Mathlib.Omega.{arith}
use lib.Ieee.{lt, add, mul, neg, of_int}
use Rattle.base_lists.specs.Members.{All}
use Rattle.base_floats.specs.Order.{larger, smaller}
use Rattle.kurbo_geometry.specs.Boxes.{positive_area}
use Rattle.kurbo_geometry.specs.Pixels.{spans, meets, touches}
use Rattle.kurbo_affine.specs.Affines.{bounding_box, transform_rect_bbox}
use Rattle.compositor_device.specs.declared.DeviceRegion.{DeviceRegion}
use Rattle.display_list_commands.specs.Bounds.{united_from, bounds}
use Rattle.compositor_index_words.specs.Painting.{paint_all}
use Rattle.panels_painting.specs.Inked as Inked
use Rattle.plan_answers.specs.Space.{Slices}
use Rattle.panels.specs.Panels.{Ordering, paint_whole, start, Agree, PanelsAgree}
use Rattle.panels_examples.specs.Pages.{cell}
use Rattle.panels_examples.specs.Frames.{room, paint, mark, at}
use Rattle.panels_examples.specs.Wrong.{quiet, mute, ToldApart}
use Rattle.panels_examples.proofs.Shown.{entries_keep}
use Rattle.panels_examples.proofs.Trace as Trace
use Rattle.compositor_screen.specs.Sizes.{screen}

nothing_to_paint : Ordering [] []
unfolding All
nothing_to_paint = record { each = tt; only = tt }

-- with these words and no regions
module _ (R : Option (List ℕ) → List ℕ → Slices → List DeviceRegion) (W : Option (List ℕ) → List ℕ → Slices → List ℕ) where
  -- panel A has the background where the cell was, panel B the cell
  cell_stays : Agree (Trace.Q R W []) (screen 8 8 4) 0 paint (cell 0) (start (Trace.Q R W []) (screen 8 8 4) 0 paint (cell 0)) (Trace.frames R W []) → ◌≡◌ {A = ℕ} 0 1
  unfolding paint_whole paint_all Inked.paint Inked.text Inked.shape Inked.mark touches positive_area meets spans bounds united_from transform_rect_bbox bounding_box larger smaller lt add mul neg of_int
  cell_stays a =
      let px = at 1 3 (omega arith) (omega arith) in
      subst (λ (s : Trace.S R W []). s.panel_a px ≡ s.panel_b px) (Trace.after_is R W []) (a.2.2.2.2 px)

  breaks : Ordering (R (some Trace.one) Trace.two (room 7)) [] → PanelsAgree (screen 8 8 4) (Trace.Q R W []) → ⊥
  breaks o claim =
      let z = cell_stays (claim (Trace.frames R W []) ℕ 0 paint mark (cell 0) (Trace.rules R W []) (Trace.glyphs R W []) (Trace.orders R W [] o)) in
      omega arith

pub told_apart : ToldApart
told_apart = record { entries_keep = entries_keep; quiet_breaks = breaks quiet.regions quiet.words nothing_to_paint; mute_breaks = breaks mute.regions mute.words nothing_to_paint }
