-- The starred cases hold, each by computing its definition, here or in the crate that it speaks of. Assumes nothing.
use mathlib.Core.Path.{refl}
use lib.Ieee.{lt, neg, div, of_int, of_bits, to_bits}
use Rattle.base_floats.specs.Whole.{floor, ceil}
use Rattle.base_floats.specs.Next.{next_down}
use Rattle.kurbo_geometry.specs.Boxes.{positive_area}
use Rattle.compositor_device.specs.Region.{between}
use Rattle.compositor_index_words.specs.Index.{stands_in, places, row_list, entries_to, start_of, starts_to, layout, index_words}
use Rattle.display_list_changes.proofs.Examples.{cropped_fill}
use Rattle.display_list.proofs.Examples.{stroke_box}
use Rattle.compositor_schedule_laws.proofs.Examples.{touching_joined, apart_kept, higher_first}
use Rattle.starred.specs.Starred.{Starred}

pub starred : Starred
unfolding floor ceil next_down between positive_area index_words layout starts_to start_of entries_to row_list places stands_in lt neg div of_int of_bits to_bits
starred = record {
  cropped = cropped_fill;
  rounded_outward = refl;
  no_width = refl;
  touching_joined = touching_joined;
  apart_kept = apart_kept;
  higher_first = higher_first;
  ends_at_edge = refl;
  ends_past_edge = refl;
  below_screen = (refl, refl);
  above_screen = (refl, refl);
  ends_at_edge_words = refl;
  ends_past_edge_words = refl;
  below_screen_words = refl;
  above_screen_words = refl;
  stroke_box = stroke_box;
}
