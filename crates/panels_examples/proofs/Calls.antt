-- The calls of the frames, worked out by the definitions. Assumes nothing.
use mathlib.Core.Path.{◌≡◌, refl}
use mathlib.Core.List.{List, [], ◌∷◌, ◌++◌}
use Prim.Native.Nat.{ℕ}
use lib.Ieee.{of_int, of_bits, to_bits, neg, eq, lt, add, mul}
use Rattle.base_refusals.specs.declared.Fault.TheVariants.{CutOff}
use Rattle.base_refusals.specs.Table.{refusal}
use Rattle.kurbo_affine.specs.Affines.{bounding_box, transform_rect_bbox, finite_point, all_finite, bound_finite, try_transform}
use Rattle.compositor_bands.specs.Bands.{regions_of, cut_to, insert_by, sort_by, join_to, join, merge_overlapping}
use Rattle.display_list_changes.specs.Changes.{changed_glyphs, changed_at, change, changed_bounds, diff_dirty}
use Rattle.display_list_commands.specs.Bounds.{united_from, bounds, glyph_bounds}
use Rattle.compositor_device.specs.Region.{between, intersect, union}
use Rattle.display_list_equality.specs.Drawings.{same_fill, same_run, run_alike, same_drawing, fills_alike, runs_alike, equal, runs_alike_clipped}
use Rattle.base_floats.specs.Next.{next_down}
use Rattle.base_floats.specs.Order.{larger, smaller}
use Rattle.base_floats.specs.Whole.{whole, floor, ceil}
use Rattle.compositor_screen.specs.Sizes.{screen, size_fits}
use Rattle.strip_frame.specs.Frame.{header_of, ended, strips_of}
use Rattle.kurbo_geometry.specs.Boxes.{positive_area, same_edges}
use Rattle.compositor_index_words.specs.Index.{stands_in, places, row_list, entries_to, start_of, starts_to, layout, index_words}
use Rattle.base_little_endian.specs.Words.{u16_at, u32_at, u64_at, finite_or}
use Rattle.strip_operand_checks.specs.Operands.{finite_from, finite_run, finite_glyph, operands_at}
use Rattle.display_list_operand_equality.specs.Operands.{same_affine, same_bits, same_glyph, equal_glyph, same_path, equal_glyphs, same_clips}
use Rattle.compositor_scheduler.specs.Schedule.{bands_to}
use Rattle.strip.specs.Reading.{read_from, list_from, commands_of}
use Rattle.strip.specs.Steps.{due_fits, draw_step, run_step, last_step, glyph_step, effect_of, step_at}
use Rattle.strip_format.specs.Format.{length_of, command_at, glyphs_from}
use Rattle.plan_answers.specs.Drafts.{Items, Draft, refuses, drafted, screen_rect, outcome, first_outcome, next_outcome}
use Rattle.panels_examples.specs.Pages.{box, bytes, glyph_bytes, strip, header, page_one, page_two}
use Rattle.panels_examples.specs.Frames.{region, upper, lower}

-- as many glyphs as commands, and no clip
abbrev items : ℕ → Items
items n = record { commands = n; glyphs = n; clips = 0 }

-- the first page's rows: the cell in row 0, both commands in row 1; the second page's are the same
abbrev pub index : List ℕ
index = 0 ∷ 1 ∷ 3 ∷ 0 ∷ 0 ∷ 1 ∷ []

abbrev pub first_draft : Draft
first_draft = record { rects = screen_rect (screen 8 8 4) ∷ []; regions = region 0 0 8 4 ∷ region 0 4 8 4 ∷ []; words = index; emitted = 2 }

abbrev pub turn_draft : Draft
turn_draft = record { rects = box (whole 0) (whole 2) 6 6 ∷ box (whole 4) (whole 5) 7 7 ∷ []; regions = upper ∷ lower ∷ []; words = index; emitted = 2 }

pub record Worked : Type 0 where
  pub reads_one : commands_of (header ++ strip page_one) 12 ≡ page_one
  pub reads_two : commands_of (header ++ strip page_two) 12 ≡ page_two
  pub first : first_outcome (header ++ strip page_one) ≡ drafted (items 2) first_draft
  pub cut : next_outcome (header ++ (strip page_one ++ (3 ∷ []))) ≡ refuses (refusal CutOff 303)
  pub turn : next_outcome (header ++ (strip page_one ++ strip page_two)) ≡ drafted (items 4) turn_draft

pub worked : Worked
unfolding outcome changed_glyphs changed_at change changed_bounds diff_dirty same_fill same_run run_alike same_drawing fills_alike runs_alike equal
    runs_alike_clipped read_from list_from due_fits draw_step run_step last_step glyph_step effect_of step_at finite_from finite_run finite_glyph
    operands_at length_of command_at glyphs_from same_affine same_bits same_glyph equal_glyph same_path equal_glyphs same_clips united_from bounds
    glyph_bounds bounding_box transform_rect_bbox finite_point all_finite bound_finite try_transform positive_area same_edges u16_at u32_at u64_at finite_or
    floor ceil next_down larger smaller size_fits header_of ended strips_of bands_to regions_of cut_to insert_by sort_by join_to join merge_overlapping
    between intersect union stands_in places row_list entries_to start_of starts_to layout index_words of_int of_bits to_bits eq lt add mul neg bytes
    glyph_bytes strip
worked = record { reads_one = refl; reads_two = refl; first = refl; cut = refl; turn = refl }
