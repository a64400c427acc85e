-- A small page turn, worked out by the definitions: a square of 2 by 2 moves 4 pixels to the right on a screen of 8 by 8 in bands of 4. Assumes nothing.
use mathlib.Core.Path.{◌≡◌, refl}
use mathlib.Core.List.{List, [], ◌∷◌, ◌++◌}
use Prim.Native.Nat.{ℕ}
use lib.Ieee.{of_int, of_bits, to_bits, eq, lt, add, mul, div}
use Rattle.std.specs.Prelude.{Ok}
use Rattle.base_refusals.specs.declared.Fault.TheVariants.{CutOff, TrailingByte, NoRoom}
use Rattle.base_refusals.specs.Table.{refused}
use Rattle.kurbo_affine.specs.Affines.{bounding_box, transform_rect_bbox, finite_point, all_finite, bound_finite, try_transform}
use Rattle.compositor_bands.specs.Bands.{regions_of, cut_to, insert_by, sort_by, join_to, join, merge_overlapping}
use Rattle.compositor_bands.specs.Keys.{pack, from_xy, from_yx}
use Rattle.display_list_changes.specs.Changes.{changed_glyphs, changed_at, change, changed_bounds, diff_dirty}
use Rattle.display_list_commands.specs.Bounds.{united_from, clip_from, bounds, glyph_bounds}
use Rattle.display_list_commands.specs.Strokes.{stroke_bounds_inflation}
use Rattle.compositor_device.specs.Region.{between, intersect, union}
use Rattle.display_list_differences.specs.Differences.{with_area, rect_difference, rect_symmetric_difference, keep, around}
use Rattle.display_list_equality.specs.Drawings.{same_fill, same_stroked, same_run, same_scene, run_alike, same_drawing, fills_alike, runs_alike, equal, runs_alike_clipped}
use Rattle.base_floats.specs.Next.{next_down}
use Rattle.base_floats.specs.Order.{larger, smaller}
use Rattle.base_floats.specs.Whole.{floor, ceil}
use Rattle.compositor_screen.specs.Sizes.{size_fits}
use Rattle.strip_frame.specs.Frame.{header_of, ended, strips_of}
use Rattle.kurbo_geometry.specs.Boxes.{positive_area, same_edges}
use Rattle.kurbo_geometry.specs.Pixels.{spans, meets, touches}
use Rattle.compositor_index_words.specs.Index.{stands_in, places, row_list, entries_to, start_of, starts_to, layout, index_words}
use Rattle.base_lists.specs.Members.{All, Any, Pairs}
use Rattle.base_little_endian.specs.Words.{u16_at, u32_at, u64_at, finite_or}
use Rattle.strip_operand_checks.specs.Operands.{finite_from, finite_stroke, finite_run, finite_glyph, codes_fit, operands_at}
use Rattle.display_list_operand_equality.specs.Operands.{same_affine, same_cap, same_stroke, same_bits, same_glyph, equal_glyph, same_path, equal_glyphs, same_clips}
use Rattle.compositor_scheduler.specs.Schedule.{bands_to, pixels_of, words_of_regions}
use Rattle.base_sorting.specs.Sort.{insert, sort, AtLeast, Ascending}
use Rattle.strip.specs.Reading.{read_from, list_from}
use Rattle.strip.specs.Steps.{due_fits, clip_step, pop_step, draw_step, run_step, last_step, glyph_step, effect_of, step_at}
use Rattle.strip_format.specs.Format.{length_of, join_of, cap_of, command_at, glyphs_from}
use Rattle.runtime.specs.Work.{work_of}
use Rattle.plan_answers.specs.Drafts.{outcome, first_outcome, next_outcome}
use Rattle.plan_answers.specs.Space.{Lent}
use Rattle.plan_answers.specs.Answers.{items_fit, draft_fits, planned, answer_of}
use Rattle.base_rect_words.specs.Words.{boxes_to}

-- 8, 8 and 4, u32 each
abbrev pub header : List ℕ
header = 8 ∷ 0 ∷ 0 ∷ 0 ∷ 8 ∷ 0 ∷ 0 ∷ 0 ∷ 4 ∷ 0 ∷ 0 ∷ 0 ∷ []

-- the f64 0, 1, 2 and 4, and the content number 1
abbrev pub zero8 : List ℕ
zero8 = 0 ∷ 0 ∷ 0 ∷ 0 ∷ 0 ∷ 0 ∷ 0 ∷ 0 ∷ []

abbrev pub one8 : List ℕ
one8 = 0 ∷ 0 ∷ 0 ∷ 0 ∷ 0 ∷ 0 ∷ 240 ∷ 63 ∷ []

abbrev pub two8 : List ℕ
two8 = 0 ∷ 0 ∷ 0 ∷ 0 ∷ 0 ∷ 0 ∷ 0 ∷ 64 ∷ []

abbrev four8 : List ℕ
four8 = 0 ∷ 0 ∷ 0 ∷ 0 ∷ 0 ∷ 0 ∷ 16 ∷ 64 ∷ []

abbrev pub content : List ℕ
content = 1 ∷ 0 ∷ 0 ∷ 0 ∷ 0 ∷ 0 ∷ 0 ∷ 0 ∷ []

-- FILL of path 1, box 0 0 2 2, moved so far to the right, brush 1; then END
abbrev square : List ℕ → List ℕ
square right = 3 ∷ (content ++ zero8 ++ zero8 ++ two8 ++ two8 ++ one8 ++ zero8 ++ zero8 ++ one8 ++ right ++ zero8 ++ content ++ (0 ∷ []))

-- space for just this much: two commands, no glyph, no clip, one rectangle, so many regions, four index words
abbrev just : ℕ → Lent
just regions = record { commands = 2; glyphs = 0; clips = 0; rects = 1; regions = regions; words = 4 }

-- the turn; the first frame; one region short; a byte behind; and nothing at all
pub record Turn : Type 0 where
  pub turn : answer_of (just 1) (next_outcome (header ++ square zero8 ++ square four8)) ≡ Ok (planned 1 4 (work_of 1 1 12))
  pub first : answer_of (just 2) (first_outcome (header ++ square zero8)) ≡ Ok (planned 1 4 (work_of 1 2 64))
  pub short : answer_of (just 1) (first_outcome (header ++ square zero8)) ≡ refused NoRoom 0
  pub behind : answer_of (just 2) (first_outcome (header ++ square zero8 ++ (0 ∷ []))) ≡ refused TrailingByte 110
  pub empty : answer_of (just 1) (next_outcome []) ≡ refused CutOff 0

-- other inputs are worked out by opening what is opened here: `unfolding worked`
unfoldable pub worked : Turn
unfolding outcome items_fit draft_fits changed_glyphs changed_at change changed_bounds diff_dirty same_fill same_stroked same_run same_scene run_alike
    same_drawing fills_alike runs_alike equal runs_alike_clipped read_from list_from due_fits clip_step pop_step draw_step run_step last_step glyph_step
    effect_of step_at finite_from finite_stroke finite_run finite_glyph codes_fit operands_at length_of join_of cap_of command_at glyphs_from with_area
    rect_difference rect_symmetric_difference keep around same_affine same_cap same_stroke same_bits same_glyph equal_glyph same_path equal_glyphs
    same_clips stroke_bounds_inflation united_from clip_from bounds glyph_bounds bounding_box transform_rect_bbox finite_point all_finite bound_finite
    try_transform spans meets touches positive_area same_edges u16_at u32_at u64_at finite_or floor ceil next_down larger smaller All Any Pairs size_fits
    header_of ended strips_of bands_to pixels_of words_of_regions pack from_xy from_yx boxes_to regions_of cut_to insert_by sort_by join_to join
    merge_overlapping insert sort AtLeast Ascending between intersect union stands_in places row_list entries_to start_of starts_to layout index_words
    of_int of_bits to_bits eq lt add mul div
worked = record { turn = refl; first = refl; short = refl; behind = refl; empty = refl }
