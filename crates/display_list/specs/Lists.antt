-- The state of a display list and its words in lent space, step by step. A step counts on where there is no room: what the words hold then is never asked for.
use Rattle.std.specs.Prelude.{Bool, ◌&&◌, List, ℕ, ◌+◌, ◌-◌, ◌*◌, ◌/◌, eqb, leb, ltb, length, get_or, set, Float}
use Rattle.base_lists.specs.Pick.{pick}
use Rattle.kurbo_geometry.specs.declared.Rect.{Rect}
use Rattle.base_rect_words.specs.Words.{put_rect}
use Rattle.kurbo_affine.specs.declared.Affine.{Affine}
use Rattle.kurbo_affine.specs.Affines.{transform_rect_bbox}
use Rattle.display_list_clips.specs.Chains.{below_at, clip_rect, put_clip}
use Rattle.display_list.specs.declared.ListState.{ListState}

-- ---- clips: eight words of boxes and one number each
-- room for one more after n, on top of number x; the last two are the lengths of the space
unfoldable pub clip_room : ℕ → ℕ → ℕ → ℕ → Bool
clip_room n x boxes numbers = leb x n && ltb n numbers && ltb n (boxes / 8)

abbrev pub pushed_clip : ListState → ListState
pushed_clip d = record { clips = d.clips + 1; top = d.clips + 1; depth = d.depth + 1; commands = d.commands }

unfoldable pub clip_boxes : ListState → List Float → List ℕ → Rect → List Float
clip_boxes d bs ns b = pick (clip_room d.clips d.top (length bs) (length ns)) (put_clip bs d.clips d.top b) bs

unfoldable pub clip_numbers : ListState → List Float → List ℕ → List ℕ
clip_numbers d bs ns = pick (clip_room d.clips d.top (length bs) (length ns)) (set ns d.clips d.top) ns

-- where no clip is open nothing is closed; a strip with such a POP is refused (number 5)
unfoldable pub popped_clip : ListState → List ℕ → ListState
popped_clip d ns =
    pick (eqb d.depth 0) d (record { clips = d.clips; top = pick (eqb d.top 0) 0 (below_at ns d.top); depth = d.depth - 1; commands = d.commands })

-- a box cut by the open clips, where the space holds them: "intersected with the active clip box where a clip is open"
unfoldable pub open_rect : ListState → List Float → Rect → Rect
open_rect d bs b = pick (leb d.top (length bs / 8)) (clip_rect bs d.top b) b

-- a glyph's "transformed, clipped" box under the clips up to number x
unfoldable pub window_glyph_bounds : List Float → ℕ → Affine → Rect → Rect
window_glyph_bounds bs x t b = clip_rect bs x (transform_rect_bbox t b)

-- ---- commands: where the bytes begin and the clip number, two words; the box, four words
unfoldable pub command_room : ℕ → ℕ → ℕ → Bool
command_room m items boxes = ltb m (items / 2) && ltb m (boxes / 4)

abbrev pub pushed : ListState → ListState
pushed d = record { clips = d.clips; top = d.top; depth = d.depth; commands = d.commands + 1 }

unfoldable pub put_item : List ℕ → ℕ → ℕ → ℕ → List ℕ
put_item is m offset x = set (set is (2 * m) offset) (2 * m + 1) x

unfoldable pub item_words : ListState → List ℕ → List Float → ℕ → List ℕ
item_words d is bs offset = pick (command_room d.commands (length is) (length bs)) (put_item is d.commands offset d.top) is

unfoldable pub item_boxes : ListState → List ℕ → List Float → Rect → List Float
item_boxes d is bs b = pick (command_room d.commands (length is) (length bs)) (put_rect bs (4 * d.commands) b) bs

-- the command at place i, from 0
abbrev pub offset_at : List ℕ → ℕ → ℕ
offset_at is i = get_or is (2 * i) 0

abbrev pub clip_number_at : List ℕ → ℕ → ℕ
clip_number_at is i = get_or is (2 * i + 1) 0
