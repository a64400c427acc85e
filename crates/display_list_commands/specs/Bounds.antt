-- A command with its glyphs and open clips, and its box. To believe: document 01's "Active clip box .. RUN takes the union of its glyph boxes, or
-- its own box without glyphs." A list of commands, in every definition above, is a list of these.
use Rattle.std.specs.Prelude.{List, [], ◌∷◌, ℕ, eqb, Option}
use Rattle.std.specs.Float.{nan}
use Rattle.base_lists.specs.Pick.{pick}
use Rattle.kurbo_geometry.specs.declared.Rect.{Rect}
use Rattle.kurbo_geometry.specs.Boxes.{intersect, union, inflate}
use Rattle.kurbo_affine.specs.declared.Affine.{Affine}
use Rattle.kurbo_affine.specs.Affines.{transform_rect_bbox, try_transform}
use Rattle.display_list_commands.specs.declared.Glyph.{Glyph}
use Rattle.display_list_commands.specs.declared.DrawCommand.{DrawCommand}
use Rattle.display_list_commands.specs.declared.DrawCommand.TheVariants.{FillPath, StrokePath, GlyphRun, Scene}
use Rattle.display_list_commands.specs.declared.Stroke.{Stroke}
use Rattle.display_list_commands.specs.Strokes.{stroke_bounds_inflation}

-- a drawing command with its operands, its glyphs (none but for a run) and the clip boxes that are open, oldest first
pub record Command : Type 0 where
  pub draw : DrawCommand
  pub glyphs : List Glyph
  pub clips : List Rect

abbrev pub transform_of : DrawCommand → Affine
transform_of (FillPath path b t brush) = t
transform_of (StrokePath path b t stroke brush) = t
transform_of (GlyphRun font size t brush b n) = t
transform_of (Scene content generation target t b) = t

-- how many glyphs the command says that it has
abbrev pub glyph_count : DrawCommand → ℕ
glyph_count (FillPath path b t brush) = 0
glyph_count (StrokePath path b t stroke brush) = 0
glyph_count (GlyphRun font size t brush b n) = n
glyph_count (Scene content generation target t b) = 0

-- ---- the box before the transform
-- a box, and the boxes of glyphs united with it in order, edge by edge as they are given
unfoldable pub united_from : Rect → List Glyph → Rect
united_from b [] = b
united_from b (g ∷ gs) = united_from (union b g.bounds) gs

-- "RUN takes the union of its glyph boxes, or its own box without glyphs."
abbrev pub united : Rect → List Glyph → Rect
united own [] = own
united own (g ∷ gs) = united_from g.bounds gs

-- "STROKE first inflates it", by as much to each side as its operands say
abbrev pub stroke_bounds : Rect → Stroke → Rect
stroke_bounds b stroke = inflate b (stroke_bounds_inflation stroke) (stroke_bounds_inflation stroke)

-- "FILL and SCENE transform their box."
abbrev pub local_bounds : DrawCommand → List Glyph → Rect
local_bounds (FillPath path b t brush) gs = b
local_bounds (StrokePath path b t stroke brush) gs = stroke_bounds b stroke
local_bounds (GlyphRun font size t brush b n) gs = united b gs
local_bounds (Scene content generation target t b) gs = b

-- the same, where the union of the glyph boxes is at hand in place of the glyphs, as it is in code
abbrev pub local_with : DrawCommand → Rect → Rect
local_with (FillPath path b t brush) u = b
local_with (StrokePath path b t stroke brush) u = stroke_bounds b stroke
local_with (GlyphRun font size t brush b n) u = pick (eqb n 0) b u
local_with (Scene content generation target t b) u = b

-- number 9's case: `NotFinite` where a transformed corner of that box is not finite
abbrev pub try_with : DrawCommand → Rect → Option Rect
try_with d u = try_transform (transform_of d) (local_with d u)

-- ---- the box after it
-- "Active clip box: the open boxes intersected from the oldest on": a first box, and the younger ones
unfoldable pub clip_from : Rect → List Rect → Rect
clip_from b [] = b
clip_from b (c ∷ cs) = clip_from (intersect b c) cs

-- the active clip box; one box is itself, reversed or not. Where no clip is open there is none, and this is asked of no such list.
abbrev pub clip_box : List Rect → Rect
clip_box [] = record { x0 = nan; y0 = nan; x1 = nan; y1 = nan }
clip_box (c ∷ cs) = clip_from c cs

-- "intersected with the active clip box where a clip is open"
abbrev pub clipped : List Rect → Rect → Rect
clipped [] b = b
clipped (c ∷ cs) b = intersect b (clip_box (c ∷ cs))

-- "Command box: the transformed box, intersected with the active clip box where a clip is open."
unfoldable pub bounds : Command → Rect
bounds c = clipped c.clips (transform_rect_bbox (transform_of c.draw) (local_bounds c.draw c.glyphs))

-- one of the "transformed, clipped glyph boxes" of the command
unfoldable pub glyph_bounds : Command → Glyph → Rect
glyph_bounds c g = clipped c.clips (transform_rect_bbox (transform_of c.draw) g.bounds)
