-- Commands compared: when two are equal, and when two fills or two runs are alike.
use Rattle.std.specs.Prelude.{Bool, false, ◌&&◌, ℕ, eqb, Float}
use Rattle.std.specs.Float.Ieee.{eq}
use Rattle.kurbo_geometry.specs.declared.Rect.{Rect}
use Rattle.kurbo_geometry.specs.Boxes.{same_edges}
use Rattle.kurbo_affine.specs.declared.Affine.{Affine}
use Rattle.display_list_commands.specs.declared.Stroke.{Stroke}
use Rattle.display_list_commands.specs.declared.DrawCommand.{DrawCommand}
use Rattle.display_list_commands.specs.declared.DrawCommand.TheVariants.{FillPath, StrokePath, GlyphRun, Scene}
use Rattle.display_list_commands.specs.Bounds.{Command}
use Rattle.display_list_operand_equality.specs.Operands.{same_affine, same_stroke, same_bits, same_path, equal_glyphs, same_clips}

-- ---- the operands of a command of one kind, and another command
unfoldable pub same_fill : ℕ → Rect → Affine → ℕ → DrawCommand → Bool
same_fill path b t brush (FillPath path' b' t' brush') = same_path path b t brush path' b' t' brush'
same_fill path b t brush (StrokePath path' b' t' stroke' brush') = false
same_fill path b t brush (GlyphRun font' size' t' brush' b' n') = false
same_fill path b t brush (Scene content' generation' target' t' b') = false

unfoldable pub same_stroked : ℕ → Rect → Affine → Stroke → ℕ → DrawCommand → Bool
same_stroked path b t stroke brush (StrokePath path' b' t' stroke' brush') = same_path path b t brush path' b' t' brush' && same_stroke stroke stroke'
same_stroked path b t stroke brush (FillPath path' b' t' brush') = false
same_stroked path b t stroke brush (GlyphRun font' size' t' brush' b' n') = false
same_stroked path b t stroke brush (Scene content' generation' target' t' b') = false

-- how many glyphs there are is for their lists to tell
unfoldable pub same_run : ℕ → Float → Affine → ℕ → Rect → DrawCommand → Bool
same_run font size t brush b (GlyphRun font' size' t' brush' b' n') =
    (eqb font font' && eq size size') && (same_affine t t' && eqb brush brush') && same_edges b b'
same_run font size t brush b (FillPath path' b' t' brush') = false
same_run font size t brush b (StrokePath path' b' t' stroke' brush') = false
same_run font size t brush b (Scene content' generation' target' t' b') = false

unfoldable pub same_scene : ℕ → ℕ → ℕ → Affine → Rect → DrawCommand → Bool
same_scene content generation target t b (Scene content' generation' target' t' b') =
    (eqb content content' && eqb generation generation') && (eqb target target' && same_affine t t') && same_edges b b'
same_scene content generation target t b (FillPath path' b' t' brush') = false
same_scene content generation target t b (StrokePath path' b' t' stroke' brush') = false
same_scene content generation target t b (GlyphRun font' size' t' brush' b' n') = false

unfoldable pub run_alike : ℕ → Float → Affine → ℕ → DrawCommand → Bool
run_alike font size t brush (GlyphRun font' size' t' brush' b' n') = (eqb font font' && same_bits size size') && (same_affine t t' && eqb brush brush')
run_alike font size t brush (FillPath path' b' t' brush') = false
run_alike font size t brush (StrokePath path' b' t' stroke' brush') = false
run_alike font size t brush (Scene content' generation' target' t' b') = false

-- ---- two commands
unfoldable pub same_drawing : DrawCommand → DrawCommand → Bool
same_drawing (FillPath path b t brush) d = same_fill path b t brush d
same_drawing (StrokePath path b t stroke brush) d = same_stroked path b t stroke brush d
same_drawing (GlyphRun font size t brush b n) d = same_run font size t brush b d
same_drawing (Scene content generation target t b) d = same_scene content generation target t b d

-- "FILLs alike in path (its number and its box), affine and brush"
unfoldable pub fills_alike : DrawCommand → DrawCommand → Bool
fills_alike (FillPath path b t brush) d = same_fill path b t brush d
fills_alike (StrokePath path b t stroke brush) d = false
fills_alike (GlyphRun font size t brush b n) d = false
fills_alike (Scene content generation target t b) d = false

-- "RUNs alike in font, size bits, affine, brush and clip", but for the clip
unfoldable pub runs_alike : DrawCommand → DrawCommand → Bool
runs_alike (GlyphRun font size t brush b n) d = run_alike font size t brush d
runs_alike (FillPath path b t brush) d = false
runs_alike (StrokePath path b t stroke brush) d = false
runs_alike (Scene content generation target t b) d = false

-- ---- with glyphs and clips
-- "Equality follows `DrawCommand::eq`"
unfoldable pub equal : Command → Command → Bool
equal c d = same_drawing c.draw d.draw && equal_glyphs c.glyphs d.glyphs && same_clips c.clips d.clips

-- "RUNs alike in font, size bits, affine, brush and clip"
unfoldable pub runs_alike_clipped : Command → Command → Bool
runs_alike_clipped c d = runs_alike c.draw d.draw && same_clips c.clips d.clips
