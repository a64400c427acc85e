-- Runs that are alike give glyphs that are the same the same key, by value. Assumes nothing.
use mathlib.Core.Path.{◌≡◌, refl}
use mathlib.Core.Bool.{Bool, true, ◌&&◌}
use lib.Dec.{T, eqb}
use lib.Ieee.{binary32, eq, to_bits}
use lib.Ieee.Fits.{and_l, and_r, and_i}
use Rattle.display_list_commands.specs.declared.Glyph.{Glyph}
use Rattle.display_list_commands.specs.declared.DrawCommand.{DrawCommand}
use Rattle.display_list_commands.specs.declared.DrawCommand.TheVariants.{FillPath, StrokePath, GlyphRun, Scene}
use Rattle.display_list_commands.specs.Bounds.{Command, transform_of}
use Rattle.display_list_operand_equality.specs.Operands.{same_affine, same_bits, same_glyph, same_clips}
use Rattle.display_list_equality.specs.Drawings.{run_alike, runs_alike, runs_alike_clipped}
use Rattle.panels_painting.specs.Painters.{is_run, font_of, brush_of, Key, key_of, same_key}
use Rattle.display_list_commands.specs.Sizes.{size_of}

-- ---- a key's parts
pub record KeyParts (j k : Key) : Type 0 where
  pub font : T (eqb j.font k.font)
  pub size : T (eq j.size k.size)
  pub transform : T (same_affine j.transform k.transform)
  pub brush : T (eqb j.brush k.brush)
  pub clips : T (same_clips j.clips k.clips)
  pub id : T (eqb j.id k.id)
  pub x : T (eq j.x k.x)
  pub y : T (eq j.y k.y)

pub key_parts : (j k : Key) → T (same_key j k) → KeyParts j k
unfolding same_key
key_parts j k e =
    let N = eqb j.font k.font in
    let Z = eq j.size k.size in
    let A = same_affine j.transform k.transform in
    let B = eqb j.brush k.brush in
    let K = same_clips j.clips k.clips in
    let I = eqb j.id k.id in
    let X = eq j.x k.x in
    let Y = eq j.y k.y in
    let run = and_l (N && Z && (A && B) && K) (I && (X && Y)) e in
    let glyph = and_r (N && Z && (A && B) && K) (I && (X && Y)) e in
    let ink = and_l (N && Z && (A && B)) K run in
    let face = and_l (N && Z) (A && B) ink in
    let look = and_r (N && Z) (A && B) ink in
    let place = and_r I (X && Y) glyph in
    record { font = and_l N Z face; size = and_r N Z face; transform = and_l A B look; brush = and_r A B look; clips = and_r (N && Z && (A && B)) K run; id = and_l I (X && Y) glyph; x = and_l X Y place; y = and_r X Y place }

-- ---- keys of runs
-- what a key has of its run, but for the clip
abbrev pub same_ink : DrawCommand → DrawCommand → Bool
same_ink c d = (eqb (font_of c) (font_of d) && eq (size_of c) (size_of d)) && (same_affine (transform_of c) (transform_of d) && eqb (brush_of c) (brush_of d))

record Runs (c d : DrawCommand) : Type 0 where
  old_run : is_run c ≡ true
  new_run : is_run d ≡ true
  ink : T (same_ink c d)

runs_alike_lem : (c d : DrawCommand) → T (runs_alike c d) → Runs c d
unfolding runs_alike run_alike same_bits
runs_alike_lem (GlyphRun font size t brush b n) (GlyphRun font' size' t' brush' b' n') e =
    let F = eqb font font' in
    let E = eq size size' in
    let Z = eqb (to_bits binary32 size) (to_bits binary32 size') in
    let A = same_affine t t' && eqb brush brush' in
    let h = and_l (F && (E && Z)) A e in
    record { old_run = refl; new_run = refl; ink = and_i (F && E) A (and_i F E (and_l F (E && Z) h) (and_l E Z (and_r F (E && Z) h))) (and_r (F && (E && Z)) A e) }
runs_alike_lem (GlyphRun font size t brush b n) (FillPath path' b' t' brush') e = absurd e
runs_alike_lem (GlyphRun font size t brush b n) (StrokePath path' b' t' stroke' brush') e = absurd e
runs_alike_lem (GlyphRun font size t brush b n) (Scene content' generation' target' t' b') e = absurd e
runs_alike_lem (FillPath path b t brush) d e = absurd e
runs_alike_lem (StrokePath path b t stroke brush) d e = absurd e
runs_alike_lem (Scene content generation target t b) d e = absurd e

-- the same key, from what it has of the run, of the clips and of the glyph
pub key_of_parts : (c d : Command) (g h : Glyph) → T (same_ink c.draw d.draw) → T (same_clips c.clips d.clips) → T (same_glyph g h) → T (same_key (key_of c g) (key_of d h))
unfolding same_key same_glyph
key_of_parts c d g h i k s =
    let I = same_ink c.draw d.draw in
    let K = same_clips c.clips d.clips in
    and_i (I && K) (same_glyph g h) (and_i I K i k) s

module _ (c d : Command) (e : T (runs_alike_clipped c d)) where
  drawings : Runs c.draw d.draw
  unfolding runs_alike_clipped
  drawings = runs_alike_lem c.draw d.draw (and_l (runs_alike c.draw d.draw) (same_clips c.clips d.clips) e)

  -- both are runs
  pub old_run : is_run c.draw ≡ true
  old_run = drawings.old_run

  pub new_run : is_run d.draw ≡ true
  new_run = drawings.new_run

  pub same_key_lem : (g h : Glyph) → T (same_glyph g h) → T (same_key (key_of c g) (key_of d h))
  unfolding runs_alike_clipped
  same_key_lem g h s = key_of_parts c d g h drawings.ink (and_r (runs_alike c.draw d.draw) (same_clips c.clips d.clips) e) s
