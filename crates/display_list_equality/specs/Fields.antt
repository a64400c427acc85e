-- The fields of a drawing command, as the strip's table has them: numbers by themselves and floats by themselves, but for a run's size (`size_of`).
use Rattle.std.specs.Prelude.{List, [], ◌∷◌, ◌++◌, ℕ, Float}
use Rattle.display_list_commands.specs.declared.DrawCommand.{DrawCommand}
use Rattle.display_list_commands.specs.declared.DrawCommand.TheVariants.{FillPath, StrokePath, GlyphRun, Scene}
use Rattle.display_list_operand_equality.specs.Fields.{edges_of, entries_of, stroke_numbers, stroke_floats}

-- the byte that says which command it is, and its content numbers, codes and generation; how many glyphs there are is for their list to tell
abbrev pub numbers_of : DrawCommand → List ℕ
numbers_of (FillPath path b t brush) = 3 ∷ path ∷ brush ∷ []
numbers_of (StrokePath path b t stroke brush) = 4 ∷ path ∷ brush ∷ stroke_numbers stroke
numbers_of (GlyphRun font size t brush b n) = 5 ∷ font ∷ brush ∷ []
numbers_of (Scene content generation target t b) = 7 ∷ content ∷ generation ∷ target ∷ []

-- box and affine, width and miter limit
abbrev pub floats_of : DrawCommand → List Float
floats_of (FillPath path b t brush) = edges_of b ++ entries_of t
floats_of (StrokePath path b t stroke brush) = edges_of b ++ entries_of t ++ stroke_floats stroke
floats_of (GlyphRun font size t brush b n) = entries_of t ++ edges_of b
floats_of (Scene content generation target t b) = entries_of t ++ edges_of b
