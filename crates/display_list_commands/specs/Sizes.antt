-- The size of a run, which alone is compared by its bits: "RUNs alike in font, size bits, affine, brush and clip".
use Rattle.std.specs.Prelude.{Float}
use Rattle.std.specs.Float.{binary32}
use Rattle.std.specs.Float.Ieee.{of_bits}
use Rattle.display_list_commands.specs.declared.DrawCommand.{DrawCommand}
use Rattle.display_list_commands.specs.declared.DrawCommand.TheVariants.{FillPath, StrokePath, GlyphRun, Scene}

-- no other command has a size, and 0 stands for it
abbrev pub size_of : DrawCommand → Float
size_of (FillPath path b t brush) = of_bits binary32 0
size_of (StrokePath path b t stroke brush) = of_bits binary32 0
size_of (GlyphRun font size t brush b n) = size
size_of (Scene content generation target t b) = of_bits binary32 0
