-- Commands whose floats are finite are equal to themselves. Assumes nothing.
use mathlib.Core.Path.{◌≡◌}
use mathlib.Core.Bool.{true}
use lib.Dec.{T}
use lib.Ieee.Scale.{finite}
use Rattle.std.proofs.lemmas.Bool.{and_from}
use Rattle.display_list_commands.specs.declared.DrawCommand.{DrawCommand}
use Rattle.display_list_commands.specs.declared.DrawCommand.TheVariants.{FillPath, StrokePath, GlyphRun, Scene}
use Rattle.display_list_commands.proofs.Finite.{Number}
use Rattle.display_list_commands.proofs.Values.{DrawFloats}
use Rattle.display_list_operand_equality.proofs.Selves.{number_self, float_self, edges_self, affine_self, stroke_self, path_self}
use Rattle.display_list_equality.specs.Drawings.{same_fill, same_stroked, same_run, same_scene, same_drawing}

-- a run's size is a float that no box is made of
abbrev pub SizeFinite : DrawCommand → Type 0
SizeFinite (FillPath path b t brush) = Unit {0}
SizeFinite (StrokePath path b t stroke brush) = Unit {0}
SizeFinite (GlyphRun font size t brush b n) = T (finite size)
SizeFinite (Scene content generation target t b) = Unit {0}

pub drawing_self : (c : DrawCommand) → DrawFloats Number c → SizeFinite c → same_drawing c c ≡ true
unfolding same_drawing same_fill same_stroked same_run same_scene
drawing_self (FillPath n b t k) p z = path_self n b t k p.0 p.1
drawing_self (StrokePath n b t s k) p z = and_from _ _ (path_self n b t k p.0 p.1) (stroke_self s p.2 p.3)
drawing_self (GlyphRun f x t k b n) p z = rw (number_self f, float_self x z, affine_self t p.1, number_self k, edges_self b p.0)
drawing_self (Scene x g y t b) p z = rw (number_self x, number_self g, number_self y, affine_self t p.1, edges_self b p.0)
