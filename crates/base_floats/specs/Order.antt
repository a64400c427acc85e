-- The larger and the smaller of two numbers, as document 01 uses the words of edges ("the larger x0", "the smaller x1").
use Rattle.std.specs.Prelude.{Float}
use Rattle.std.specs.Float.Ieee.{lt}
use Rattle.base_lists.specs.Pick.{pick}

-- Of two equal numbers the first: this fixes the sign of a zero, which document 01 leaves open.
unfoldable pub larger : Float → Float → Float
larger a b = pick (lt a b) b a

unfoldable pub smaller : Float → Float → Float
smaller a b = pick (lt b a) b a
