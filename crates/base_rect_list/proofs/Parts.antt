-- Parts that were kept, as `flatten` gives them. Assumes nothing.
use mathlib.Core.Path.{◌≡◌, refl, ap}
use mathlib.Core.List.{List, [], ◌∷◌, ◌++◌}
use Prim.Native.Nat.{◌≤◌}
use native.Mathlib.Omega.{arith}
use lib.ListN.{length}
use Rattle.std.specs.Prelude.{Option, Some, None}
use Rattle.std.specs.List.{flat_map}
use Rattle.kurbo_geometry.specs.declared.Rect.{Rect}
use Rattle.display_list_differences.specs.Differences.{boxes_of, list_of}

pub flat_list : (ps : List (Option Rect)) → flat_map boxes_of ps ≡ list_of ps
flat_list [] = refl
flat_list (p ∷ ps) = ap (λ (l : List Rect). boxes_of p ++ l) (flat_list ps)

-- each part has one box at most
pub flat_most : (ps : List (Option Rect)) → length (flat_map boxes_of ps) ≤ length ps
flat_most [] = omega arith
flat_most (Some b ∷ ps) = omega (arith, flat_most ps)
flat_most (None ∷ ps) = omega (arith, flat_most ps)
