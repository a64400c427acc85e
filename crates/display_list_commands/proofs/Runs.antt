-- The union of a run's glyph boxes, glyph by glyph, and the local box that code finds with it. Assumes nothing.
use mathlib.Core.Path.{◌≡◌, refl, ap, ◌∙◌}
use mathlib.Core.List.{List, [], ◌∷◌, ◌++◌}
use Prim.Native.Nat.{ℕ, ◌<◌}
use native.Mathlib.Omega.{arith}
use lib.Dec.{eqb}
use lib.ListN.{length}
use borrow.Author.Tests.{eq-eqb, ne_eqb}
use Rattle.base_lists.specs.Pick.{pick}
use Rattle.kurbo_geometry.specs.declared.Rect.{Rect}
use Rattle.kurbo_geometry.specs.Boxes.{union}
use Rattle.kurbo_affine.specs.Affines.{try_transform}
use Rattle.display_list_commands.specs.declared.Glyph.{Glyph}
use Rattle.display_list_commands.specs.declared.DrawCommand.{DrawCommand}
use Rattle.display_list_commands.specs.declared.DrawCommand.TheVariants.{FillPath, StrokePath, GlyphRun, Scene}
use Rattle.display_list_commands.specs.Bounds.{transform_of, glyph_count, united_from, united, local_bounds, local_with, try_with}

from_last : (b : Rect) (gs : List Glyph) (g : Glyph) → united_from b (gs ++ (g ∷ [])) ≡ union (united_from b gs) g.bounds
unfolding united_from
from_last b [] g = refl
from_last b (h ∷ gs) g = from_last (union b h.bounds) gs g

-- the first glyph's box, and each later one united with what there is
pub united_first : (own : Rect) (g : Glyph) → united own (g ∷ []) ≡ g.bounds
unfolding united_from
united_first own g = refl

pub united_last : (own : Rect) (gs : List Glyph) (g : Glyph) → 0 < length gs → united own (gs ++ (g ∷ [])) ≡ union (united own gs) g.bounds
united_last own [] g h = absurd (omega arith)
united_last own (k ∷ gs) g h = from_last k.bounds gs g

-- which box is a run's own does not matter where there are glyphs
pub united_any : (b c : Rect) (gs : List Glyph) → 0 < length gs → united b gs ≡ united c gs
united_any b c [] h = absurd (omega arith)
united_any b c (g ∷ gs) h = refl

-- code has the local box of a command whose glyphs are as many as it says, given their union
run_box : (n : ℕ) (own u : Rect) (gs : List Glyph) → n ≡ length gs → (0 < length gs → u ≡ united own gs) → pick (eqb n 0) own u ≡ united own gs
run_box n own u [] e f = let z : n ≡ 0 = e in rw (eq-eqb n 0 z)
run_box n own u (g ∷ gs) e f = let z : n ≡ 0 → ⊥ = λ k. omega arith in rw (ne_eqb n 0 z) (f (omega arith))

pub local_is : (d : DrawCommand) (u own : Rect) (gs : List Glyph) → glyph_count d ≡ length gs → (0 < length gs → u ≡ united own gs) → local_with d u ≡ local_bounds d gs
local_is (FillPath path b t brush) u own gs e f = refl
local_is (StrokePath path b t stroke brush) u own gs e f = refl
local_is (GlyphRun font size t brush b n) u own gs e f = run_box n b u gs e (λ h. f h ∙ united_any own b gs h)
local_is (Scene content generation target t b) u own gs e f = refl

-- so number 9 is decided by the box of the command with its glyphs
pub try_is_local : (d : DrawCommand) (u own : Rect) (gs : List Glyph) → glyph_count d ≡ length gs → (0 < length gs → u ≡ united own gs) → try_with d u ≡ try_transform (transform_of d) (local_bounds d gs)
try_is_local d u own gs e f = ap (try_transform (transform_of d)) (local_is d u own gs e f)
