-- Regions are functions of values: boxes that differ in the signs of zeros alone have the same regions. Assumes nothing.
use mathlib.Core.Path.{◌≡◌, refl}
use mathlib.Core.List.{List, [], ◌∷◌}
use Prim.Native.Nat.{ℕ}
use Rattle.base_lists.specs.Places.{ByPlace}
use Rattle.kurbo_geometry.specs.declared.Rect.{Rect}
use Rattle.kurbo_geometry.proofs.Values.{SameBoxes}
use Rattle.compositor_device.proofs.Values.{from_logical_same}
use Rattle.compositor_bands.specs.Bands.{unless_nothing, regions_of}

pub regions_same : (w h : ℕ) (l m : List Rect) → SameBoxes l m → regions_of w h l ≡ regions_of w h m
unfolding regions_of ByPlace
regions_same w h [] [] p = refl
regions_same w h [] (b ∷ m) p = absurd p
regions_same w h (a ∷ l) [] p = absurd p
regions_same w h (a ∷ l) (b ∷ m) p = λ i. unless_nothing (from_logical_same a b w h p.0 i) (regions_same w h l m p.1 i)
