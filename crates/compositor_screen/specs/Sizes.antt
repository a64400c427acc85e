-- The sizes of a screen and of its bands.
use Rattle.std.specs.Prelude.{Bool, false, ◌&&◌, ℕ, leb, eqb}
use Rattle.base_lists.specs.Pick.{pick}
use Rattle.compositor_screen.specs.declared.Screen.{Screen}

-- 1: a size "is 0 or above 32,768"
unfoldable pub size_fits : ℕ → Bool
size_fits n = pick (eqb n 0) false (leb n 32768)

abbrev pub screen : ℕ → ℕ → ℕ → Screen
screen width height band_height = record { width = width; height = height; band_height = band_height }

-- none of the three is
abbrev pub fits : Screen → Bool
fits s = size_fits s.width && (size_fits s.height && size_fits s.band_height)
