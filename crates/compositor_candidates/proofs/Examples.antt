-- Rows of document 01's 402-byte example, and refusals, by computing. Assumes nothing.
use mathlib.Core.Path.{◌≡◌, refl}
use mathlib.Core.List.{List, [], ◌∷◌}
use Prim.Native.Nat.{ℕ}
use Rattle.compositor_screen.specs.Sizes.{size_fits, screen}
use Rattle.compositor_candidates.specs.Table.{bad_row, find_row, find, candidates, refusal}

-- 40 by 40 in bands of 16, the rows 0 1, then 0, then none
abbrev words : List ℕ
words = 0 ∷ 2 ∷ 3 ∷ 3 ∷ 0 ∷ 1 ∷ 0 ∷ []

-- "region 10 14 7 2 draw 0 1", "region 10 16 7 2 draw 0"
pub draws : (candidates (screen 40 40 16) 14 words ≡ 0 ∷ 1 ∷ []) × (candidates (screen 40 40 16) 16 words ≡ 0 ∷ [])
unfolding find find_row bad_row size_fits
draws = (refl, refl)

-- a y past the screen, in the last band and behind it
pub below : (refusal (screen 40 40 16) 47 words ≡ 0) × (refusal (screen 40 40 16) 48 words ≡ 11) × (candidates (screen 40 40 16) 48 words ≡ [])
unfolding find find_row bad_row size_fits
below = (refl, refl, refl)

-- 1 before 11, and the largest sizes
pub sizes : (refusal (screen 40 40 0) 0 [] ≡ 1) × (refusal (screen 32769 40 16) 0 words ≡ 1) × (refusal (screen 32768 32768 32768) 0 (0 ∷ 0 ∷ []) ≡ 0)
unfolding find find_row bad_row size_fits
sizes = (refl, refl, refl)

-- words without all the starts, starts that fall, starts that pass the entries
pub broken : (refusal (screen 40 40 16) 0 (0 ∷ 0 ∷ 0 ∷ []) ≡ 11) × (refusal (screen 40 40 16) 0 (1 ∷ 0 ∷ 1 ∷ 1 ∷ 0 ∷ []) ≡ 11) × (refusal (screen 40 40 16) 0 (0 ∷ 2 ∷ 2 ∷ 2 ∷ 0 ∷ []) ≡ 11)
unfolding find find_row bad_row size_fits
broken = (refl, refl, refl)
