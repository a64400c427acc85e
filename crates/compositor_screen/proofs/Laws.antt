-- What sizes are that fit. Assumes nothing.
use Rattle.std.proofs.Common.{◌≡◌, ℕ, ◌+◌, ◌-◌, ◌/◌, ◌<◌, ◌≤◌, Bool, true, false, ◌&&◌, eqb, leb, refl, ap, ◌∙◌, arith, leb-true}
use native.Mathlib.Nat.{add-div_right, div-le_self}
use borrow.Author.Tests.{eqb-false, ne_eqb, le-leb}
use mathlib.Core.Bool.{false≢true}
use Rattle.base_lists.specs.Pick.{pick}
use Rattle.compositor_rows.specs.Rows.{row_count}
use Rattle.std.proofs.lemmas.Bool.{and_parts}
use Rattle.compositor_screen.specs.declared.Screen.{Screen}
use Rattle.compositor_screen.specs.Sizes.{size_fits, fits}

pub size_limits : (n : ℕ) → size_fits n ≡ true → (0 < n) × (n ≤ 32768)
unfolding size_fits
size_limits n e = go (eqb n 0) refl e
  where
    go : (t : Bool) → eqb n 0 ≡ t → pick t false (leb n 32768) ≡ true → (0 < n) × (n ≤ 32768)
    go true q e = absurd (false≢true e)
    go false q e = let z = eqb-false n 0 q in (omega (arith, z), leb-true n 32768 e)

pub size_from : (n : ℕ) → 0 < n → n ≤ 32768 → size_fits n ≡ true
unfolding size_fits
size_from n s l = simp (ne_eqb n 0 (λ e. omega arith), le-leb n 32768 l)

-- a screen whose sizes are from 1 to 32,768
pub record Fits (s : Screen) : Type 0 where
  pub some_width : 0 < s.width
  pub width_most : s.width ≤ 32768
  pub some_height : 0 < s.height
  pub height_most : s.height ≤ 32768
  pub some_band : 0 < s.band_height
  pub band_most : s.band_height ≤ 32768

pub sizes_of : (s : Screen) → fits s ≡ true → Fits s
sizes_of s e =
    let t = and_parts (size_fits s.width) (size_fits s.height && size_fits s.band_height) e in
    let u = and_parts (size_fits s.height) (size_fits s.band_height) t.1 in
    let a = size_limits s.width t.0 in
    let b = size_limits s.height u.0 in
    let c = size_limits s.band_height u.1 in
    record { some_width = a.0; width_most = a.1; some_height = b.0; height_most = b.1; some_band = c.0; band_most = c.1 }

-- a screen has as many rows as a size allows
pub rows_size : (s : Screen) → fits s ≡ true → size_fits (row_count s.height s.band_height) ≡ true
rows_size s e =
    let f = sizes_of s e in
    let h = s.height in
    let b = s.band_height in
    let z : h + (b - 1) ≡ h - 1 + b = omega (arith, f.some_height, f.some_band) in
    let k : (h + (b - 1)) / b ≡ (h - 1) / b + 1 = ap (λ (n : ℕ). n / b) z ∙ add-div_right (h - 1) f.some_band in
    size_from (row_count h b) (omega (arith, k)) (omega (arith, k, f.some_height, f.height_most, div-le_self (h - 1) b))
