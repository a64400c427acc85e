-- Two rows of bytes, one with the first n bytes of the other from byte `by` on: boxes, affines, strokes and glyphs within those bytes are the same. Assumes nothing.
use mathlib.Core.Path.{◌≡◌, refl, sym, ◌∙◌}
use mathlib.Core.List.{List, ◌∷◌}
use Prim.Native.Nat.{ℕ, zero, suc, ◌+◌, ◌*◌, ◌≤◌, ◌<◌}
use native.Mathlib.Omega.{arith}
use lib.ListN.{get_or}
use Rattle.base_little_endian.proofs.Alike.{u32_same, u64_same, f32_same, f64_same}
use Rattle.base_little_endian.specs.Same.{SameBytes}
use Rattle.base_little_endian.proofs.Parts.{part, part_same, part_twice}
use Rattle.strip_format.specs.Format.{rect_at, affine_at, join_of, cap_of, stroke_at, glyph_at, glyphs_from}

module _ (s r : List ℕ) (by n : ℕ) (same : (i j : ℕ) → j ≡ by + i → i < n → get_or s i 0 ≡ get_or r j 0) where
  pub rect_same : (at to : ℕ) → to ≡ by + at → at + 32 ≤ n → rect_at s at ≡ rect_at r to
  rect_same at to v h =
      let a = f64_same s r by n same at to v (omega arith) in
      let b = f64_same s r by n same (at + 8) (to + 8) (omega arith) (omega arith) in
      let c = f64_same s r by n same (at + 16) (to + 16) (omega arith) (omega arith) in
      let d = f64_same s r by n same (at + 24) (to + 24) (omega arith) (omega arith) in
      λ i. record { x0 = a i; y0 = b i; x1 = c i; y1 = d i }

  pub affine_same : (at to : ℕ) → to ≡ by + at → at + 48 ≤ n → affine_at s at ≡ affine_at r to
  affine_same at to v h =
      let a = f64_same s r by n same at to v (omega arith) in
      let b = f64_same s r by n same (at + 8) (to + 8) (omega arith) (omega arith) in
      let c = f64_same s r by n same (at + 16) (to + 16) (omega arith) (omega arith) in
      let d = f64_same s r by n same (at + 24) (to + 24) (omega arith) (omega arith) in
      let e = f64_same s r by n same (at + 32) (to + 32) (omega arith) (omega arith) in
      let f = f64_same s r by n same (at + 40) (to + 40) (omega arith) (omega arith) in
      λ i. record { a = a i; b = b i; c = c i; d = d i; e = e i; f = f i }

  pub stroke_same : (at to : ℕ) → to ≡ by + at → at + 27 ≤ n → stroke_at s at ≡ stroke_at r to
  stroke_same at to v h =
      let w = f64_same s r by n same at to v (omega arith) in
      let j = same (at + 8) (to + 8) (omega arith) (omega arith) in
      let l = f64_same s r by n same (at + 9) (to + 9) (omega arith) (omega arith) in
      let p = same (at + 17) (to + 17) (omega arith) (omega arith) in
      let q = same (at + 18) (to + 18) (omega arith) (omega arith) in
      let d = u64_same s r by n same (at + 19) (to + 19) (omega arith) (omega arith) in
      λ i. record { width = w i; join = join_of (j i); miter_limit = l i; start_cap = cap_of (p i); end_cap = cap_of (q i); dash = d i }

  pub glyph_same_at : (at to : ℕ) → to ≡ by + at → at + 45 ≤ n → glyph_at s at ≡ glyph_at r to
  glyph_same_at at to v h =
      let d = u32_same s r by n same (at + 1) (to + 1) (omega arith) (omega arith) in
      let x = f32_same s r by n same (at + 5) (to + 5) (omega arith) (omega arith) in
      let y = f32_same s r by n same (at + 9) (to + 9) (omega arith) (omega arith) in
      let b = rect_same (at + 13) (to + 13) (omega arith) (omega arith) in
      λ i. record { id = d i; x = x i; y = y i; bounds = b i }

  pub glyphs_same : (m at to : ℕ) → to ≡ by + at → at + 45 * m ≤ n → glyphs_from s at m ≡ glyphs_from r to m
  unfolding glyphs_from
  glyphs_same zero at to v h = refl
  glyphs_same (suc m) at to v h = λ i. glyph_same_at at to v (omega arith) i ∷ glyphs_same m (at + 45) (to + 45) (omega arith) (omega arith) i

-- in bytes that stand twice
module _ (s : List ℕ) (p q n : ℕ) (w : SameBytes s p q n) where
  pub glyph_twice : 45 ≤ n → glyph_at s p ≡ glyph_at s q
  glyph_twice h =
      sym (glyph_same_at (part s p n) s p n (part_same s p n) 0 p (omega arith) (omega arith))
      ∙ glyph_same_at (part s p n) s q n (part_twice s p q n w) 0 q (omega arith) (omega arith)

  pub glyphs_twice : (k m : ℕ) → k + 45 * m ≤ n → glyphs_from s (p + k) m ≡ glyphs_from s (q + k) m
  glyphs_twice k m h =
      sym (glyphs_same (part s p n) s p n (part_same s p n) m k (p + k) refl h)
      ∙ glyphs_same (part s p n) s q n (part_twice s p q n w) m k (q + k) refl h
