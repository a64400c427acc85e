-- Boxes, strokes and glyphs past the end: every number is 0. Assumes nothing.
use mathlib.Core.Path.{◌≡◌}
use mathlib.Core.List.{List}
use Prim.Native.Nat.{ℕ, ◌+◌, ◌≤◌}
use native.Mathlib.Omega.{arith}
use lib.Ieee.{Float, binary32, binary64, of_bits}
use lib.ListN.{length, get_or}
use Rattle.kurbo_geometry.specs.declared.Rect.{Rect}
use Rattle.display_list_commands.specs.declared.Join.TheVariants.{Bevel}
use Rattle.display_list_commands.specs.declared.Cap.TheVariants.{Butt}
use Rattle.base_little_endian.specs.Words.{u32_at, u64_at, f32_at, f64_at}
use Rattle.base_little_endian.proofs.Past.{byte_past, u32_past, u64_past, f32_past, f64_past}
use Rattle.strip_format.specs.Format.{rect_at, stroke_at, join_of, cap_of, glyph_at}

abbrev z : Float
z = of_bits binary64 0

module _ (s : List ℕ) (at : ℕ) (p : length s ≤ at) where
  pub rect_past : rect_at s at ≡ record { x0 = z; y0 = z; x1 = z; y1 = z }
  rect_past =
      let x0 : f64_at s at ≡ z = f64_past s at p in
      let y0 : f64_at s (at + 8) ≡ z = f64_past s (at + 8) (omega arith) in
      let x1 : f64_at s (at + 16) ≡ z = f64_past s (at + 16) (omega arith) in
      let y1 : f64_at s (at + 24) ≡ z = f64_past s (at + 24) (omega arith) in
      cc

  pub stroke_past : stroke_at s at ≡ record { width = z; join = Bevel; miter_limit = z; start_cap = Butt; end_cap = Butt; dash = 0 }
  unfolding join_of cap_of
  stroke_past =
      let width : f64_at s at ≡ z = f64_past s at p in
      let join : get_or s (at + 8) 0 ≡ 0 = byte_past s (at + 8) (omega arith) in
      let limit : f64_at s (at + 9) ≡ z = f64_past s (at + 9) (omega arith) in
      let start : get_or s (at + 17) 0 ≡ 0 = byte_past s (at + 17) (omega arith) in
      let end : get_or s (at + 18) 0 ≡ 0 = byte_past s (at + 18) (omega arith) in
      let dash : u64_at s (at + 19) ≡ 0 = u64_past s (at + 19) (omega arith) in
      rw (width, join, limit, start, end, dash)

-- whatever box a glyph past the end is given, as long as it is read past the end too
pub glyph_past : (s : List ℕ) (at : ℕ) → length s ≤ at → (bounds : Rect) → bounds ≡ rect_at s at → record { id = 0; x = of_bits binary32 0; y = of_bits binary32 0; bounds = bounds } ≡ glyph_at s at
glyph_past s at p bounds same =
    let id : u32_at s (at + 1) ≡ 0 = u32_past s (at + 1) (omega arith) in
    let x : f32_at s (at + 5) ≡ of_bits binary32 0 = f32_past s (at + 5) (omega arith) in
    let y : f32_at s (at + 9) ≡ of_bits binary32 0 = f32_past s (at + 9) (omega arith) in
    let here : rect_at s at ≡ record { x0 = z; y0 = z; x1 = z; y1 = z } = rect_past s at p in
    let there : rect_at s (at + 13) ≡ record { x0 = z; y0 = z; x1 = z; y1 = z } = rect_past s (at + 13) (omega arith) in
    cc
