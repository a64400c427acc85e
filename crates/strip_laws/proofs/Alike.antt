-- Two inputs, one with the first n bytes of the other from byte k on: what is decoded within those bytes is the same. Assumes nothing.
use mathlib.Core.Path.{◌≡◌, refl, sym, ap, ◌∙◌}
use mathlib.Core.Bool.{Bool, true, false, ◌&&◌}
use mathlib.Core.List.{List}
use Prim.Native.Nat.{ℕ, zero, suc, ◌+◌, ◌*◌, ◌≤◌, ◌<◌}
use native.Mathlib.Omega.{arith}
use lib.Dec.{leb, eqb}
use lib.ListN.{length, get_or}
use lib.Ieee.{binary32, binary64, of_bits}
use lib.Ieee.Scale.{finite}
use borrow.Author.Tests.{le-leb, eqb-true}
use Rattle.std.specs.Prelude.{Err}
use Rattle.base_refusals.specs.declared.Fault.TheVariants.{UnknownCode}
use Rattle.base_lists.specs.Pick.{pick}
use Rattle.base_little_endian.specs.Same.{SameBytes}
use Rattle.base_little_endian.proofs.Parts.{part, part_same, part_length, part_twice}
use Rattle.base_little_endian.proofs.Alike.{u16_same, u32_same, u64_same, f32_same}
use Rattle.display_list_commands.specs.declared.DrawCommand.TheVariants.{FillPath, StrokePath, GlyphRun, Scene}
use Rattle.strip_format.specs.Format.{length_of, fill_at, stroke_path_at, run_at, scene_at, command_at}
use Rattle.strip_format.proofs.Alike.{rect_same, affine_same, stroke_same}
use Rattle.strip_format.proofs.Lengths.{length_pos, length_clip, length_fill, length_stroke, length_run, length_glyph, length_scene}
use Rattle.strip.proofs.Moves.{at_byte}
use Rattle.strip_operand_checks.specs.Operands.{finite_from, finite_f32, finite_stroke, finite_run, finite_glyph, codes_fit, floats_pass, operands_at}

pick_both : {A : Type 0} (t : Bool) (x y z w : A) → (t ≡ true → x ≡ z) → (t ≡ false → y ≡ w) → pick t x y ≡ pick t z w
pick_both true x y z w f g = f refl
pick_both false x y z w f g = g refl

module _ (s r : List ℕ) (by n : ℕ) (same : (i j : ℕ) → j ≡ by + i → i < n → get_or s i 0 ≡ get_or r j 0) where
  -- ---- commands
  fill_same : (at to : ℕ) → to ≡ by + at → at + 97 ≤ n → fill_at s at ≡ fill_at r to
  fill_same at to v h =
      let p = u64_same s r by n same (at + 1) (to + 1) (omega arith) (omega arith) in
      let b = rect_same s r by n same (at + 9) (to + 9) (omega arith) (omega arith) in
      let t = affine_same s r by n same (at + 41) (to + 41) (omega arith) (omega arith) in
      let k = u64_same s r by n same (at + 89) (to + 89) (omega arith) (omega arith) in
      λ i. FillPath (p i) (b i) (t i) (k i)

  stroke_path_same : (at to : ℕ) → to ≡ by + at → at + 124 ≤ n → stroke_path_at s at ≡ stroke_path_at r to
  stroke_path_same at to v h =
      let p = u64_same s r by n same (at + 1) (to + 1) (omega arith) (omega arith) in
      let b = rect_same s r by n same (at + 9) (to + 9) (omega arith) (omega arith) in
      let t = affine_same s r by n same (at + 41) (to + 41) (omega arith) (omega arith) in
      let z = stroke_same s r by n same (at + 97) (to + 97) (omega arith) (omega arith) in
      let k = u64_same s r by n same (at + 89) (to + 89) (omega arith) (omega arith) in
      λ i. StrokePath (p i) (b i) (t i) (z i) (k i)

  run_same : (at to : ℕ) → to ≡ by + at → at + 103 ≤ n → run_at s at ≡ run_at r to
  run_same at to v h =
      let f = u64_same s r by n same (at + 1) (to + 1) (omega arith) (omega arith) in
      let z = f32_same s r by n same (at + 9) (to + 9) (omega arith) (omega arith) in
      let t = affine_same s r by n same (at + 13) (to + 13) (omega arith) (omega arith) in
      let k = u64_same s r by n same (at + 61) (to + 61) (omega arith) (omega arith) in
      let b = rect_same s r by n same (at + 69) (to + 69) (omega arith) (omega arith) in
      let c = u16_same s r by n same (at + 101) (to + 101) (omega arith) (omega arith) in
      λ i. GlyphRun (f i) (z i) (t i) (k i) (b i) (c i)

  scene_same : (at to : ℕ) → to ≡ by + at → at + 105 ≤ n → scene_at s at ≡ scene_at r to
  scene_same at to v h =
      let c = u64_same s r by n same (at + 1) (to + 1) (omega arith) (omega arith) in
      let g = u64_same s r by n same (at + 9) (to + 9) (omega arith) (omega arith) in
      let k = u64_same s r by n same (at + 17) (to + 17) (omega arith) (omega arith) in
      let t = affine_same s r by n same (at + 25) (to + 25) (omega arith) (omega arith) in
      let b = rect_same s r by n same (at + 73) (to + 73) (omega arith) (omega arith) in
      λ i. Scene (c i) (g i) (k i) (t i) (b i)

  pub command_same : (at to : ℕ) → to ≡ by + at → at + length_of (get_or s at 0) ≤ n → n ≤ length s → by + n ≤ length r → command_at s at ≡ command_at r to
  unfolding command_at
  command_same at to v h p q =
      let b = get_or s at 0 in
      let e : get_or r to 0 ≡ b = sym (same at to v (omega (arith, length_pos b))) in
      let u : leb (at + length_of b) (length s) ≡ true = le-leb (at + length_of b) (length s) (omega arith) in
      let w : leb (to + length_of b) (length r) ≡ true = le-leb (to + length_of b) (length r) (omega arith) in
      rw (e, u, w)
      (pick_both (eqb b 3) _ _ _ _ (λ t. fill_same at to v (omega (arith, at_byte at n b 3 h (eqb-true b 3 t), length_fill)))
      λ t. pick_both (eqb b 4) _ _ _ _ (λ t. stroke_path_same at to v (omega (arith, at_byte at n b 4 h (eqb-true b 4 t), length_stroke)))
      λ t. pick_both (eqb b 5) _ _ _ _ (λ t. run_same at to v (omega (arith, at_byte at n b 5 h (eqb-true b 5 t), length_run)))
      λ t. pick_both (eqb b 7) _ _ _ _ (λ t. scene_same at to v (omega (arith, at_byte at n b 7 h (eqb-true b 7 t), length_scene))) (λ t. refl))

  -- ---- operands
  finite_same : (m at to : ℕ) → to ≡ by + at → at + 8 * m ≤ n → finite_from s at m ≡ finite_from r to m
  unfolding finite_from
  finite_same zero at to v h = refl
  finite_same (suc m) at to v h =
      let u = u64_same s r by n same at to v (omega arith) in
      let y = finite_same m (at + 8) (to + 8) (omega arith) (omega arith) in
      λ i. finite (of_bits binary64 (u i)) && y i

  single_same : (at to : ℕ) → to ≡ by + at → at + 4 ≤ n → finite_f32 s at ≡ finite_f32 r to
  single_same at to v h = ap (λ (z : ℕ). finite (of_bits binary32 z)) (u32_same s r by n same at to v h)

  pub operands_same : (at to b : ℕ) → to ≡ by + at → at + length_of b ≤ n → operands_at s at b ≡ operands_at r to b
  unfolding operands_at finite_stroke finite_run finite_glyph
  operands_same at to b v h =
      pick_both (eqb b 1) _ _ _ _ (λ t. let k = at_byte at n b 1 h (eqb-true b 1 t) in ap floats_pass (finite_same 4 (at + 1) (to + 1) (omega arith) (omega (arith, k, length_clip))))
      λ t. pick_both (eqb b 3) _ _ _ _ (λ t. let k = at_byte at n b 3 h (eqb-true b 3 t) in ap floats_pass (finite_same 10 (at + 9) (to + 9) (omega arith) (omega (arith, k, length_fill))))
      λ t. pick_both (eqb b 4) _ _ _ _ (λ t. let k : at + 124 ≤ n = omega (arith, at_byte at n b 4 h (eqb-true b 4 t), length_stroke) in
      let j = same (at + 105) (to + 105) (omega arith) (omega arith) in
      let p = same (at + 114) (to + 114) (omega arith) (omega arith) in
      let q = same (at + 115) (to + 115) (omega arith) (omega arith) in
      let u = finite_same 10 (at + 9) (to + 9) (omega arith) (omega arith) in
      let y = finite_same 1 (at + 97) (to + 97) (omega arith) (omega arith) in
      let w = finite_same 1 (at + 106) (to + 106) (omega arith) (omega arith) in
      λ i. pick (codes_fit (j i) (p i) (q i)) (floats_pass (u i && (y i && w i))) (Err UnknownCode))
      λ t. pick_both (eqb b 5) _ _ _ _ (λ t. let k : at + 103 ≤ n = omega (arith, at_byte at n b 5 h (eqb-true b 5 t), length_run) in
      let u = single_same (at + 9) (to + 9) (omega arith) (omega arith) in
      let y = finite_same 6 (at + 13) (to + 13) (omega arith) (omega arith) in
      let w = finite_same 4 (at + 69) (to + 69) (omega arith) (omega arith) in
      ap floats_pass (λ i. u i && (y i && w i)))
      λ t. pick_both (eqb b 6) _ _ _ _ (λ t. let k : at + 45 ≤ n = omega (arith, at_byte at n b 6 h (eqb-true b 6 t), length_glyph) in
      let u = single_same (at + 5) (to + 5) (omega arith) (omega arith) in
      let y = single_same (at + 9) (to + 9) (omega arith) (omega arith) in
      let w = finite_same 4 (at + 13) (to + 13) (omega arith) (omega arith) in
      ap floats_pass (λ i. u i && (y i && w i)))
      λ t. pick_both (eqb b 7) _ _ _ _ (λ t. let k = at_byte at n b 7 h (eqb-true b 7 t) in ap floats_pass (finite_same 10 (at + 25) (to + 25) (omega arith) (omega (arith, k, length_scene)))) (λ t. refl)

-- bytes that stand twice, and are a command's, are the same command
pub command_twice : (s : List ℕ) (p q n : ℕ) → SameBytes s p q n → length_of (get_or s p 0) ≤ n → p + n ≤ length s → q + n ≤ length s → command_at s p ≡ command_at s q
command_twice s p q n w h k l =
    let m : length (part s p n) ≡ n = part_length s p n k in
    let b : get_or (part s p n) 0 0 ≡ get_or s p 0 = part_same s p n 0 p (omega arith) (omega (arith, length_pos (get_or s p 0))) in
    let f : 0 + length_of (get_or (part s p n) 0 0) ≤ n = rw b (omega arith) in
    sym (command_same (part s p n) s p n (part_same s p n) 0 p (omega arith) f (omega arith) k)
    ∙ command_same (part s p n) s q n (part_twice s p q n w) 0 q (omega arith) f (omega arith) l
