-- Floats at two offsets: what has the same bits or bytes is equal, a row of them from its front, and the rows that are a box and an affine. Assumes nothing.
use mathlib.Core.Path.{◌≡◌, refl, sym, ap, ◌∙◌}
use mathlib.Core.Bool.{Bool, true, false, ◌&&◌}
use mathlib.Core.List.{List}
use Prim.Native.Nat.{ℕ, zero, suc, ◌+◌, ◌-◌, ◌*◌, ◌<◌, ◌≤◌}
use native.Mathlib.Omega.{arith}
use lib.Ieee.{binary64, eq}
use lib.ListN.{get_or}
use Rattle.std.proofs.lemmas.Bool.{and_from}
use Rattle.base_little_endian.specs.Words.{u64_at, finite_or, f64_at}
use Rattle.base_little_endian.specs.Same.{SameBytes}
use Rattle.base_little_endian.proofs.Alike.{f64_same}
use Rattle.base_little_endian.proofs.Parts.{part, part_same, part_twice}
use Rattle.kurbo_geometry.specs.Boxes.{same_edges}
use Rattle.display_list_operand_equality.specs.Operands.{same_affine}
use Rattle.display_list_operand_equality.proofs.Selves.{float_self}
use Rattle.strip_format.specs.Format.{rect_at, affine_at}
use Rattle.strip_format.proofs.Numbers.{number_at}
use Rattle.strip_equality.specs.Places.{same_floats}

-- ---- floats
pub same_bits : (s : List ℕ) (p q : ℕ) {a b : ℕ} → a ≡ u64_at s p → b ≡ u64_at s q → a ≡ b → true ≡ eq (f64_at s p) (f64_at s q)
same_bits s p q u v e =
    let w : u64_at s q ≡ u64_at s p = sym (sym u ∙ e ∙ v) in
    sym (ap (λ (n : ℕ). eq (f64_at s p) (finite_or binary64 n)) w ∙ float_self (f64_at s p) (number_at s p).0)

-- the first float of bytes that stand twice, and the bytes behind it
first_twice : (s : List ℕ) (p q n : ℕ) → SameBytes s p q n → 8 ≤ n → eq (f64_at s p) (f64_at s q) ≡ true
first_twice s p q n w h =
    let e : f64_at s p ≡ f64_at s q =
    sym (f64_same (part s p n) s p n (part_same s p n) 0 p (omega arith) (omega arith))
    ∙ f64_same (part s p n) s q n (part_twice s p q n w) 0 q (omega arith) (omega arith) in
    ap (eq (f64_at s p)) (sym e) ∙ float_self (f64_at s p) (number_at s p).0

rest_twice : (s : List ℕ) (p q m n : ℕ) → SameBytes s p q m → n + 8 ≤ m → SameBytes s (p + 8) (q + 8) n
unfolding SameBytes
rest_twice s p q m n w h k l = there p ∙ w (8 + k) (omega arith) ∙ sym (there q)
  where
    there : (x : ℕ) → get_or s (x + 8 + k) 0 ≡ get_or s (x + (8 + k)) 0
    there x = ap (λ (z : ℕ). get_or s z 0) (omega arith)

-- what stands twice is equal to itself
pub floats_twice : (s : List ℕ) (p q n : ℕ) → SameBytes s p q (8 * n) → true ≡ same_floats s p q n
unfolding same_floats
floats_twice s p q zero w = refl
floats_twice s p q (suc n) w =
    sym (and_from _ _ (first_twice s p q (8 * suc n) w (omega arith)) (sym (floats_twice s (p + 8) (q + 8) n (rest_twice s p q (8 * suc n) (8 * n) w (omega arith)))))

-- ---- a row from its front
floats_none : (s : List ℕ) (p q n : ℕ) → n ≤ 0 → same_floats s p q n ≡ true
unfolding same_floats
floats_none s p q zero h = refl
floats_none s p q (suc n) h = absurd (omega arith)

floats_more : (s : List ℕ) (p q n : ℕ) → 0 < n → eq (f64_at s p) (f64_at s q) ≡ true → same_floats s p q n ≡ same_floats s (p + 8) (q + 8) (n - 1)
unfolding same_floats
floats_more s p q zero h e = absurd (omega arith)
floats_more s p q (suc n) h e = let r : suc n - 1 ≡ n = omega arith in rw (e, r)

floats_stop : (s : List ℕ) (p q n : ℕ) → 0 < n → eq (f64_at s p) (f64_at s q) ≡ false → same_floats s p q n ≡ false
unfolding same_floats
floats_stop s p q zero h e = absurd (omega arith)
floats_stop s p q (suc n) h e = rw e

-- the same by place: what is left behind the first k decides as the whole does
module _ (s : List ℕ) (p q n k : ℕ) (whole : Bool) (left : same_floats s (p + 8 * k) (q + 8 * k) (n - k) ≡ whole) where
  pub left_next : k < n → eq (f64_at s (p + 8 * k)) (f64_at s (q + 8 * k)) ≡ true → same_floats s (p + 8 * (k + 1)) (q + 8 * (k + 1)) (n - (k + 1)) ≡ whole
  left_next h e =
      let place : (x : ℕ) → x + 8 * k + 8 ≡ x + 8 * (k + 1) = λ x. omega arith in
      let count : n - k - 1 ≡ n - (k + 1) = omega arith in
      sym (rw (sym (place p), sym (place q), sym count) (floats_more s (p + 8 * k) (q + 8 * k) (n - k) (omega arith) e)) ∙ left

  pub left_stops : k < n → eq (f64_at s (p + 8 * k)) (f64_at s (q + 8 * k)) ≡ false → false ≡ whole
  left_stops h e = sym (floats_stop s (p + 8 * k) (q + 8 * k) (n - k) (omega arith) e) ∙ left

  pub left_none : n ≤ k → true ≡ whole
  left_none h = sym (floats_none s (p + 8 * k) (q + 8 * k) (n - k) (omega arith)) ∙ left

-- ---- four are a box, six an affine
four : (a b c d : Bool) → (a && (b && (c && (d && true)))) ≡ (a && b && c && d)
four false b c d = refl
four true false c d = refl
four true true false d = refl
four true true true false = refl
four true true true true = refl

six : (a b c d e f : Bool) → (a && (b && (c && (d && (e && (f && true)))))) ≡ ((a && b) && (c && d) && (e && f))
six false b c d e f = refl
six true false c d e f = refl
six true true false d e f = refl
six true true true false e f = refl
six true true true true false f = refl
six true true true true true false = refl
six true true true true true true = refl

-- the place of each, as a step behind the one before it and as counted from the first
third : (x : ℕ) → x + 8 + 8 ≡ x + 16
third x = omega arith

fourth : (x : ℕ) → x + 8 + 8 + 8 ≡ x + 24
fourth x = omega arith

fifth : (x : ℕ) → x + 8 + 8 + 8 + 8 ≡ x + 32
fifth x = omega arith

sixth : (x : ℕ) → x + 8 + 8 + 8 + 8 + 8 ≡ x + 40
sixth x = omega arith

module _ (s : List ℕ) (p q : ℕ) where
  alike : ℕ → ℕ → Bool
  alike m n = eq (f64_at s m) (f64_at s n)

  pub four_same : same_floats s p q 4 ≡ same_edges (rect_at s p) (rect_at s q)
  unfolding same_floats same_edges alike
  four_same =
      four (alike p q) (alike (p + 8) (q + 8)) (alike (p + 8 + 8) (q + 8 + 8)) (alike (p + 8 + 8 + 8) (q + 8 + 8 + 8))
      ∙ λ i. alike p q && alike (p + 8) (q + 8) && alike (third p i) (third q i) && alike (fourth p i) (fourth q i)

  pub six_same : same_floats s p q 6 ≡ same_affine (affine_at s p) (affine_at s q)
  unfolding same_floats same_affine alike
  six_same =
      six (alike p q) (alike (p + 8) (q + 8)) (alike (p + 8 + 8) (q + 8 + 8)) (alike (p + 8 + 8 + 8) (q + 8 + 8 + 8)) (alike (p + 8 + 8 + 8 + 8) (q + 8 + 8 + 8 + 8)) (alike (p + 8 + 8 + 8 + 8 + 8) (q + 8 + 8 + 8 + 8 + 8))
      ∙ λ i. (alike p q && alike (p + 8) (q + 8)) && (alike (third p i) (third q i) && alike (fourth p i) (fourth q i)) && (alike (fifth p i) (fifth q i) && alike (sixth p i) (sixth q i))
