-- How two rows of bytes of one strip are found to be the same. Assumes nothing.
use mathlib.Core.Path.{◌≡◌, refl, ap, sym, ◌∙◌, subst}
use Prim.Native.Nat.{ℕ, zero, suc, ◌+◌, ◌-◌, ◌*◌, ◌≤◌, ◌<◌}
use mathlib.Core.Bool.{true}
use mathlib.Core.List.{List}
use native.Mathlib.Omega.{arith}
use lib.ListN.{get_or}
use Rattle.std.specs.Prelude.{nat_eq}
use Rattle.std.specs.Cmp.Lexicographic.{pointwise}
use Rattle.std.proofs.lemmas.Bool.Decides.{Decides-eqb}
use Rattle.std.proofs.lemmas.Slice.Eq.{slice_eq-Decides}
use Rattle.base_lists.proofs.Picks.{by_le}
use Rattle.base_little_endian.proofs.Parts.{part, part_same}
use Rattle.base_little_endian.specs.Words.{u32_at, u64_at}
use Rattle.base_little_endian.specs.Same.{SameBytes}

-- some, and then some more
pub same_then : (s : List ℕ) (i j m n : ℕ) → SameBytes s i j m → SameBytes s (i + m) (j + m) n → SameBytes s i j (m + n)
unfolding SameBytes
same_then s i j m n a b k h = by_le m k (λ g. there i g ∙ b (k - m) (omega arith) ∙ sym (there j g)) (λ g. a k g)
  where
    there : (x : ℕ) → m ≤ k → get_or s (x + k) 0 ≡ get_or s (x + m + (k - m)) 0
    there x g = ap (λ (z : ℕ). get_or s z 0) (omega arith)

pub same_none : (s : List ℕ) (p q : ℕ) → SameBytes s p q 0
unfolding SameBytes
same_none s p q k h = absurd (omega arith)

-- so many words, and then the last eight, of which some may have been compared
pub same_last : (s : List ℕ) (p q m n : ℕ) → SameBytes s p q m → n ≤ m + 8 → 8 ≤ n → SameBytes s (p + (n - 8)) (q + (n - 8)) 8 → SameBytes s p q n
unfolding SameBytes
same_last s p q m n a h l b k f =
    by_le (n - 8) k
    (λ g. there p g ∙ b (k - (n - 8)) (omega arith) ∙ sym (there q g))
    (λ g. a k (omega arith))
  where
    there : (x : ℕ) → n - 8 ≤ k → get_or s (x + k) 0 ≡ get_or s (x + (n - 8) + (k - (n - 8))) 0
    there x g = ap (λ (z : ℕ). get_or s z 0) (omega arith)

-- two parts that std finds to be equal
pub same_parts : (s : List ℕ) (p q n : ℕ) → pointwise nat_eq (part s p n) (part s q n) ≡ true → SameBytes s p q n
unfolding SameBytes
same_parts s p q n e k h =
    sym (part_same s p n k (p + k) refl h)
    ∙ ap (λ (l : List ℕ). get_or l k 0) ((slice_eq-Decides Decides-eqb (part s p n) (part s q n) true (sym e)).0 refl)
    ∙ part_same s q n k (q + k) refl h

-- four digits of base 256 that make one number are told by it, from the highest down
digits : (a b c d w x y z : ℕ) → a < 256 → b < 256 → c < 256 → w < 256 → x < 256 → y < 256
    → a + 256 * b + 65536 * c + 16777216 * d ≡ w + 256 * x + 65536 * y + 16777216 * z → (a ≡ w) × ((b ≡ x) × ((c ≡ y) × (d ≡ z)))
digits a b c d w x y z f g h k l m e =
    let r : d ≡ z = omega arith in
    let q : c ≡ y = omega arith in
    let p : b ≡ x = omega arith in
    (omega arith, (p, (q, r)))

halves : (a b c d : ℕ) → a < 4294967296 → c < 4294967296 → a + 4294967296 * b ≡ c + 4294967296 * d → (a ≡ c) × (b ≡ d)
halves a b c d f g e =
    let q : b ≡ d = omega arith in
    (omega arith, q)

module _ (s : List ℕ) (bytes : (k : ℕ) → get_or s k 0 < 256) where
  u32_less : (i : ℕ) → u32_at s i < 4294967296
  unfolding u32_at
  u32_less i = omega (arith, bytes i, bytes (i + 1), bytes (i + 2), bytes (i + 3))

  same_four : (i j : ℕ) → u32_at s i ≡ u32_at s j → SameBytes s i j 4
  unfolding u32_at SameBytes
  same_four i j e = go (digits _ _ _ _ _ _ _ _ (bytes i) (bytes (i + 1)) (bytes (i + 2)) (bytes j) (bytes (j + 1)) (bytes (j + 2)) e)
    where
      go : (get_or s i 0 ≡ get_or s j 0) × ((get_or s (i + 1) 0 ≡ get_or s (j + 1) 0) × ((get_or s (i + 2) 0 ≡ get_or s (j + 2) 0) × (get_or s (i + 3) 0 ≡ get_or s (j + 3) 0))) → (k : ℕ) → k < 4 → get_or s (i + k) 0 ≡ get_or s (j + k) 0
      go w zero h = ap (λ (z : ℕ). get_or s z 0) (omega arith) ∙ w.0 ∙ ap (λ (z : ℕ). get_or s z 0) (omega arith)
      go w (suc zero) h = w.1.0
      go w (suc (suc zero)) h = w.1.1.0
      go w (suc (suc (suc zero))) h = w.1.1.1
      go w (suc (suc (suc (suc k)))) h = absurd (omega arith)

  pub same_eight : (i j : ℕ) → u64_at s i ≡ u64_at s j → SameBytes s i j 8
  unfolding u64_at SameBytes
  same_eight i j e k h =
      let w : (u32_at s i ≡ u32_at s j) × (u32_at s (i + 4) ≡ u32_at s (j + 4)) = halves _ _ _ _ (u32_less i) (u32_less j) e in
      by_le 4 k
      (λ g. there i k g ∙ same_four (i + 4) (j + 4) w.1 (k - 4) (omega arith) ∙ sym (there j k g))
      (λ g. same_four i j w.0 k g)
    where
      there : (x k : ℕ) → 4 ≤ k → get_or s (x + k) 0 ≡ get_or s (x + 4 + (k - 4)) 0
      there x k g = ap (λ (z : ℕ). get_or s z 0) (omega arith)

  -- one word more
  pub same_word : (p q k : ℕ) → SameBytes s p q (8 * k) → u64_at s (p + 8 * k) ≡ u64_at s (q + 8 * k) → SameBytes s p q (8 * (k + 1))
  same_word p q k a e = subst (λ (m : ℕ). SameBytes s p q m) (omega arith) (same_then s p q (8 * k) 8 a (same_eight (p + 8 * k) (q + 8 * k) e))
