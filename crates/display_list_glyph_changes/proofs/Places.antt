-- Runs of glyphs, place by place. Assumes nothing.
use mathlib.Core.Path.{◌≡◌, refl, sym, ap, ◌∙◌}
use mathlib.Core.Bool.{Bool, true, false, ◌&&◌}
use mathlib.Core.List.{List, [], ◌∷◌, ◌++◌, map, append-nil}
use mathlib.Core.Logic.{◌⊎◌, inl, inr, ⊎_elim}
use Prim.Native.Nat.{ℕ, zero, suc, ◌+◌, ◌-◌, ◌*◌, ◌≤◌, ◌<◌}
use native.Mathlib.Omega.{arith}
use lib.Ieee.{Float, eq}
use borrow.Author.Tests.{eq-eqb, ne_eqb}
use Rattle.std.proofs.lemmas.Bool.{and_right}
use Rattle.base_lists.proofs.Picks.{pick_true, pick_false}
use Rattle.base_little_endian.specs.Same.{SameBytes}
use Rattle.kurbo_geometry.specs.declared.Rect.{Rect}
use Rattle.kurbo_geometry.specs.Boxes.{union}
use Rattle.display_list_commands.specs.declared.Glyph.{Glyph}
use Rattle.display_list_operand_equality.specs.Operands.{same_glyph, equal_glyph, equal_glyphs}
use Rattle.display_list_operand_equality.proofs.Selves.{glyph_self, equal_glyph_self}
use Rattle.strip_format.specs.Format.{glyph_at, glyphs_from}
use Rattle.strip_format.proofs.Alike.{glyph_twice}
use Rattle.strip_format.proofs.Numbers.{single_finite, rect_numbers}
use Rattle.display_list_changes.specs.Changes.{changed_at, changed_glyphs}

-- ---- the glyphs of a run from the one of a number on
module _ (s : List ℕ) (at n : ℕ) where
  abbrev pub from : ℕ → List Glyph
  from k = glyphs_from s (at + 45 * k) (n - k)

  pub from_next : (k : ℕ) → k < n → from k ≡ glyph_at s (at + 45 * k) ∷ from (k + 1)
  unfolding glyphs_from
  from_next k h =
      let e : n - k ≡ suc (n - (k + 1)) = omega arith in
      let d : at + 45 * k + 45 ≡ at + 45 * (k + 1) = omega arith in
      ap (glyphs_from s (at + 45 * k)) e ∙ ap (λ (p : ℕ). glyph_at s (at + 45 * k) ∷ glyphs_from s p (n - (k + 1))) d

  pub from_end : (k : ℕ) → n ≤ k → from k ≡ []
  unfolding glyphs_from
  from_end k h = let e : n - k ≡ 0 = omega arith in ap (glyphs_from s (at + 45 * k)) e

-- ---- the boxes of what is left of a run
module _ (f : Glyph → Rect) (s : List ℕ) (at n : ℕ) where
  pub boxes_end : (k : ℕ) → n ≤ k → map f (from s at n k) ≡ []
  boxes_end k h = ap (map f) (from_end s at n k h)

  pub boxes_next : (k : ℕ) {b : Rect} → k < n → b ≡ f (glyph_at s (at + 45 * k)) → map f (from s at n k) ≡ (b ∷ []) ++ map f (from s at n (k + 1))
  boxes_next k h e = ap (map f) (from_next s at n k h) ∙ ap (λ (r : Rect). r ∷ map f (from s at n (k + 1))) (sym e)

-- ---- what changed, from two places on
module _ (f g : Glyph → Rect) (s : List ℕ) where
  pub changed_next : (a m b n k : ℕ) → k < m → k < n → changed_glyphs f g (from s a m k) (from s b n k) ≡ changed_at f g (glyph_at s (a + 45 * k)) (glyph_at s (b + 45 * k)) ++ changed_glyphs f g (from s a m (k + 1)) (from s b n (k + 1))
  unfolding changed_glyphs
  changed_next a m b n k h l = λ i. changed_glyphs f g (from_next s a m k h i) (from_next s b n k l i)

  -- from the last common place on, c
  pub changed_rest : (a m b n k c : ℕ) → k ≡ c → (m ≤ c) ⊎ (n ≤ c) → changed_glyphs f g (from s a m k) (from s b n k) ≡ map f (from s a m c) ++ map g (from s b n c)
  unfolding changed_glyphs
  changed_rest a m b n k c e h =
      ap (λ (z : ℕ). changed_glyphs f g (from s a m z) (from s b n z)) e
      ∙ go (from s a m c) (from s b n c) (⊎_elim (λ z. inl (from_end s a m c z)) (λ z. inr (from_end s b n c z)) h)
    where
      go : (x y : List Glyph) → (x ≡ []) ⊎ (y ≡ []) → changed_glyphs f g x y ≡ map f x ++ map g y
      go [] y e = refl
      go (v ∷ x) [] e = sym (append-nil (map f (v ∷ x)))
      go (v ∷ x) (w ∷ y) (inl e) = absurd (cc)
      go (v ∷ x) (w ∷ y) (inr e) = absurd (cc)

  -- at one place
  pub changed_none : (p q : ℕ) → same_glyph (glyph_at s p) (glyph_at s q) ≡ true → [] ≡ changed_at f g (glyph_at s p) (glyph_at s q)
  unfolding changed_at
  changed_none p q e = sym (pick_true _ _ _ e)

  pub changed_one : (p q : ℕ) {b : Rect} → same_glyph (glyph_at s p) (glyph_at s q) ≡ false → b ≡ union (f (glyph_at s p)) (g (glyph_at s q)) → (b ∷ []) ≡ changed_at f g (glyph_at s p) (glyph_at s q)
  unfolding changed_at
  changed_one p q e d = ap (λ z. z ∷ []) d ∙ sym (pick_false _ _ _ e)

-- ---- glyphs of the same bytes
module _ (s : List ℕ) (p q : ℕ) (w : SameBytes s p q 45) where
  there : glyph_at s p ≡ glyph_at s q
  there = glyph_twice s p q 45 w (omega arith)

  pub same_painted : same_glyph (glyph_at s p) (glyph_at s q) ≡ true
  same_painted = ap (same_glyph (glyph_at s p)) (sym there) ∙ glyph_self (glyph_at s p) (single_finite s (p + 5)) (single_finite s (p + 9))

  pub same_equal : equal_glyph (glyph_at s p) (glyph_at s q) ≡ true
  same_equal = ap (equal_glyph (glyph_at s p)) (sym there) ∙ equal_glyph_self (glyph_at s p) (single_finite s (p + 5)) (single_finite s (p + 9)) (rect_numbers s (p + 13))

-- ---- whether all are equal, from two places on
module _ (s : List ℕ) (a m b n : ℕ) where
  pub equal_next : (k : ℕ) → k < m → k < n → equal_glyph (glyph_at s (a + 45 * k)) (glyph_at s (b + 45 * k)) ≡ true → equal_glyphs (from s a m k) (from s b n k) ≡ equal_glyphs (from s a m (k + 1)) (from s b n (k + 1))
  unfolding equal_glyphs
  equal_next k h l e =
      (λ i. equal_glyphs (from_next s a m k h i) (from_next s b n k l i))
      ∙ ap (λ (t : Bool). t && equal_glyphs (from s a m (k + 1)) (from s b n (k + 1))) e

  pub equal_stop : (k : ℕ) → k < m → k < n → equal_glyph (glyph_at s (a + 45 * k)) (glyph_at s (b + 45 * k)) ≡ false → equal_glyphs (from s a m k) (from s b n k) ≡ false
  unfolding equal_glyphs
  equal_stop k h l e =
      (λ i. equal_glyphs (from_next s a m k h i) (from_next s b n k l i))
      ∙ ap (λ (t : Bool). t && equal_glyphs (from s a m (k + 1)) (from s b n (k + 1))) e

  pub equal_end : (k : ℕ) → m ≤ k → n ≤ k → equal_glyphs (from s a m k) (from s b n k) ≡ true
  unfolding equal_glyphs
  equal_end k h l = λ i. equal_glyphs (from_end s a m k h i) (from_end s b n k l i)

  -- as many
  pub equal_counts : (m ≡ n → ⊥) → equal_glyphs (glyphs_from s a m) (glyphs_from s b n) ≡ false
  unfolding glyphs_from equal_glyphs
  equal_counts = go m a n b
    where
      go : (m a n b : ℕ) → (m ≡ n → ⊥) → equal_glyphs (glyphs_from s a m) (glyphs_from s b n) ≡ false
      go zero a zero b h = absurd (h refl)
      go zero a (suc n) b h = refl
      go (suc m) a zero b h = refl
      go (suc m) a (suc n) b h = ap (λ (t : Bool). equal_glyph (glyph_at s a) (glyph_at s b) && t) (go m (a + 45) n (b + 45) (λ e. h (ap suc e))) ∙ and_right (equal_glyph (glyph_at s a) (glyph_at s b)) false refl

-- ---- calls' answers for operands that were read, as tests and boxes of the glyphs in the strip
module _ (g h : Glyph) {i j : ℕ} (p : i ≡ g.id) (q : j ≡ h.id) where
  pub alike_by_number : (i ≡ j → ⊥) → false ≡ same_glyph g h
  unfolding same_glyph
  alike_by_number k = rw (sym p, sym q, ne_eqb i j k)

  pub alike_by_x : i ≡ j → {x y : Float} → x ≡ g.x → y ≡ h.x → eq x y ≡ false → false ≡ same_glyph g h
  unfolding same_glyph
  alike_by_x same {x} {y} d e k = rw (sym p, sym q, eq-eqb i j same, sym d, sym e, k)

  pub alike_by_y : i ≡ j → {x y : Float} → x ≡ g.x → y ≡ h.x → eq x y ≡ true → {v w : Float} → v ≡ g.y → w ≡ h.y → eq v w ≡ same_glyph g h
  unfolding same_glyph
  alike_by_y same {x} {y} d e k {v} {w} a b = rw (sym p, sym q, eq-eqb i j same, sym d, sym e, k, sym a, sym b)

pub united_by : {r a b c d : Rect} → r ≡ union a b → a ≡ c → b ≡ d → r ≡ union c d
united_by e p q = e ∙ (λ i. union (p i) (q i))
