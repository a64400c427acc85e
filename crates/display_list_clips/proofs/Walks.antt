-- The walk over two chains: what is left to compare decides. Assumes nothing.
use mathlib.Core.Path.{◌≡◌, refl, sym, ap, ◌∙◌}
use mathlib.Core.Bool.{Bool, true, false, ◌&&◌}
use mathlib.Core.List.{List, [], ◌∷◌, ◌++◌}
use Prim.Native.Nat.{ℕ, zero, suc, ◌-◌, ◌≤◌, ◌<◌}
use native.Mathlib.Omega.{arith}
use lib.Dec.{eqb}
use lib.Ieee.{Float}
use borrow.Author.Tests.{eq-eqb, ne_eqb}
use Rattle.std.proofs.Math.Bool.{and-true, and_assoc}
use Rattle.base_lists.specs.Pick.{pick}
use Rattle.std.proofs.lemmas.Bool.{and_right}
use Rattle.kurbo_geometry.specs.declared.Rect.{Rect}
use Rattle.kurbo_geometry.specs.Boxes.{same_edges}
use Rattle.display_list_operand_equality.specs.Operands.{same_clips}
use Rattle.display_list_clips.specs.Chains.{clip_at, below_at, chain_from, chain, Chained, Rooted}

-- ---- lists compared at their last place
none_more : (l : List Rect) (a : Rect) → same_clips [] (l ++ (a ∷ [])) ≡ false
unfolding same_clips
none_more [] a = refl
none_more (b ∷ l) a = refl

more_none : (l : List Rect) (a : Rect) → same_clips (l ++ (a ∷ [])) [] ≡ false
unfolding same_clips
more_none [] a = refl
more_none (b ∷ l) a = refl

last_alone : (a c b : Rect) (l : List Rect) → same_clips (a ∷ []) (c ∷ (l ++ (b ∷ []))) ≡ false
unfolding same_clips
last_alone a c b l = and_right (same_edges a c) (same_clips [] (l ++ (b ∷ []))) (none_more l b)

alone_last : (a c b : Rect) (l : List Rect) → same_clips (c ∷ (l ++ (b ∷ []))) (a ∷ []) ≡ false
unfolding same_clips
alone_last a c b l = and_right (same_edges c a) (same_clips (l ++ (b ∷ [])) []) (more_none l b)

pub same_last : (l m : List Rect) (a b : Rect) → same_clips (l ++ (a ∷ [])) (m ++ (b ∷ [])) ≡ (same_clips l m && same_edges a b)
unfolding same_clips
same_last [] [] a b = and-true (same_edges a b)
same_last [] (d ∷ m) a b = last_alone a d b m
same_last (c ∷ l) [] a b = alone_last b c a l
same_last (c ∷ l) (d ∷ m) a b = ap (λ (z : Bool). same_edges c d && z) (same_last l m a b) ∙ sym (and_assoc (same_edges c d) (same_clips l m) (same_edges a b))

-- ---- what is left of two chains is the whole comparison
pub record Left (bs : List Float) (ns : List ℕ) (a b x y : ℕ) : Type 0 where
  pub used : ℕ
  pub chained : Chained used bs ns
  pub one : x ≤ used
  pub other : y ≤ used
  pub steps : ℕ
  pub other_steps : ℕ
  pub enough : x ≤ steps
  pub other_enough : y ≤ other_steps
  pub whole : same_clips (chain_from steps bs ns x) (chain_from other_steps bs ns y) ≡ same_clips (chain bs ns a) (chain bs ns b)

pub left_start : (bs : List Float) (ns : List ℕ) (a b : ℕ) → Rooted bs ns a b → Left bs ns a b a b
left_start bs ns a b h = record { used = h.used; chained = h.chained; one = h.one; other = h.other; steps = a; other_steps = b; enough = omega arith; other_enough = omega arith; whole = refl }

-- no step is needed at 0; one at least elsewhere
chain_end : (k : ℕ) (bs : List Float) (ns : List ℕ) (x : ℕ) → x ≡ 0 → chain_from k bs ns x ≡ []
unfolding chain_from
chain_end zero bs ns x e = refl
chain_end (suc k) bs ns x e = rw (eq-eqb x 0 e)

chain_more : (k : ℕ) (bs : List Float) (ns : List ℕ) (x : ℕ) → (x ≡ 0 → ⊥) → x ≤ k → (j : ℕ) × (k ≡ suc j) × (chain_from k bs ns x ≡ chain_from j bs ns (below_at ns x) ++ (clip_at bs x ∷ []))
unfolding chain_from
chain_more zero bs ns x g h = absurd (omega arith)
chain_more (suc j) bs ns x g h = (j, refl, rw (ne_eqb x 0 g))

against_none : (t : Bool) (l : List Rect) (r : Rect) → same_clips [] (pick t [] (l ++ (r ∷ []))) ≡ t
against_none true l r = unfold same_clips in refl
against_none false l r = none_more l r

-- a chain is empty at 0 alone
empty_test : (k : ℕ) (bs : List Float) (ns : List ℕ) (x : ℕ) → x ≤ k → eqb x 0 ≡ same_clips [] (chain_from k bs ns x)
unfolding chain_from same_clips
empty_test zero bs ns x h = eq-eqb x 0 (omega arith)
empty_test (suc k) bs ns x h = sym (against_none (eqb x 0) (chain_from k bs ns (below_at ns x)) (clip_at bs x))

module _ (bs : List Float) (ns : List ℕ) (a b x y : ℕ) (w : Left bs ns a b x y) where
  abbrev Whole : Bool
  Whole = same_clips (chain bs ns a) (chain bs ns b)

  -- one chain ends
  pub left_x : x ≡ 0 → eqb y 0 ≡ Whole
  left_x e = empty_test w.other_steps bs ns y w.other_enough ∙ sym (ap (λ l. same_clips l (chain_from w.other_steps bs ns y)) (chain_end w.steps bs ns x e)) ∙ w.whole

  pub left_y : (x ≡ 0 → ⊥) → y ≡ 0 → false ≡ Whole
  left_y g e =
      let m = chain_more w.steps bs ns x g w.enough in
      sym (more_none (chain_from m.0 bs ns (below_at ns x)) (clip_at bs x)) ∙ sym (λ i. same_clips (m.2 i) (chain_end w.other_steps bs ns y e i)) ∙ w.whole

  -- both go on: the innermost boxes, and what lies below
  module _ (g : x ≡ 0 → ⊥) (h : y ≡ 0 → ⊥) where
    split : (j : ℕ) × (k : ℕ) × (w.steps ≡ suc j) × (w.other_steps ≡ suc k) × ((same_clips (chain_from j bs ns (below_at ns x)) (chain_from k bs ns (below_at ns y)) && same_edges (clip_at bs x) (clip_at bs y)) ≡ Whole)
    split =
        let m = chain_more w.steps bs ns x g w.enough in
        let n = chain_more w.other_steps bs ns y h w.other_enough in
        (m.0, n.0, m.1, n.1, sym (same_last (chain_from m.0 bs ns (below_at ns x)) (chain_from n.0 bs ns (below_at ns y)) (clip_at bs x) (clip_at bs y)) ∙ sym (λ i. same_clips (m.2 i) (n.2 i)) ∙ w.whole)

    -- by a call's answer t for two boxes that were read
    module _ {t : Bool} {c d : Rect} (p : t ≡ same_edges c d) (q : c ≡ clip_at bs x) (u : d ≡ clip_at bs y) where
      told : {r : Bool} → t ≡ r → (same_clips (chain_from split.0 bs ns (below_at ns x)) (chain_from split.1 bs ns (below_at ns y)) && r) ≡ Whole
      told e = ap (λ r. same_clips (chain_from split.0 bs ns (below_at ns x)) (chain_from split.1 bs ns (below_at ns y)) && r) (sym e ∙ p ∙ (λ i. same_edges (q i) (u i))) ∙ split.4

      pub left_stop : t ≡ false → false ≡ Whole
      left_stop e = sym (and_right _ false refl) ∙ told e

      pub left_next : t ≡ true → (below_at ns x < x) × Left bs ns a b (below_at ns x) (below_at ns y)
      left_next e =
          let s = split in
          let l : below_at ns x ≤ x - 1 = w.chained.lower (x - 1) (omega arith) in
          let m : below_at ns y ≤ y - 1 = w.chained.lower (y - 1) (omega arith) in (
            omega arith,
            record {
              used = w.used;
              chained = w.chained;
              one = omega arith;
              other = omega arith;
              steps = s.0;
              other_steps = s.1;
              enough = omega arith;
              other_enough = omega arith;
              whole = sym (and-true _) ∙ told e;
            },
          )
