-- Which command stands at an offset, by its kind. Assumes nothing.
use mathlib.Core.Path.{◌≡◌, refl, sym, ap, subst, ◌∙◌}
use mathlib.Core.Bool.{Bool, true, false}
use mathlib.Core.Logic.{◌⊎◌, inl, inr}
use mathlib.Core.List.{List}
use Prim.Native.Nat.{ℕ, ◌+◌, ◌-◌, ◌≤◌, ◌<◌}
use native.Mathlib.Omega.{arith}
use lib.Dec.{leb, ltb, eqb}
use lib.ListN.{length, get_or}
use borrow.Author.Tests.{leb-true, leb-false, le-leb, lt-leb, lt-ltb, ltb-true, eqb-false}
use Rattle.std.specs.Prelude.{Option, Some, None}
use Rattle.std.specs.Bool.{then_some}
use Rattle.base_lists.specs.Pick.{pick}
use Rattle.base_lists.proofs.Picks.{pick_true, pick_false, pick_same, pick_cases}
use Rattle.strip_format.specs.Format.{length_of, fill_at, stroke_path_at, run_at, scene_at, blank, command_at}
use Rattle.base_little_endian.proofs.Past.{byte_past}
use Rattle.strip_format.proofs.Lengths.{length_pos, length_unknown, length_fill, length_stroke, length_run, length_scene}
use Rattle.strip_format.proofs.Commands.{command_fill, command_stroke, command_run, command_scene, command_short, command_other}
use Rattle.strip_format.specs.declared.Kind.{Kind}
use Rattle.strip_format.specs.declared.Kind.TheVariants.{Fill, Stroke, Run, Scene}
use Rattle.strip_format.specs.Kinds.{code, kind_of}
use Rattle.strip_format.proofs.Codes.{kind_known, kind_code, kind_missing as unknown}
use Rattle.strip_command_bounds.specs.Kinds.{kind_at, whole_byte_at}

abbrev there : Option Kind → Type 0
there (Some k) = Unit {0}
there None = ⊥

pub missing : {k : Kind} → ◌≡◌ {A = Option Kind} None (Some k) → ⊥
missing q = subst there (sym q) tt

module _ (s : List ℕ) (at : ℕ) where
  pub byte_cut : length s < at + length_of (get_or s at 0) → whole_byte_at s at ≡ 0
  unfolding whole_byte_at
  byte_cut p = pick_false (leb (at + length_of (get_or s at 0)) (length s)) (get_or s at 0) 0 (lt-leb _ _ p)

  pub byte_past_end : length s ≤ at → whole_byte_at s at ≡ 0
  byte_past_end p = let q : length s < at + length_of (get_or s at 0) = omega (arith, p, length_pos (get_or s at 0)) in byte_cut q

  pub byte_whole : at + length_of (get_or s at 0) ≤ length s → whole_byte_at s at ≡ get_or s at 0
  unfolding whole_byte_at
  byte_whole p = pick_true (leb (at + length_of (get_or s at 0)) (length s)) (get_or s at 0) 0 (le-leb _ _ p)

  pub kind_short : length s < at + length_of (get_or s at 0) → kind_at s at ≡ None
  unfolding kind_at
  kind_short p = pick_false (leb (at + length_of (get_or s at 0)) (length s)) (kind_of (get_or s at 0)) None (lt-leb _ _ p)

  pub kind_past : length s ≤ at → kind_at s at ≡ None
  kind_past p = let q : length s < at + length_of (get_or s at 0) = omega (arith, p, length_pos (get_or s at 0)) in kind_short q

  pub kind_whole : (k : Kind) → at + length_of (get_or s at 0) ≤ length s → get_or s at 0 ≡ code k → kind_at s at ≡ Some k
  unfolding kind_at
  kind_whole k p e = pick_true (leb (at + length_of (get_or s at 0)) (length s)) (kind_of (get_or s at 0)) None (le-leb _ _ p) ∙ ap kind_of e ∙ kind_known k

  kind_read : {o : Option Kind} → kind_of (get_or s at 0) ≡ o → kind_at s at ≡ pick (leb (at + length_of (get_or s at 0)) (length s)) o None
  unfolding kind_at
  kind_read e = ap (λ (x : Option Kind). pick (leb (at + length_of (get_or s at 0)) (length s)) x None) e

  pub kind_none : kind_of (get_or s at 0) ≡ None → kind_at s at ≡ None
  kind_none e = kind_read e ∙ pick_same (leb (at + length_of (get_or s at 0)) (length s)) None

  -- no kind: the command is not whole, or the byte no command's
  pub kind_missing : kind_at s at ≡ None → (length s < at + length_of (get_or s at 0)) ⊎ (7 < get_or s at 0)
  unfolding kind_at
  kind_missing =
      pick_cases (λ (o : Option Kind). o ≡ None → (length s < at + length_of (get_or s at 0)) ⊎ (7 < get_or s at 0))
      (leb (at + length_of (get_or s at 0)) (length s)) (kind_of (get_or s at 0)) None
      (λ e q. inr (unknown (get_or s at 0) q))
      (λ e q. inl (leb-false _ _ e))

  pub kind_told : (k : Kind) (n : ℕ) → kind_of (get_or s at 0) ≡ Some k → n ≡ length_of (code k) → at < length s → then_some (leb n (length s - at)) k ≡ kind_at s at
  kind_told k n q l h = by (leb n (length s - at)) refl
    where
      is : get_or s at 0 ≡ code k
      is = kind_code (get_or s at 0) k q

      by : (t : Bool) → leb n (length s - at) ≡ t → then_some t k ≡ kind_at s at
      by true e = sym (kind_whole k (subst (λ x. at + length_of x ≤ length s) (sym is) (omega (arith, leb-true _ _ e, l, h))) is)
      by false e = sym (kind_short (subst (λ x. length s < at + length_of x) (sym is) (omega (arith, leb-false _ _ e, l, h))))

  -- where a command's byte stands, whether the command is whole
  module _ (k : Kind) (n : ℕ) (r : get_or s at 0 ≡ code k) (l : n ≡ length_of (code k)) (h : at < length s) where
    stands_by : {b : Bool} → leb n (length s - at) ≡ b → kind_at s at ≡ then_some b k
    stands_by e = sym (kind_told k n (ap kind_of r ∙ kind_known k) l h) ∙ ap (λ (t : Bool). then_some t k) e

    pub stands_whole : leb n (length s - at) ≡ true → kind_at s at ≡ Some k
    stands_whole e = stands_by e

    pub stands_cut : leb n (length s - at) ≡ false → kind_at s at ≡ Some k → ⊥
    stands_cut e q = missing (sym (stands_by e) ∙ q)

  pub stands : (k : Kind) → kind_at s at ≡ Some k → (get_or s at 0 ≡ code k) × (at + length_of (code k) ≤ length s)
  unfolding kind_at
  stands k =
      pick_cases (λ (o : Option Kind). o ≡ Some k → (get_or s at 0 ≡ code k) × (at + length_of (code k) ≤ length s))
      (leb (at + length_of (get_or s at 0)) (length s)) (kind_of (get_or s at 0)) None
      (λ e q. let w = kind_code (get_or s at 0) k q in (w, subst (λ n. at + length_of n ≤ length s) w (leb-true _ _ e)))
      (λ e q. absurd (missing q))

  pub stands_other : (k : Kind) → eqb (get_or s at 0) (code k) ≡ false → kind_at s at ≡ Some k → ⊥
  stands_other k e q = eqb-false (get_or s at 0) (code k) e (stands k q).0

  -- the byte of the command that stands whole, else 0, is that of its kind
  pub kind_byte : (k : Kind) → kind_at s at ≡ Some k → pick (leb (at + length_of (get_or s at 0)) (length s)) (get_or s at 0) 0 ≡ code k
  kind_byte k q =
      let w = stands k q in
      pick_true (leb (at + length_of (get_or s at 0)) (length s)) (get_or s at 0) 0 (le-leb _ _ (subst (λ n. at + length_of n ≤ length s) (sym w.0) w.1)) ∙ w.0

  -- so the kind tells the byte that stands whole, else 0, but for bytes above 7, which no command has
  abbrev pub kind_number : Option Kind → ℕ → ℕ
  kind_number (Some k) b = code k
  kind_number None b = pick (ltb 7 b) b 0

  pub kind_numbered : pick (leb (at + length_of (get_or s at 0)) (length s)) (get_or s at 0) 0 ≡ kind_number (kind_at s at) (get_or s at 0)
  kind_numbered = by (kind_at s at) refl
    where
      by : (o : Option Kind) → kind_at s at ≡ o → pick (leb (at + length_of (get_or s at 0)) (length s)) (get_or s at 0) 0 ≡ kind_number o (get_or s at 0)
      by (Some k) q = kind_byte k q
      by None q = whole (leb (at + length_of (get_or s at 0)) (length s)) refl
        where
          known : leb (at + length_of (get_or s at 0)) (length s) ≡ true → (length s < at + length_of (get_or s at 0)) ⊎ (7 < get_or s at 0) → 7 < get_or s at 0
          known e (inl h) = absurd (omega (arith, h, leb-true _ _ e))
          known e (inr h) = h

          cut : leb (at + length_of (get_or s at 0)) (length s) ≡ false → 7 < get_or s at 0 → ⊥
          cut e h = omega (arith, h, byte_past s at (omega (arith, leb-false _ _ e, length_unknown (get_or s at 0) h)))

          none : leb (at + length_of (get_or s at 0)) (length s) ≡ false → (t : Bool) → ltb 7 (get_or s at 0) ≡ t → 0 ≡ pick (ltb 7 (get_or s at 0)) (get_or s at 0) 0
          none e true f = absurd (cut e (ltb-true _ _ f))
          none e false f = sym (pick_false (ltb 7 (get_or s at 0)) (get_or s at 0) 0 f)

          whole : (t : Bool) → leb (at + length_of (get_or s at 0)) (length s) ≡ t → pick (leb (at + length_of (get_or s at 0)) (length s)) (get_or s at 0) 0 ≡ pick (ltb 7 (get_or s at 0)) (get_or s at 0) 0
          whole true e = pick_true _ (get_or s at 0) 0 e ∙ sym (pick_true (ltb 7 (get_or s at 0)) (get_or s at 0) 0 (lt-ltb 7 _ (known e (kind_missing q))))
          whole false e = pick_false _ (get_or s at 0) 0 e ∙ none e (ltb 7 (get_or s at 0)) refl

  pub is_fill : kind_at s at ≡ Some Fill → (fill_at s at ≡ command_at s at) × (at + 97 ≤ length s)
  is_fill q = let w = stands Fill q in (command_fill s at w.0 w.1, subst (λ n. at + n ≤ length s) length_fill w.1)

  pub is_stroke : kind_at s at ≡ Some Stroke → (stroke_path_at s at ≡ command_at s at) × (at + 124 ≤ length s)
  is_stroke q = let w = stands Stroke q in (command_stroke s at w.0 w.1, subst (λ n. at + n ≤ length s) length_stroke w.1)

  pub is_run : kind_at s at ≡ Some Run → (run_at s at ≡ command_at s at) × (at + 103 ≤ length s)
  is_run q = let w = stands Run q in (command_run s at w.0 w.1, subst (λ n. at + n ≤ length s) length_run w.1)

  pub is_scene : kind_at s at ≡ Some Scene → (scene_at s at ≡ command_at s at) × (at + 105 ≤ length s)
  is_scene q = let w = stands Scene q in (command_scene s at w.0 w.1, subst (λ n. at + n ≤ length s) length_scene w.1)

  pub is_other : (kind_at s at ≡ Some Fill → ⊥) → (kind_at s at ≡ Some Stroke → ⊥) → (kind_at s at ≡ Some Run → ⊥) → (kind_at s at ≡ Some Scene → ⊥) → blank ≡ command_at s at
  is_other n3 n4 n5 n7 = by (leb (at + length_of (get_or s at 0)) (length s)) refl
    where
      by : (b : Bool) → leb (at + length_of (get_or s at 0)) (length s) ≡ b → blank ≡ command_at s at
      by true e = let w = leb-true _ _ e in command_other s at (λ q. n3 (kind_whole Fill w q)) (λ q. n4 (kind_whole Stroke w q)) (λ q. n5 (kind_whole Run w q)) (λ q. n7 (kind_whole Scene w q))
      by false e = command_short s at (leb-false _ _ e)
