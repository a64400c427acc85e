-- A kind and its byte tell one another. Assumes nothing.
use mathlib.Core.Path.{◌≡◌, refl, sym, ap, subst, ◌∙◌}
use mathlib.Core.Bool.{true}
use Prim.Native.Nat.{ℕ, ◌<◌, ◌≤◌}
use native.Mathlib.Omega.{arith}
use lib.Dec.{eqb}
use borrow.Author.Tests.{eqb-true, eqb-false, ne_eqb}
use Rattle.std.specs.Prelude.{Option, Some, None, Result, Ok, Err}
use Rattle.std.specs.Result.{result_ok, result_eq}
use Rattle.base_lists.proofs.Picks.{pick_cases}
use Rattle.strip_format.specs.declared.Kind.{Kind}
use Rattle.strip_format.specs.contracts.KindPartialEq.TheImpl as kinds
use Rattle.strip_format.specs.declared.Kind.TheVariants.{End, Clip, Pop, Fill, Stroke, Run, Glyph, Scene}
use Rattle.strip_format.specs.Kinds.{code, kind_of, Decodes}

pub code_most : (k : Kind) → code k ≤ 7
code_most End = omega arith
code_most Clip = omega arith
code_most Pop = omega arith
code_most Fill = omega arith
code_most Stroke = omega arith
code_most Run = omega arith
code_most Glyph = omega arith
code_most Scene = omega arith

pub kind_known : (k : Kind) → kind_of (code k) ≡ Some k
unfolding kind_of
kind_known End = refl
kind_known Clip = refl
kind_known Pop = refl
kind_known Fill = refl
kind_known Stroke = refl
kind_known Run = refl
kind_known Glyph = refl
kind_known Scene = refl

pub kind_unknown : (b : ℕ) → 7 < b → kind_of b ≡ None
unfolding kind_of
kind_unknown b h =
    simp (ne_eqb b 0 (λ e. omega arith), ne_eqb b 1 (λ e. omega arith), ne_eqb b 2 (λ e. omega arith), ne_eqb b 3 (λ e. omega arith), ne_eqb b 4 (λ e. omega arith), ne_eqb b 5 (λ e. omega arith), ne_eqb b 6 (λ e. omega arith), ne_eqb b 7 (λ e. omega arith))

abbrev or_end : Option Kind → Kind
or_end (Some k) = k
or_end None = End

abbrev there : Option Kind → Type 0
there (Some k) = Unit {0}
there None = ⊥

-- two kinds with one byte are one, and a kind has the byte that it is read from
pub code_one : (k l : Kind) → code k ≡ code l → k ≡ l
code_one k l e = ap or_end (sym (kind_known k) ∙ ap kind_of e ∙ kind_known l)

pub kind_code : (b : ℕ) (k : Kind) → kind_of b ≡ Some k → b ≡ code k
unfolding kind_of
kind_code b k =
    pick_cases Is (eqb b 0) _ _ (one End)
    λ e. pick_cases Is (eqb b 1) _ _ (one Clip)
    λ e. pick_cases Is (eqb b 2) _ _ (one Pop)
    λ e. pick_cases Is (eqb b 3) _ _ (one Fill)
    λ e. pick_cases Is (eqb b 4) _ _ (one Stroke)
    λ e. pick_cases Is (eqb b 5) _ _ (one Run)
    λ e. pick_cases Is (eqb b 6) _ _ (one Glyph)
    λ e. pick_cases Is (eqb b 7) _ _ (one Scene) (λ e q. absurd (subst there (sym q) tt))
  where
    Is : Option Kind → Type 0
    Is o = o ≡ Some k → b ≡ code k

    one : (l : Kind) → eqb b (code l) ≡ true → Is (Some l)
    one l e q = eqb-true b (code l) e ∙ ap (λ (o : Option Kind). code (or_end o)) q

-- a byte without a kind is no command's
pub kind_missing : (b : ℕ) → kind_of b ≡ None → 7 < b
unfolding kind_of
kind_missing b =
    pick_cases Is (eqb b 0) _ _ (λ e. here End)
    λ e0. pick_cases Is (eqb b 1) _ _ (λ e. here Clip)
    λ e1. pick_cases Is (eqb b 2) _ _ (λ e. here Pop)
    λ e2. pick_cases Is (eqb b 3) _ _ (λ e. here Fill)
    λ e3. pick_cases Is (eqb b 4) _ _ (λ e. here Stroke)
    λ e4. pick_cases Is (eqb b 5) _ _ (λ e. here Run)
    λ e5. pick_cases Is (eqb b 6) _ _ (λ e. here Glyph)
    λ e6. pick_cases Is (eqb b 7) _ _ (λ e. here Scene)
    (λ e7 q. omega (arith, eqb-false b 0 e0, eqb-false b 1 e1, eqb-false b 2 e2, eqb-false b 3 e3, eqb-false b 4 e4, eqb-false b 5 e5, eqb-false b 6 e6, eqb-false b 7 e7))
  where
    Is : Option Kind → Type 0
    Is o = o ≡ None → 7 < b

    here : (l : Kind) → Is (Some l)
    here l q = absurd (subst there q tt)

-- what a byte is decoded to, without the byte that is no command's
pub decoded : (b : ℕ) (r : Result Kind ℕ) (o : Option Kind) → Decodes b r → o ≡ result_ok r → kind_of b ≡ o
decoded b (Ok k) o d e = ap kind_of (sym d) ∙ kind_known k ∙ sym e
decoded b (Err x) o d e = kind_unknown b d.1 ∙ sym e

-- kinds that `==` finds equal are one, and so are kinds that may be missing
kind_told : (k l : Kind) → kinds.ghosts.eq k l ≡ eqb (code k) (code l)
kind_told End End = refl
kind_told End Clip = refl
kind_told End Pop = refl
kind_told End Fill = refl
kind_told End Stroke = refl
kind_told End Run = refl
kind_told End Glyph = refl
kind_told End Scene = refl
kind_told Clip End = refl
kind_told Clip Clip = refl
kind_told Clip Pop = refl
kind_told Clip Fill = refl
kind_told Clip Stroke = refl
kind_told Clip Run = refl
kind_told Clip Glyph = refl
kind_told Clip Scene = refl
kind_told Pop End = refl
kind_told Pop Clip = refl
kind_told Pop Pop = refl
kind_told Pop Fill = refl
kind_told Pop Stroke = refl
kind_told Pop Run = refl
kind_told Pop Glyph = refl
kind_told Pop Scene = refl
kind_told Fill End = refl
kind_told Fill Clip = refl
kind_told Fill Pop = refl
kind_told Fill Fill = refl
kind_told Fill Stroke = refl
kind_told Fill Run = refl
kind_told Fill Glyph = refl
kind_told Fill Scene = refl
kind_told Stroke End = refl
kind_told Stroke Clip = refl
kind_told Stroke Pop = refl
kind_told Stroke Fill = refl
kind_told Stroke Stroke = refl
kind_told Stroke Run = refl
kind_told Stroke Glyph = refl
kind_told Stroke Scene = refl
kind_told Run End = refl
kind_told Run Clip = refl
kind_told Run Pop = refl
kind_told Run Fill = refl
kind_told Run Stroke = refl
kind_told Run Run = refl
kind_told Run Glyph = refl
kind_told Run Scene = refl
kind_told Glyph End = refl
kind_told Glyph Clip = refl
kind_told Glyph Pop = refl
kind_told Glyph Fill = refl
kind_told Glyph Stroke = refl
kind_told Glyph Run = refl
kind_told Glyph Glyph = refl
kind_told Glyph Scene = refl
kind_told Scene End = refl
kind_told Scene Clip = refl
kind_told Scene Pop = refl
kind_told Scene Fill = refl
kind_told Scene Stroke = refl
kind_told Scene Run = refl
kind_told Scene Glyph = refl
kind_told Scene Scene = refl

-- whether a byte is read as a kind
pub kind_read : (b : ℕ) (r : Result Kind ℕ) (k : Kind) → Decodes b r → result_eq kinds.ghosts.eq eqb r (Ok k) ≡ eqb b (code k)
kind_read b (Ok l) k d = kind_told l k ∙ ap (λ (n : ℕ). eqb n (code k)) d
kind_read b (Err x) k d = sym (ne_eqb b (code k) (λ e. omega (arith, d.1, e, code_most k)))
