-- A part that is found lies within the words; and the number tells whether one is found. Assumes nothing.
use mathlib.Core.Path.{◌≡◌, refl, sym, subst, ap, ◌∙◌}
use mathlib.Core.Bool.{Bool, true, false, ◌||◌}
use Prim.Native.Nat.{ℕ, ◌+◌, ◌-◌, ◌/◌, ◌≤◌, ◌<◌}
use mathlib.Core.List.{List}
use native.Mathlib.Omega.{arith}
use borrow.Author.Tests.{leb-false, ltb-false}
use lib.Dec.{leb, ltb}
use lib.ListN.{length, get_or}
use Rattle.base_lists.specs.Pick.{pick}
use Rattle.compositor_rows.specs.Rows.{row_count}
use Rattle.std.specs.Prelude.{Result, Ok, Err}
use Rattle.std.proofs.lemmas.Bool.{or_parts}
use Rattle.base_refusals.specs.declared.Fault.{Fault}
use Rattle.base_refusals.specs.declared.Fault.TheVariants.{Size, NoRow}
use Rattle.base_refusals.specs.declared.Refusal.{Refusal}
use Rattle.base_refusals.specs.Table.{refused}
use Rattle.base_refusals.proofs.Numbers.{number_positive}
use Rattle.compositor_screen.specs.declared.Screen.{Screen}
use Rattle.compositor_screen.specs.Sizes.{fits}
use Rattle.compositor_candidates.specs.declared.Part.{Part}
use Rattle.compositor_candidates.specs.Table.{bad_row, part, find_row, find, number_of, position_of, refusal}

-- what is not refused is a part
not_refused : (f : Fault) (p : Part) → ◌≡◌ {A = Result Part Refusal} (refused f 0) (Ok p) → ⊥
not_refused f p h = subst Away h tt
  where
    Away : Result Part Refusal → Type 0
    Away (Ok q) = ⊥
    Away (Err why) = Unit {0}

found : (t : Bool) (f : Fault) (p : Part) (x : Result Part Refusal) → pick t (refused f 0) x ≡ Ok p → (t ≡ false) × (x ≡ Ok p)
found true f p x h = absurd (not_refused f p h)
found false f p x h = (refl, h)

found_where : (t : Bool) (f : Fault) (p : Part) (x : Result Part Refusal) → pick t x (refused f 0) ≡ Ok p → x ≡ Ok p
found_where true f p x h = h
found_where false f p x h = absurd (not_refused f p h)

-- two starts that neither fall nor pass the entries
within : (rows r : ℕ) (p : Part) (words : List ℕ) → rows < length words → get_or words r 0 ≤ get_or words (r + 1) 0 → get_or words (r + 1) 0 ≤ length words - (rows + 1) → ◌≡◌ {A = Result Part Refusal} (Ok (part (rows + 1 + get_or words r 0) (rows + 1 + get_or words (r + 1) 0))) (Ok p) → (p.start ≤ p.end) × (p.end ≤ length words)
within rows r p words l a b h = subst Within h (omega arith, omega arith)
  where
    Within : Result Part Refusal → Type 0
    Within (Ok q) = (q.start ≤ q.end) × (q.end ≤ length words)
    Within (Err why) = Unit {0}

row_within : (rows r : ℕ) (p : Part) (words : List ℕ) → find_row rows r words ≡ Ok p → (p.start ≤ p.end) × (p.end ≤ length words)
unfolding find_row bad_row
row_within rows r part words h =
    let n = leb rows r in
    let l = leb (length words) rows in
    let f = ltb (get_or words (r + 1) 0) (get_or words r 0) in
    let p = ltb (length words - (rows + 1)) (get_or words (r + 1) 0) in
    let g = found (n || l || f || p) NoRow part _ h in
    let u = or_parts (n || l || f) p g.0 in
    let v = or_parts (n || l) f u.0 in
    let w = or_parts n l v.0 in
    within rows r part words (leb-false (length words) rows w.1) (ltb-false (get_or words (r + 1) 0) (get_or words r 0) v.1) (ltb-false (length words - (rows + 1)) (get_or words (r + 1) 0) u.1) g.1

pub part_within : (s : Screen) (y : ℕ) (words : List ℕ) {x : Result Part Refusal} {p : Part} → x ≡ find s y words → x ≡ Ok p → (p.start ≤ p.end) × (p.end ≤ length words)
unfolding find
part_within s y words {p = p} e h =
    row_within (row_count s.height s.band_height) (y / s.band_height) p words (found_where (fits s) Size p _ (sym e ∙ h))

-- ---- the position
placed : (t : Bool) (f : Fault) (x : Result Part Refusal) → position_of x ≡ 0 → position_of (pick t (refused f 0) x) ≡ 0
placed true f x e = refl
placed false f x e = e

-- a row that is found, or refused, is at 0
pub row_at_start : (rows r : ℕ) (words : List ℕ) {x : Result Part Refusal} → x ≡ find_row rows r words → position_of x ≡ 0
unfolding find_row
row_at_start rows r words e = ap position_of e ∙ placed (bad_row rows r words) NoRow _ refl

-- ---- the number
abbrev Tells : Result Part Refusal → Type 0
Tells x = number_of x ≡ 0 → (p : Part) × (x ≡ Ok p)

tells : (x : Result Part Refusal) → Tells x
tells (Ok p) z = (p, refl)
tells (Err why) z = absurd (omega (arith, z, number_positive why.fault))

-- no refusal has the number 0: where the number is 0, there is a row
pub zero_found : (s : Screen) (y : ℕ) (words : List ℕ) → refusal s y words ≡ 0 → (p : Part) × (find s y words ≡ Ok p)
zero_found s y words = tells (find s y words)
