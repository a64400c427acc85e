-- A list that is made of a function: its length, its members, and which list it is. Assumes nothing.
use mathlib.Core.Path.{◌≡◌, refl, ap, ◌∙◌}
use mathlib.Core.List.{List, [], ◌∷◌, ◌++◌}
use Prim.Native.Nat.{ℕ, zero, suc, ◌<◌}
use native.Mathlib.Nat.{not-suc-le-zero}
use native.Mathlib.Omega.{arith}
use lib.ListN.{length, get_or, length-append, get_or-append}
use lib.Seq.{get_or-append_seam, ext_get_or}
use Rattle.base_lists.specs.Tables.{tabulate}
use Rattle.base_lists.proofs.Picks.{by_le}

module _ {A : Type 0} (f : ℕ → A) where
  pub table_length : (n : ℕ) → length (tabulate f n) ≡ n
  unfolding tabulate
  table_length zero = refl
  table_length (suc n) = length-append (tabulate f n) (f n ∷ []) ∙ omega (arith, table_length n)

  pub table_at : (n i : ℕ) (d : A) → i < n → get_or (tabulate f n) i d ≡ f i
  unfolding tabulate
  table_at zero i d h = absurd (not-suc-le-zero h)
  table_at (suc n) i d h = by_le n i
      (λ g. let z : i ≡ length (tabulate f n) = omega (arith, table_length n) in
      let y : n ≡ i = omega arith in
      ap (λ (j : ℕ). get_or (tabulate f n ++ (f n ∷ [])) j d) z ∙ get_or-append_seam (tabulate f n) (f n) [] d ∙ ap f y)
      (λ g. get_or-append (tabulate f n) (f n ∷ []) d i (omega (arith, table_length n)) ∙ table_at n i d g)

  -- the table is a list whose members are those of the function
  pub table_is : (l : List A) (d : A) → ((i : ℕ) → i < length l → f i ≡ get_or l i d) → tabulate f (length l) ≡ l
  table_is l d e =
      let b = table_length (length l) in
      ext_get_or d _ _ b (λ i h. let g : i < length l = omega (arith, b) in table_at (length l) i d g ∙ e i g)
