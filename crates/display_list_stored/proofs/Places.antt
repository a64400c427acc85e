-- The commands from a place on: none, or the one there and those behind it; and their boxes. Assumes nothing.
use mathlib.Core.Path.{◌≡◌, refl, sym, ◌∙◌}
use mathlib.Core.List.{List, [], ◌∷◌, map}
use Prim.Native.Nat.{ℕ, zero, suc, ◌+◌, ◌-◌, ◌*◌, ◌≤◌, ◌<◌}
use native.Mathlib.Omega.{arith}
use lib.ListN.{drop}
use lib.Ieee.{Float}
use Rattle.base_rect_words.specs.Words.{boxes_to}
use Rattle.base_rect_words.proofs.Lists.{boxes_first}
use Rattle.display_list_commands.specs.Bounds.{bounds}
use Rattle.display_list_stored.specs.Stored.{command_in, commands_in, Stored}

module _ (s : List ℕ) (bs : List Float) (ns is : List ℕ) where
  pub commands_end : (i n : ℕ) → n ≤ 0 → commands_in s bs ns is i n ≡ []
  unfolding commands_in
  commands_end i zero h = refl
  commands_end i (suc n) h = absurd (omega arith)

  pub commands_next : (i n : ℕ) → 0 < n → commands_in s bs ns is i n ≡ command_in s bs ns is i ∷ commands_in s bs ns is (i + 1) (n - 1)
  unfolding commands_in
  commands_next i zero h = absurd (omega arith)
  commands_next i (suc n) h =
      let p : suc n - 1 ≡ n = omega arith in
      let q : i + 1 ≡ suc i = omega arith in
      rw (p, q)

  -- their boxes stand beside them
  module _ (ibs : List Float) (n : ℕ) (w : Stored n s bs ns is ibs) where
    pub boxes_beside : (i m : ℕ) → i + m ≤ n → map bounds (commands_in s bs ns is i m) ≡ boxes_to (drop (4 * i) ibs) m
    unfolding commands_in boxes_to
    boxes_beside i zero h = refl
    boxes_beside i (suc m) h = (λ t. sym (w.boxed i (omega arith)) t ∷ boxes_beside (suc i) m (omega arith) t) ∙ sym (boxes_first ibs i m)
