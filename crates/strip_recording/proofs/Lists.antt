-- Lists in lent space: the same where each place is the same, and one longer with a command more. Assumes nothing.
use mathlib.Core.Path.{◌≡◌, refl, ap, ◌∙◌}
use mathlib.Core.List.{List, [], ◌∷◌, ◌++◌}
use Prim.Native.Nat.{ℕ, zero, suc, ◌+◌, ◌<◌}
use native.Mathlib.Omega.{arith}
use lib.Ieee.{Float}
use Rattle.display_list_commands.specs.Bounds.{Command}
use Rattle.display_list_stored.specs.Stored.{command_in, commands_in}

pub lists_alike : (s : List ℕ) (bs cs : List Float) (ns ms is js : List ℕ) (n a : ℕ) → ((i : ℕ) → i < a + n → command_in s bs ns is i ≡ command_in s cs ms js i) → commands_in s bs ns is a n ≡ commands_in s cs ms js a n
unfolding commands_in
lists_alike s bs cs ns ms is js zero a h = refl
lists_alike s bs cs ns ms is js (suc n) a h =
    let first = h a (omega arith) in
    let rest = lists_alike s bs cs ns ms is js n (suc a) (λ i l. h i (omega arith)) in
    λ i. first i ∷ rest i

pub list_last : (s : List ℕ) (bs : List Float) (ns is : List ℕ) (n a : ℕ) → commands_in s bs ns is a (suc n) ≡ commands_in s bs ns is a n ++ (command_in s bs ns is (a + n) ∷ [])
unfolding commands_in
list_last s bs ns is zero a = let z : a ≡ a + 0 = omega arith in ap (λ (i : ℕ). command_in s bs ns is i ∷ []) z
list_last s bs ns is (suc n) a =
    let z : suc a + n ≡ a + suc n = omega arith in
    ap (λ (l : List Command). command_in s bs ns is a ∷ l) (list_last s bs ns is n (suc a) ∙ ap (λ (i : ℕ). commands_in s bs ns is (suc a) n ++ (command_in s bs ns is i ∷ [])) z)

pub list_none : (s : List ℕ) (bs : List Float) (ns is : List ℕ) (a : ℕ) → commands_in s bs ns is a 0 ≡ []
unfolding commands_in
list_none s bs ns is a = refl
