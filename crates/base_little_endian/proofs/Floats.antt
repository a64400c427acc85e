-- The value of a pattern that was tested, in either format. Assumes nothing.
use Prim.Native.Nat.{ℕ}
use mathlib.Core.Bool.{Bool, true, false, not}
use mathlib.Core.Path.{◌≡◌, sym, ◌∙◌}
use lib.Dec.{T}
use lib.Ieee.{Format, of_bits, nan_bits}
use lib.Ieee.Scale.{finite}
use Rattle.base_lists.proofs.Bools.{holds}
use Rattle.base_lists.proofs.Picks.{pick_true, pick_false}
use Rattle.base_ieee.proofs.Patterns.{finite_no_nan}
use Rattle.base_little_endian.specs.Words.{finite_or}

module _ (f : Format) (bits : ℕ) (tested : Bool) (says : tested ≡ finite (of_bits f bits)) where
  pub no_nan : tested ≡ true → T (not (nan_bits f bits))
  no_nan e = finite_no_nan f bits (holds _ (sym says ∙ e))

  pub its_value : tested ≡ true → of_bits f bits ≡ finite_or f bits
  unfolding finite_or
  its_value e = sym (pick_true _ _ _ (sym says ∙ e))

  pub zero_for_it : tested ≡ false → of_bits f 0 ≡ finite_or f bits
  unfolding finite_or
  zero_for_it e = sym (pick_false _ _ _ (sym says ∙ e))
