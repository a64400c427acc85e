-- What agreement says, in two parts. Assumes nothing.
use mathlib.Core.Bool.{◌&&◌}
use lib.Dec.{T}
use lib.Ieee.Fits.{and_i, and_l, and_r}
use Rattle.base_lists.proofs.Bools.{is_true, holds}
use Rattle.display_list_commands.specs.Bounds.{Command}
use Rattle.display_list_commands.specs.Sizes.{size_of}
use Rattle.display_list_operand_equality.specs.Operands.{same_bits}
use Rattle.display_list_equality.specs.Drawings.{equal}
use Rattle.plan_agreement.specs.Agree.{agreeing, Agree}

module _ (c d : Command) where
  pub agree_parts : Agree c d → T (equal c d) × T (same_bits (size_of c.draw) (size_of d.draw))
  unfolding agreeing
  agree_parts a =
      let e = equal c d in
      let b = same_bits (size_of c.draw) (size_of d.draw) in
      (and_l e b (holds (e && b) a), and_r e b (holds (e && b) a))

  pub agree_of : T (equal c d) → T (same_bits (size_of c.draw) (size_of d.draw)) → Agree c d
  unfolding agreeing
  agree_of e b = is_true (equal c d && same_bits (size_of c.draw) (size_of d.draw)) (and_i (equal c d) (same_bits (size_of c.draw) (size_of d.draw)) e b)
