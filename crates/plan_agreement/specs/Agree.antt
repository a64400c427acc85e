-- Commands that agree: equal, "floats by value", and with sizes of the same bits, since runs are alike by "size bits". So -0 agrees with 0, but for a size.
use Rattle.std.specs.Prelude.{◌≡◌, Bool, true, ◌&&◌, List}
use Rattle.base_lists.specs.Places.{ByPlace}
use Rattle.display_list_commands.specs.Bounds.{Command}
use Rattle.display_list_commands.specs.Sizes.{size_of}
use Rattle.display_list_operand_equality.specs.Operands.{same_bits}
use Rattle.display_list_equality.specs.Drawings.{equal}

unfoldable pub agreeing : Command → Command → Bool
agreeing c d = equal c d && same_bits (size_of c.draw) (size_of d.draw)

abbrev pub Agree : Command → Command → Type 0
Agree c d = agreeing c d ≡ true

-- two lists of one length, place by place
abbrev pub AgreeAll : List Command → List Command → Type 0
AgreeAll cs ds = ByPlace Agree cs ds
