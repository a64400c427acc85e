-- A command is stored where there is room. Assumes nothing.
use mathlib.Core.Path.{sym, ◌∙◌}
use native.Mathlib.Omega.{arith}
use lib.ListN.{length-set}
use Rattle.display_list.proofs.Rooms.{command_fits}
use Rattle.display_list.proofs.ListState.push.Goals as goal

pub bounds-items-m-then-command_room : goal.bounds-items-m-then-command_room
bounds-items-m-then-command_room c = let f = command_fits _ _ _ (sym c.command_room.ensures ∙ c.if-command_room.true) in simp length-set (omega arith)
