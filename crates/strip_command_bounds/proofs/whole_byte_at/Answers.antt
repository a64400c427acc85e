-- `strip_command_bounds::whole_byte_at` meets its contract: what is past the end or cut off has no byte. Assumes nothing.
use native.Mathlib.Omega.{arith}
use mathlib.Core.Path.{sym}
use Rattle.strip_command_bounds.proofs.Standing.{byte_past_end, byte_cut, byte_whole}
use Rattle.strip_command_bounds.proofs.whole_byte_at.Goals as goal

pub returns-then-s-at : goal.returns-then-s-at
returns-then-s-at c = sym (byte_past_end _ _ c.if-s-at.true)

pub returns-then-s-at-2 : goal.returns-then-s-at-2
returns-then-s-at-2 c = sym (byte_cut _ _ (omega (arith, c.length_of.ensures, c.if-s-at.false, c.if-s-at-2.true)))

pub returns : goal.returns
returns c = sym (byte_whole _ _ (omega (arith, c.length_of.ensures, c.if-s-at.false, c.if-s-at-2.false)))
