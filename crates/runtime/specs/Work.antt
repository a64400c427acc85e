-- The counts of a frame: dew's `FrameWork`, as far as a plan tells them.
use Rattle.std.specs.Prelude.{ℕ}
use Rattle.runtime.specs.declared.FrameWork.{FrameWork}

-- `new` commands in the frame's list, and so many regions and pixels to repaint
abbrev pub work_of : ℕ → ℕ → ℕ → FrameWork
work_of new regions pixels = record { commands_emitted = new; pixels_transferred = pixels; regions_transferred = regions }
