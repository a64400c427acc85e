-- How many commands, glyphs and clips strips have, by where the reading of each ended, as far as a u64 goes.
use Rattle.std.specs.Prelude.{ℕ, ◌+◌, ◌-◌, ◌^◌, min}
use Rattle.strip_frame.specs.declared.Strips.{Strips}
use Rattle.plan_frame_drafts.specs.declared.Items.{Items}

-- the sum of two counts, as far as a u64 goes
abbrev pub count_both : ℕ → ℕ → ℕ
count_both old new = min (old + new) (2 ^ 64 - 1)

-- of both strips
abbrev pub counted : Strips → Items
counted strips =
    record {
      commands = count_both strips.old.commands strips.new.commands;
      glyphs = count_both strips.old.glyphs strips.new.glyphs;
      clips = count_both strips.old.clips strips.new.clips;
    }
