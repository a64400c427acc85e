-- Strips read into lent space. "Space is checked .. after both strips are read": where there is no room, reading goes on and counts, and nothing is said of
-- what the space holds.
use Rattle.base_refusals.specs.declared.Refusal.{Refusal}
use Rattle.std.specs.Prelude.{◌≡◌, List, ℕ, ◌+◌, ◌*◌, ◌≤◌, ◌<◌, length, Float, Result, Ok, Err}
use Rattle.strip.specs.declared.Cursor.{Cursor}
use Rattle.strip.specs.Reading.{commands_of}
use Rattle.strip_laws.specs.Limits.{WhereRead}
use Rattle.strip_frame.specs.declared.Strips.{Strips}
use Rattle.strip_frame.specs.declared.Entry.{Entry}
use Rattle.strip_frame.specs.Frame.{old_commands}
use Rattle.display_list_stored.specs.Stored.{command_in, commands_in, Stored}

-- the lent space of display lists: the clips' boxes and the numbers below them, the commands' words and boxes
pub record Space : Type 0 where
  pub boxes : List Float
  pub below : List ℕ
  pub items : List ℕ
  pub item_boxes : List Float

abbrev pub space : List Float → List ℕ → List ℕ → List Float → Space
space bs ns is ibs = record { boxes = bs; below = ns; items = is; item_boxes = ibs }

pub record SameLengths (z y : Space) : Type 0 where
  pub boxes : length y.boxes ≡ length z.boxes
  pub below : length y.below ≡ length z.below
  pub items : length y.items ≡ length z.items
  pub item_boxes : length y.item_boxes ≡ length z.item_boxes

-- room for so many clips and commands
pub record Room (clips commands : ℕ) (z : Space) : Type 0 where
  pub boxes : 8 * clips ≤ length z.boxes
  pub below : clips ≤ length z.below
  pub items : 2 * commands ≤ length z.items
  pub item_boxes : 4 * commands ≤ length z.item_boxes

-- the space holds this many clips and this many commands of an input
pub record Holds (clips commands : ℕ) (s : List ℕ) (z : Space) : Type 0 where
  pub stored : Stored commands s z.boxes z.below z.items z.item_boxes
  pub used_is : stored.used ≡ clips

-- ---- one strip, from an offset, behind clips and commands that are held: from z to y, with the cursor t behind its END
pub record Recorded (s : List ℕ) (at clips commands : ℕ) (z y : Space) (t : Cursor) : Type 0 where
  pub held : Holds (clips + t.clips) (commands + t.commands) s y
  -- what was held stands for the same commands
  pub kept : (i : ℕ) → i < commands → command_in s y.boxes y.below y.items i ≡ command_in s z.boxes z.below z.items i
  -- and behind it stands the strip's list
  pub listed : commands_in s y.boxes y.below y.items commands t.commands ≡ commands_of s at

abbrev pub Records : List ℕ → ℕ → ℕ → ℕ → Space → Space → Result Cursor Refusal → Type 0
Records s at clips commands z y r =
    WhereRead (λ t. Holds clips commands s z → Room (clips + t.clips) (commands + t.commands) z → Recorded s at clips commands z y t) r

-- ---- a whole input
-- the old strip's commands, then the new one's
pub record Two (entry : Entry) (s : List ℕ) (old new : Cursor) (y : Space) : Type 0 where
  pub held : Holds (old.clips + new.clips) (old.commands + new.commands) s y
  pub old_list : commands_in s y.boxes y.below y.items 0 old.commands ≡ old_commands entry s
  pub new_list : commands_in s y.boxes y.below y.items old.commands new.commands ≡ commands_of s old.at

-- the new strip, recorded behind the old one, which is held
abbrev pub RecordsNew : List ℕ → Cursor → Space → Space → Result Strips Refusal → Type 0
RecordsNew s old z y (Ok both) =
    Holds old.clips old.commands s z
    → Room (old.clips + both.new.clips) (old.commands + both.new.commands) z → Recorded s old.at old.clips old.commands z y both.new
RecordsNew s old z y (Err why) = Unit {0}

abbrev pub RecordsStrips : Entry → List ℕ → Space → Result Strips Refusal → Type 0
RecordsStrips entry s y (Ok both) =
    Room (both.old.clips + both.new.clips) (both.old.commands + both.new.commands) y → Two entry s both.old both.new y
RecordsStrips entry s y (Err why) = Unit {0}
