-- Reading a whole input: numbers 1 and 2 of the header, then each strip from where the last one ended, then 8. "Checked" in the table's order, old
-- strip first; lent space is judged behind all of this.
use Rattle.std.specs.Prelude.{List, [], ℕ, ltb, length, Result, Ok, Err}
use Rattle.base_lists.specs.Pick.{pick}
use Rattle.base_refusals.specs.declared.Fault.TheVariants.{Size, CutOff, TrailingByte}
use Rattle.base_refusals.specs.declared.Refusal.{Refusal}
use Rattle.base_refusals.specs.Table.{refused}
use Rattle.base_little_endian.specs.Words.{u32_at}
use Rattle.strip.specs.declared.Cursor.{Cursor}
use Rattle.strip.specs.Steps.{start_at}
use Rattle.strip.specs.Reading.{read_strip, commands_of}
use Rattle.display_list_commands.specs.Bounds.{Command}
use Rattle.compositor_screen.specs.declared.Screen.{Screen}
use Rattle.compositor_screen.specs.Sizes.{fits}
use Rattle.strip_frame.specs.declared.Strips.{Strips}
use Rattle.strip_frame.specs.declared.Entry.{Entry}
use Rattle.strip_frame.specs.declared.Entry.TheVariants.{First, Next}

-- ---- "The header is width, height, band height, u32 each."
abbrev pub header_length : ℕ
header_length = 12

abbrev pub sizes_at : List ℕ → Screen
sizes_at s = record { width = u32_at s 0; height = u32_at s 4; band_height = u32_at s 8 }

-- 2: "fewer than 12 bytes"; 1 and 2 of the header have position 0
unfoldable pub header_of : List ℕ → Result Screen Refusal
header_of s =
    pick (ltb (length s) header_length)
    (refused CutOff 0)
    (pick (fits (sizes_at s)) (Ok (sizes_at s)) (refused Size 0))

-- ---- "Then the old strip, then the new."
-- 8: "a byte follows" the new END
unfoldable pub ended : List ℕ → Cursor → Result Cursor Refusal
ended s last = pick (ltb last.at (length s)) (refused TrailingByte last.at) (Ok last)

-- the last strip of an input
abbrev pub then_end : List ℕ → Result Cursor Refusal → Result Cursor Refusal
then_end s (Ok last) = ended s last
then_end s (Err why) = Err why

abbrev pub strips : Cursor → Cursor → Strips
strips old new = record { old = old; new = new }

abbrev pub with_old : Cursor → Result Cursor Refusal → Result Strips Refusal
with_old old (Ok new) = Ok (strips old new)
with_old old (Err why) = Err why

abbrev pub then_new : List ℕ → Cursor → Result Cursor Refusal → Result Strips Refusal
then_new s old x = with_old old (then_end s x)

abbrev pub then_strips : List ℕ → Result Cursor Refusal → Result Strips Refusal
then_strips s (Ok old) = then_new s old (read_strip s old.at)
then_strips s (Err why) = Err why

-- where the old strip ended; a first frame has none, and its new strip begins behind the header
abbrev pub old_of : Entry → List ℕ → Result Cursor Refusal
old_of First s = Ok (start_at header_length)
old_of Next s = read_strip s header_length

-- the strips of an input whose header is good. "A first frame has an entry point of its own: header and one strip, the same checks."
unfoldable pub strips_of : Entry → List ℕ → Result Strips Refusal
strips_of entry s = then_strips s (old_of entry s)

-- the commands of the old strip, of which a first frame has none
abbrev pub old_commands : Entry → List ℕ → List Command
old_commands First s = []
old_commands Next s = commands_of s header_length
