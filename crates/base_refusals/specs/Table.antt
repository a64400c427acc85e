-- The numbers of the table, in the code's words for its cases.
use Rattle.std.specs.Prelude.{List, ℕ, ◌++◌, Result, Err, codes, decimal}
use Rattle.base_refusals.specs.declared.Fault.{Fault}
use Rattle.base_refusals.specs.declared.Fault.TheVariants.{Size, CutOff, UnknownCode, NotFinite, NoOpenClip, TooMany}
use Rattle.base_refusals.specs.declared.Fault.TheVariants.{GlyphOrder, TrailingByte, BoxNotFinite, NoRoom, NoRow}
use Rattle.base_refusals.specs.declared.Refusal.{Refusal}

abbrev pub number : Fault → ℕ
-- "width, height or band height is 0 or above 32,768"
number Size = 1
-- "fewer than 12 bytes", "no byte left", "fewer bytes than the command's length"
number CutOff = 2
-- "byte not in the strip table", "join or cap code above 2"
number UnknownCode = 3
-- "a float is infinite or NaN"
number NotFinite = 4
-- "POP with no clip open"
number NoOpenClip = 5
-- "33rd open clip, 4,097th clip pushed, 4,097th drawing command or 16,385th glyph of a frame"
number TooMany = 6
-- "GLYPH when none is due, or another command while glyphs are due"
number GlyphOrder = 7
-- "a byte follows"
number TrailingByte = 8
-- "a box's inflated edge or transformed corner is not finite"
number BoxNotFinite = 9
-- "commands, glyphs, clips, rectangles, regions or index words exceed the space lent"
number NoRoom = 10
-- "the index words lack the starts, or the row's two starts fall or pass the entries"
number NoRow = 11

abbrev pub refusal : Fault → ℕ → Refusal
refusal f p = record { fault = f; position = p }

-- turned away for this fault, at this position
abbrev pub refused : {A : Type 0} → Fault → ℕ → Result A Refusal
refused f p = Err (refusal f p)

-- "`refused N at P`", as bytes
abbrev pub line : Refusal → List ℕ
line r = codes "refused " ++ (decimal (number r.fault) ++ (codes " at " ++ decimal r.position))
