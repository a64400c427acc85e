-- Number 9 at a step, in the table's words: of which boxes, and that no number which is checked before it is given. That a step gives 9 exactly
-- then, and at the command, is a law (`given_nine`, `nine_given`).
use Rattle.std.specs.Prelude.{◌≡◌, true, List, [], ◌⊎◌, ℕ, ◌+◌, ◌≤◌, ◌<◌, length, get_or, Ok}
use Rattle.kurbo_affine.specs.Unbounded.{UnboundedBox}
use Rattle.display_list_commands.specs.Bounds.{transform_of, glyph_count, local_bounds}
use Rattle.strip_format.specs.Format.{length_of, rect_at, command_at}
use Rattle.strip_format.specs.Layout as Layout
use Rattle.strip_format.specs.Limits as Limits
use Rattle.strip_operand_checks.specs.Operands.{operands_at}
use Rattle.strip.specs.declared.Cursor.{Cursor}
use Rattle.strip.specs.Steps.{due_fits, unite, Draws}

-- the byte at the cursor
abbrev pub byte_at : List ℕ → Cursor → ℕ
byte_at s st = get_or s st.at 0

-- "The table's order is the order of checks": no number before 9 is given to the command at the cursor. (5 is for POP, and 6's limits on clips
-- are for CLIP: they test no box.)
pub record NoneBefore (s : List ℕ) (st : Cursor) : Type 0 where
  -- 2: "no byte left"
  pub byte : st.at < length s
  -- 3: "byte not in the strip table"
  pub known : byte_at s st ≤ Layout.last_code
  -- 7: "GLYPH when none is due, or another command while glyphs are due"
  pub due : due_fits (byte_at s st) st.due ≡ true
  -- 2: "fewer bytes than the command's length"
  pub room : st.at + length_of (byte_at s st) ≤ length s
  -- 3: "join or cap code above 2"; 4: "a float is infinite or NaN"
  pub operands : operands_at s st.at (byte_at s st) ≡ Ok tt
  -- 6: "4,097th drawing command or 16,385th glyph of a frame"
  pub commands : Draws (byte_at s st) → st.commands < Limits.most_commands
  pub glyphs : byte_at s st ≡ Layout.glyph_code → st.glyphs < Limits.most_glyphs

-- FILL, STROKE, SCENE, and a RUN "when the count is 0": the command's own box, which a STROKE inflates first
abbrev pub DrawnUnbounded : List ℕ → Cursor → Type 0
DrawnUnbounded s st = (glyph_count (command_at s st.at) ≡ 0) × UnboundedBox (transform_of (command_at s st.at)) (local_bounds (command_at s st.at) [])

-- "GLYPH tests its own box, and a run's united box is tested at its last GLYPH", both by the RUN's affine. While a run is read the cursor's
-- union at its last GLYPH is that of all its glyph boxes (the law `last_united`).
abbrev pub GlyphUnbounded : List ℕ → Cursor → Type 0
GlyphUnbounded s st =
    UnboundedBox (transform_of (command_at s st.run)) (rect_at s (st.at + Layout.glyph_box))
    ⊎ ((st.due ≡ 1) × UnboundedBox (transform_of (command_at s st.run)) (unite st (rect_at s (st.at + Layout.glyph_box))))

-- 9: "a box's inflated edge or transformed corner is not finite"
abbrev pub Nine : List ℕ → Cursor → Type 0
Nine s st = (Draws (byte_at s st) × DrawnUnbounded s st) ⊎ ((byte_at s st ≡ Layout.glyph_code) × GlyphUnbounded s st)
