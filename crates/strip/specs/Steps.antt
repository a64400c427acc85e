-- One step of reading: the command at the cursor is turned away, or the cursor moves past it. The checks stand in the table's order.
use Rattle.base_refusals.specs.declared.Fault.{Fault}
use Rattle.base_refusals.specs.declared.Fault.TheVariants.{CutOff, UnknownCode, NoOpenClip, TooMany, GlyphOrder, BoxNotFinite}
use Rattle.base_refusals.specs.declared.Refusal.{Refusal}
use Rattle.base_refusals.specs.Table.{refused}
use Rattle.std.specs.Prelude.{◌≡◌, Bool, List, ℕ, ◌+◌, ◌-◌, leb, ltb, eqb, length, get_or, Option, Some, None, Result, Ok, Err}
use Rattle.std.specs.Float.{binary64}
use Rattle.std.specs.Float.Ieee.{of_bits}
use Rattle.base_lists.specs.Pick.{pick}
use Rattle.base_little_endian.specs.Words.{u16_at}
use Rattle.kurbo_geometry.specs.declared.Rect.{Rect}
use Rattle.kurbo_geometry.specs.Boxes.{union}
use Rattle.kurbo_affine.specs.Affines.{try_transform}
use Rattle.display_list_commands.specs.Bounds.{transform_of, try_with}
use Rattle.strip_format.specs.Format.{length_of, rect_at, command_at}
use Rattle.strip_format.specs.Layout as Layout
use Rattle.strip_format.specs.Limits as Limits
use Rattle.strip_operand_checks.specs.Operands.{operands_at}
use Rattle.strip.specs.declared.Cursor.{Cursor}
use Rattle.strip.specs.declared.Step.{Step}
use Rattle.strip.specs.declared.Step.TheVariants.{Next, Clip, Pop, Draw, End}

-- a strip's first byte is at the cursor, and nothing has been read of it
abbrev pub start_at : ℕ → Cursor
start_at at =
    let z = of_bits binary64 0 in
    record { at = at; depth = 0; clips = 0; commands = 0; glyphs = 0; due = 0; run = 0; united = record { x0 = z; y0 = z; x1 = z; y1 = z } }

-- 7: "GLYPH when none is due, or another command while glyphs are due"
unfoldable pub due_fits : ℕ → ℕ → Bool
due_fits b due = pick (eqb b Layout.glyph_code) (ltb 0 due) (eqb due 0)

-- 9: "a box's inflated edge or transformed corner is not finite"
abbrev pub on_box : ℕ → Option Rect → (Rect → Result Step Refusal) → Result Step Refusal
on_box at (Some box) k = k box
on_box at None k = refused BoxNotFinite at

-- 3 and 4 of operands are found at the command
abbrev pub on_operands : ℕ → Result (Unit {0}) Fault → Result Step Refusal → Result Step Refusal
on_operands at (Ok u) step = step
on_operands at (Err f) step = refused f at

-- the cursor behind a CLIP, a POP and an END
abbrev pub opened : Cursor → Cursor
opened st = record st { at = st.at + Layout.clip_length; depth = st.depth + 1; clips = st.clips + 1 }

abbrev pub closed : Cursor → Cursor
closed st = record st { at = st.at + Layout.pop_length; depth = st.depth - 1 }

abbrev pub past_end : Cursor → Cursor
past_end st = record st { at = st.at + Layout.end_length }

-- CLIP. 6: "33rd open clip, 4,097th clip pushed"
unfoldable pub clip_step : List ℕ → Cursor → Result Step Refusal
clip_step s st =
    pick (leb Limits.most_depth st.depth)
    (refused TooMany st.at)
    (pick (leb Limits.most_clips st.clips)
    (refused TooMany st.at)
    (Ok (Clip (opened st) (rect_at s (st.at + Layout.clip_box)))))

-- POP. 5: "POP with no clip open"
unfoldable pub pop_step : Cursor → Result Step Refusal
pop_step st =
    pick (eqb st.depth 0) (refused NoOpenClip st.at) (Ok (Pop (closed st)))

-- a drawing command of this length has been read; this many glyphs of it are due
abbrev pub drawn : Cursor → ℕ → ℕ → Cursor
drawn st len due = record st { at = st.at + len; commands = st.commands + 1; due = due; run = st.at }

-- FILL, STROKE, SCENE, and a RUN without glyphs: the command is whole. 6: "4,097th drawing command"
unfoldable pub draw_step : List ℕ → Cursor → ℕ → Result Step Refusal
draw_step s st len =
    pick (leb Limits.most_commands st.commands)
    (refused TooMany st.at)
    (on_box st.at (try_with (command_at s st.at) st.united) (λ box. Ok (Draw (drawn st len 0) st.at box)))

-- how many glyphs a command announces, and the step of a RUN that announces some
abbrev pub announced : List ℕ → ℕ → ℕ → ℕ
announced s at b = pick (eqb b Layout.run_code) (u16_at s (at + Layout.run_count)) 0

abbrev pub announce : Cursor → ℕ → Result Step Refusal
announce st due = pick (leb Limits.most_commands st.commands) (refused TooMany st.at) (Ok (Next (drawn st Layout.run_length due)))

-- RUN: "a run's united box is tested at its last GLYPH (the position), or at RUN when the count is 0"
unfoldable pub run_step : List ℕ → Cursor → Result Step Refusal
run_step s st =
    pick (eqb (u16_at s (st.at + Layout.run_count)) 0)
    (draw_step s st Layout.run_length)
    (announce st (u16_at s (st.at + Layout.run_count)))

-- the boxes of a run's glyphs up to this one, united: the first glyph stands right behind its RUN
abbrev pub unite : Cursor → Rect → Rect
unite st box = pick (eqb st.at (st.run + Layout.run_glyphs)) box (union st.united box)

abbrev pub glyph_read : Cursor → Rect → Cursor
glyph_read st box = record st { at = st.at + Layout.glyph_length; glyphs = st.glyphs + 1; due = st.due - 1; united = unite st box }

-- GLYPH: "GLYPH tests its own box", the last one the united box too. 6: "16,385th glyph of a frame"
unfoldable pub last_step : List ℕ → Cursor → Rect → Result Step Refusal
last_step s st box =
    pick (eqb st.due 1)
    (on_box st.at (try_transform (transform_of (command_at s st.run)) (unite st box)) (λ whole. Ok (Draw (glyph_read st box) st.run whole)))
    (Ok (Next (glyph_read st box)))

unfoldable pub glyph_step : List ℕ → Cursor → Result Step Refusal
glyph_step s st =
    pick (leb Limits.most_glyphs st.glyphs)
    (refused TooMany st.at)
    (on_box st.at (try_transform (transform_of (command_at s st.run)) (rect_at s (st.at + Layout.glyph_box)))
    (λ own. last_step s st (rect_at s (st.at + Layout.glyph_box))))

-- END
abbrev pub end_step : Cursor → Result Step Refusal
end_step st = Ok (End (past_end st))

-- "effect", by the command's byte
unfoldable pub effect_of : List ℕ → Cursor → ℕ → Result Step Refusal
effect_of s st b =
    pick (eqb b Layout.end_code)
    (end_step st)
    (pick (eqb b Layout.clip_code)
    (clip_step s st)
    (pick (eqb b Layout.pop_code)
    (pop_step st)
    (pick (eqb b Layout.run_code) (run_step s st) (pick (eqb b Layout.glyph_code) (glyph_step s st) (draw_step s st (length_of b))))))

-- a byte that is none of END, CLIP, POP and GLYPH
abbrev pub Draws : ℕ → Type 0
Draws b = (b ≡ Layout.end_code → ⊥) × (b ≡ Layout.clip_code → ⊥) × (b ≡ Layout.pop_code → ⊥) × (b ≡ Layout.glyph_code → ⊥)

-- the checks in the table's order: a byte, a byte of the table, glyphs due, length, operands, effect
unfoldable pub step_at : List ℕ → Cursor → Result Step Refusal
step_at s st =
    pick (ltb st.at (length s))
    (pick (leb (get_or s st.at 0) Layout.last_code)
    (pick (due_fits (get_or s st.at 0) st.due)
    (pick (ltb (length s - st.at) (length_of (get_or s st.at 0)))
    (refused CutOff st.at)
    (on_operands st.at (operands_at s st.at (get_or s st.at 0)) (effect_of s st (get_or s st.at 0))))
    (refused GlyphOrder st.at))
    (refused UnknownCode st.at))
    (refused CutOff (length s))
