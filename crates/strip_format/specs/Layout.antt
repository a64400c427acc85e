-- Document 01's table of the strip, "Byte (hex), Name, Operands, Length": each command's byte, where each operand stands behind it, and the command's
-- length. No other definition writes these numbers; `layout` is the same for code.
use Rattle.std.specs.Prelude.{ℕ, ◌+◌}

-- the byte itself: all that there is of a command without operands, and of a byte that is no command's
abbrev pub code_length : ℕ
code_length = 1

-- ---- 00 END: none
abbrev pub end_code : ℕ
end_code = 0

abbrev pub end_length : ℕ
end_length = code_length

-- ---- 01 CLIP: "box"
abbrev pub clip_code : ℕ
clip_code = 1

abbrev pub clip_box : ℕ
clip_box = 1

abbrev pub clip_length : ℕ
clip_length = 33

-- ---- 02 POP: none
abbrev pub pop_code : ℕ
pop_code = 2

abbrev pub pop_length : ℕ
pop_length = code_length

-- ---- 03 FILL: "path, box, affine, brush"
abbrev pub fill_code : ℕ
fill_code = 3

abbrev pub fill_path : ℕ
fill_path = 1

abbrev pub fill_box : ℕ
fill_box = 9

abbrev pub fill_affine : ℕ
fill_affine = 41

abbrev pub fill_brush : ℕ
fill_brush = 89

abbrev pub fill_length : ℕ
fill_length = 97

-- ---- 04 STROKE: "as FILL, width, join u8, miter limit, start cap u8, end cap u8, dash". What it has beside FILL's operands is its style, which
-- begins with the width; the style's other operands are counted from there
abbrev pub stroke_code : ℕ
stroke_code = 4

abbrev pub stroke_style : ℕ
stroke_style = 97

abbrev pub style_join : ℕ
style_join = 8

abbrev pub style_miter_limit : ℕ
style_miter_limit = 9

abbrev pub style_start_cap : ℕ
style_start_cap = 17

abbrev pub style_end_cap : ℕ
style_end_cap = 18

abbrev pub style_dash : ℕ
style_dash = 19

abbrev pub stroke_join : ℕ
stroke_join = stroke_style + style_join

abbrev pub stroke_miter_limit : ℕ
stroke_miter_limit = stroke_style + style_miter_limit

abbrev pub stroke_start_cap : ℕ
stroke_start_cap = stroke_style + style_start_cap

abbrev pub stroke_end_cap : ℕ
stroke_end_cap = stroke_style + style_end_cap

abbrev pub stroke_length : ℕ
stroke_length = 124

-- ---- 05 RUN: "font, size f32, affine, brush, box, glyph count u16"; its first glyph stands right behind it
abbrev pub run_code : ℕ
run_code = 5

abbrev pub run_font : ℕ
run_font = 1

abbrev pub run_size : ℕ
run_size = 9

abbrev pub run_affine : ℕ
run_affine = 13

abbrev pub run_brush : ℕ
run_brush = 61

abbrev pub run_box : ℕ
run_box = 69

abbrev pub run_count : ℕ
run_count = 101

abbrev pub run_length : ℕ
run_length = 103

abbrev pub run_glyphs : ℕ
run_glyphs = run_length

-- ---- 06 GLYPH: "id u32, x f32, y f32, box"
abbrev pub glyph_code : ℕ
glyph_code = 6

abbrev pub glyph_id : ℕ
glyph_id = 1

abbrev pub glyph_x : ℕ
glyph_x = 5

abbrev pub glyph_y : ℕ
glyph_y = 9

abbrev pub glyph_box : ℕ
glyph_box = 13

abbrev pub glyph_length : ℕ
glyph_length = 45

-- ---- 07 SCENE: "content, generation u64, target, affine, box"
abbrev pub scene_code : ℕ
scene_code = 7

abbrev pub scene_content : ℕ
scene_content = 1

abbrev pub scene_generation : ℕ
scene_generation = 9

abbrev pub scene_target : ℕ
scene_target = 17

abbrev pub scene_affine : ℕ
scene_affine = 25

abbrev pub scene_box : ℕ
scene_box = 73

abbrev pub scene_length : ℕ
scene_length = 105

-- ---- the last byte in the table: a byte above it is no command's
abbrev pub last_code : ℕ
last_code = scene_code
