-- What a frame may have at most: document 01's number 6, "33rd open clip, 4,097th clip pushed, 4,097th drawing command, 16,385th glyph of a frame".
-- `limits` is the same for code.
use Rattle.std.specs.Prelude.{ℕ}

abbrev pub most_depth : ℕ
most_depth = 32

abbrev pub most_clips : ℕ
most_clips = 4096

abbrev pub most_commands : ℕ
most_commands = 4096

abbrev pub most_glyphs : ℕ
most_glyphs = 16384
