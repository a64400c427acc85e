-- When a command's operands are refused, once all their bytes are there: "join or cap code above 2" (3), then "a float is infinite or NaN" (4).
use Rattle.std.specs.Prelude.{Bool, true, ◌&&◌, List, ℕ, zero, suc, ◌+◌, leb, eqb, get_or, Result, Ok, Err}
use Rattle.std.specs.Float.{binary32, binary64}
use Rattle.std.specs.Float.Ieee.{of_bits}
use Rattle.std.specs.Float.Ieee.Scale.{finite}
use Rattle.base_lists.specs.Pick.{pick}
use Rattle.base_refusals.specs.declared.Fault.{Fault}
use Rattle.base_refusals.specs.declared.Fault.TheVariants.{UnknownCode, NotFinite}
use Rattle.base_little_endian.specs.Words.{u32_at, u64_at}
use Rattle.strip_format.specs.Layout as Layout

-- the n f64 from an offset on are finite; an f32 is
unfoldable pub finite_from : List ℕ → ℕ → ℕ → Bool
finite_from s at zero = true
finite_from s at (suc n) = finite (of_bits binary64 (u64_at s at)) && finite_from s (at + 8) n

abbrev pub finite_f32 : List ℕ → ℕ → Bool
finite_f32 s at = finite (of_bits binary32 (u32_at s at))

-- every float of a command, used or not
unfoldable pub finite_stroke : List ℕ → ℕ → Bool
finite_stroke s at =
    finite_from s (at + Layout.fill_box) 10 && (finite_from s (at + Layout.stroke_style) 1 && finite_from s (at + Layout.stroke_miter_limit) 1)

unfoldable pub finite_run : List ℕ → ℕ → Bool
finite_run s at = finite_f32 s (at + Layout.run_size) && (finite_from s (at + Layout.run_affine) 6 && finite_from s (at + Layout.run_box) 4)

unfoldable pub finite_glyph : List ℕ → ℕ → Bool
finite_glyph s at = finite_f32 s (at + Layout.glyph_x) && (finite_f32 s (at + Layout.glyph_y) && finite_from s (at + Layout.glyph_box) 4)

-- "join or cap code above 2"
unfoldable pub codes_fit : ℕ → ℕ → ℕ → Bool
codes_fit join start end = leb join 2 && (leb start 2 && leb end 2)

-- what floats come to, by whether all of them are finite
abbrev pub floats_pass : Bool → Result (Unit {0}) Fault
floats_pass t = pick t (Ok tt) (Err NotFinite)

-- whether the operands of a command with the byte b pass, or what is wrong with them
unfoldable pub operands_at : List ℕ → ℕ → ℕ → Result (Unit {0}) Fault
operands_at s at b =
    pick (eqb b Layout.clip_code)
    (floats_pass (finite_from s (at + Layout.clip_box) 4))
    (pick (eqb b Layout.fill_code)
    (floats_pass (finite_from s (at + Layout.fill_box) 10))
    (pick (eqb b Layout.stroke_code)
    (pick (codes_fit (get_or s (at + Layout.stroke_join) 0) (get_or s (at + Layout.stroke_start_cap) 0) (get_or s (at + Layout.stroke_end_cap) 0))
    (floats_pass (finite_stroke s at))
    (Err UnknownCode))
    (pick (eqb b Layout.run_code)
    (floats_pass (finite_run s at))
    (pick (eqb b Layout.glyph_code)
    (floats_pass (finite_glyph s at))
    (pick (eqb b Layout.scene_code) (floats_pass (finite_from s (at + Layout.scene_affine) 10)) (Ok tt))))))
