-- How far a stroke reaches beyond its path. To believe: "STROKE first inflates it by width / 2 times the larger of the join scale (miter: miter limit
-- or 1, the larger; else 1) and the cap scale (bits 3FF6A09E667F3BCD hex if either cap is square, else 1)."
use Rattle.std.specs.Prelude.{Float}
use Rattle.std.specs.Float.{binary64}
use Rattle.std.specs.Float.Ieee.{mul, div, of_bits}
use Rattle.base_floats.specs.Order.{larger}
use Rattle.display_list_commands.specs.declared.Join.{Join}
use Rattle.display_list_commands.specs.declared.Join.TheVariants as J
use Rattle.display_list_commands.specs.declared.Cap.{Cap}
use Rattle.display_list_commands.specs.declared.Cap.TheVariants as C
use Rattle.display_list_commands.specs.declared.Stroke.{Stroke}

-- 1 and 2, as f64
abbrev pub one : Float
one = of_bits binary64 0x3ff0_0000_0000_0000

abbrev pub two : Float
two = of_bits binary64 0x4000_0000_0000_0000

-- "miter: miter limit or 1, the larger; else 1"
abbrev pub join_scale : Join → Float → Float
join_scale J.Bevel limit = one
join_scale J.Miter limit = larger limit one
join_scale J.Round limit = one

-- the root of 2 for a square cap; else what the other cap gives
abbrev pub cap_scale : Cap → Float → Float
cap_scale C.Butt rest = rest
cap_scale C.Square rest = of_bits binary64 0x3ff6_a09e_667f_3bcd
cap_scale C.Round rest = rest

-- "width / 2 times the larger of the join scale .. and the cap scale"
unfoldable pub stroke_bounds_inflation : Stroke → Float
stroke_bounds_inflation s =
    mul binary64 (div binary64 s.width two) (larger (join_scale s.join s.miter_limit) (cap_scale s.start_cap (cap_scale s.end_cap one)))
