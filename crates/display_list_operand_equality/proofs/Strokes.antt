-- Strokes compared field by field, joins and caps as they are: what `same_stroke` says by their codes and in another order. Assumes nothing.
use mathlib.Core.Path.{◌≡◌, refl, ◌∙◌}
use mathlib.Core.Bool.{Bool, true, false, ◌&&◌}
use lib.Dec.{eqb}
use lib.Ieee.{eq}
use Rattle.display_list_commands.specs.declared.Join.{Join}
use Rattle.display_list_commands.specs.declared.Join.TheVariants as J
use Rattle.display_list_commands.specs.declared.Cap.{Cap}
use Rattle.display_list_commands.specs.declared.Cap.TheVariants as C
use Rattle.display_list_commands.specs.declared.Stroke.{Stroke}
use Rattle.display_list_commands.specs.contracts.JoinPartialEq.TheImpl as joins
use Rattle.display_list_commands.specs.contracts.CapPartialEq.TheImpl as caps
use Rattle.display_list_commands.specs.contracts.StrokePartialEq.TheImpl as strokes
use Rattle.display_list_operand_equality.specs.Operands.{join_code, same_cap, same_stroke}

pub join_told : (j k : Join) → joins.ghosts.eq j k ≡ eqb (join_code j) (join_code k)
join_told J.Bevel J.Bevel = refl
join_told J.Bevel J.Miter = refl
join_told J.Bevel J.Round = refl
join_told J.Miter J.Bevel = refl
join_told J.Miter J.Miter = refl
join_told J.Miter J.Round = refl
join_told J.Round J.Bevel = refl
join_told J.Round J.Miter = refl
join_told J.Round J.Round = refl

pub cap_told : (a b : Cap) → caps.ghosts.eq a b ≡ same_cap a b
unfolding same_cap
cap_told C.Butt C.Butt = refl
cap_told C.Butt C.Square = refl
cap_told C.Butt C.Round = refl
cap_told C.Square C.Butt = refl
cap_told C.Square C.Square = refl
cap_told C.Square C.Round = refl
cap_told C.Round C.Butt = refl
cap_told C.Round C.Square = refl
cap_told C.Round C.Round = refl

-- six tests in another order
six_tests : (a b c d e f : Bool) → (a && (b && (c && (d && (e && f))))) ≡ (a && c && (b && (d && e)) && f)
six_tests true true true true true f = refl
six_tests true true true true false f = refl
six_tests true true true false e f = refl
six_tests true true false d e f = refl
six_tests true false true d e f = refl
six_tests true false false d e f = refl
six_tests false b c d e f = refl

pub stroke_told : (s t : Stroke) → strokes.ghosts.eq s t ≡ same_stroke s t
unfolding same_stroke
stroke_told s t =
    (λ i. eq s.width t.width && (join_told s.join t.join i && (eq s.miter_limit t.miter_limit && (cap_told s.start_cap t.start_cap i && (cap_told s.end_cap t.end_cap i && eqb s.dash t.dash)))))
    ∙ six_tests (eq s.width t.width) (eqb (join_code s.join) (join_code t.join)) (eq s.miter_limit t.miter_limit) (same_cap s.start_cap t.start_cap) (same_cap s.end_cap t.end_cap) (eqb s.dash t.dash)
