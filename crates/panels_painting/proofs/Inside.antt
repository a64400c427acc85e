-- A box inside another touches no pixel that the other does not: for whoever shows that ink lies within a box. Assumes nothing.
use mathlib.Core.Path.{◌≡◌}
use mathlib.Core.Bool.{false}
use Prim.Native.Nat.{ℕ, ◌^◌, ◌<◌}
use native.Mathlib.Omega.{arith}
use lib.Dec.{T}
use lib.Ieee.{lt}
use Rattle.base_ieee.proofs.Rank.{not_lt_ranks}
use Rattle.kurbo_geometry.specs.declared.Rect.{Rect}
use Rattle.kurbo_geometry.specs.Pixels.{touches}
use Rattle.kurbo_geometry.proofs.Edges.{Ordered, area_ranks, ranks_area}
use Rattle.kurbo_geometry.proofs.Meets.{meets_ranks, ranks_meets, touches_area, touches_meets, area_meets}

-- no edge of a lies past that of b
pub record Inside (a b : Rect) : Type 0 where
  pub left : lt a.x0 b.x0 ≡ false
  pub top : lt a.y0 b.y0 ≡ false
  pub right : lt b.x1 a.x1 ≡ false
  pub bottom : lt b.y1 a.y1 ≡ false

pub inside_touches : (a b : Rect) → Ordered a → Ordered b → Inside a b → (p q : ℕ) → p < 2 ^ 53 → q < 2 ^ 53 → T (touches a p q) → T (touches b p q)
inside_touches a b f g i p q pl ql t =
    let left = not_lt_ranks a.x0 b.x0 f.x0 g.x0 i.left in
    let top = not_lt_ranks a.y0 b.y0 f.y0 g.y0 i.top in
    let right = not_lt_ranks b.x1 a.x1 g.x1 f.x1 i.right in
    let bottom = not_lt_ranks b.y1 a.y1 g.y1 f.y1 i.bottom in
    let s = area_ranks a f (touches_area a p q t) in
    let m = meets_ranks a f p q pl ql (touches_meets a p q t) in
    area_meets b p q (ranks_area b g (omega arith) (omega arith)) (ranks_meets b g p q pl ql (record { left = omega arith; right = omega arith; top = omega arith; bottom = omega arith }))
