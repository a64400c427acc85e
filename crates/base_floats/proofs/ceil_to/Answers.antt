-- `base_floats::ceil_to` meets its contract: below the limit the value rounded down is exact, and one more where the value lies above it. Assumes nothing.
use Rattle.std.proofs.Common.{◌≡◌, sym, ap, ◌∙◌, arith}
use lib.Ieee.{lt}
use Rattle.base_ieee.proofs.Rank.{ordered_of, lt_right}
use Rattle.base_floats.specs.Whole.{whole, floor}
use Rattle.base_floats.proofs.Wholes.{ceil_more, floor_ceil}
use Rattle.base_floats.proofs.Tests.{ceil_not_more}
use Rattle.base_floats.proofs.ceil_to.Goals as goal
use Rattle.base_floats.proofs.ceil_to.Goals.{else-low-limit-via-then-low-limit+else-more, else-low-limit-via-else-low-limit}

pub returns-then-more : goal.returns-then-more
returns-then-more c =
    let x = c.args.x in
    let low : c.floor_to-low.result ≡ floor x = omega arith in
    let test : lt (whole (floor x)) x ≡ lt c.from.result x = ap (λ n. lt (whole n) x) (sym low) ∙ ap (λ z. lt z x) (sym c.from.ensures) in
    let k = ceil_more x (ordered_of _ c.well_formed.0.1 (lt_right _ _ c.if-more.true)) (omega arith) (test ∙ c.if-more.true) in
    omega arith

pub returns-else-low-limit : goal.returns-else-low-limit
returns-else-low-limit c =
    elim c.else-low-limit.branch [
      | else-low-limit-via-then-low-limit+else-more w ↦
          let x = c.args.x in
          let low : c.floor_to-low.result ≡ floor x = omega (arith, w.if-low-limit.true) in
          let test : lt (whole (floor x)) x ≡ lt c.from.result x = ap (λ n. lt (whole n) x) (sym low) ∙ ap (λ z. lt z x) (sym c.from.ensures) in
          let k = ceil_not_more x c.well_formed.0.1 (omega (arith, w.if-low-limit.true)) (test ∙ w.if-more.false) in
          omega (arith, w.if-low-limit.true)
      | else-low-limit-via-else-low-limit w ↦ omega (arith, floor_ceil c.args.x, w.if-low-limit.false)
    ]
