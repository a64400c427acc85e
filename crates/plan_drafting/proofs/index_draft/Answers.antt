use Rattle.std.specs.Prelude.{Err}
use Rattle.std.proofs.lemmas.Result.{err_from_is_err_and}
use mathlib.Core.Path.{ap, ◌∙◌}
use Rattle.plan_drafting.proofs.Judged.{no_room, index_over, index_fits, index_full}
use mathlib.Core.Bool.{◌&&◌}
use native.Mathlib.Omega.{arith}
use Rattle.std.proofs.lemmas.Bool.{and_parts}
use Rattle.compositor_screen.specs.Sizes.{size_fits}
use Rattle.plan_drafting.proofs.index_draft.Goals as goal

-- a screen that fits has a height and a band height that do
pub build-requires : goal.build-requires
build-requires c =
    let s = c.args.screen in
    let sizes = and_parts (size_fits s.width) (size_fits s.height && size_fits s.band_height) c.requires.0 in
    let two = and_parts (size_fits s.height) (size_fits s.band_height) sizes.1 in
    (record { held = omega arith; limit = c.requires.1 }, two.0, two.1, c.requires.3)

pub returns-in_err-count-clause-answer : goal.returns-in_err-count-clause-answer
returns-in_err-count-clause-answer c =
    let p = err_from_is_err_and c.from_residual.result c.from_residual.ensures.1 in
    let why = no_room _ _ _ c.in_err-count.ensures.value c.in_err-count.ensures.ok_part ∙ c.at.ensures in
    rw (p.1, p.2) (ap Err why ∙ index_full _ _ _ _ _ c.args.screen _ c.args.words.now c.build.ensures.value c.in_err-count.ensures.ok_part c.requires.2)

pub returns-then-room-count-clause-answer : goal.returns-then-room-count-clause-answer
returns-then-room-count-clause-answer c = ap Err c.at-then-room-count.ensures ∙ index_over _ _ _ _ _ c.args.screen _ c.args.words.now c.build.ensures.value c.in_ok-count.ensures.ok_part c.if-room-count.true

pub returns-clause-answer : goal.returns-clause-answer
returns-clause-answer c = index_fits _ _ _ _ _ c.args.screen _ c.args.words.now c.build.ensures.value c.in_ok-count.ensures.ok_part c.if-room-count.false c.of.ensures
