-- `ListSpace::diff_dirty` meets its contract: place by place, and then the boxes of what only one list has. Assumes nothing.
use mathlib.Core.Path.{◌∙◌, ap, refl}
use Prim.Native.Nat.{◌+◌, ◌<◌}
use native.Mathlib.Omega.{arith}
use Rattle.std.proofs.Common.{rules}
use Rattle.base_rect_list.proofs.Turns.{to_start, to_add, to_skip, to_listed, listed_as}
use Rattle.runtime.proofs.Repeats.{clips_of, no_clips_alike}
use Rattle.runtime.proofs.Changes.{changed_start, changed_told, changed_rest}
use Rattle.runtime.proofs.ListSpace.diff_dirty.Goals as goal
use Rattle.runtime.proofs.ListSpace.diff_dirty.Goals.{in-Same, in_default}

pub loop-i-init : goal.loop-i-init
loop-i-init c = (omega (arith, c.new-list.ensures.1), to_skip to_start (changed_start _ _ _ _ _ _), no_clips_alike _ _)

pub change-requires : goal.change-requires
change-requires c = (
  record {
    count = c.args.old + c.args.new;
    stored = c.requires.0;
    old = omega (arith, c.min-common.ensures, c.loop-i-test.true);
    new = omega (arith, c.min-common.ensures, c.loop-i-test.true);
  },
  c.loop-i.invariant.2,
)

pub loop-i-preserved : goal.loop-i-preserved
loop-i-preserved c =
    let old : c.loop-i.i < c.args.old = omega (arith, c.min-common.ensures, c.loop-i-test.true) in
    let new : c.loop-i.i < c.args.new = omega (arith, c.min-common.ensures, c.loop-i-test.true) in
    elim c.match-change.branch [
      | in-Same w ↦
          let same = w.in-Same.ensures in
          rw (w.list-is, w.known-is, w.clip_number_at.ensures, w.clip_number_at-in-Same.ensures)
          (omega (arith, c.loop-i.invariant.0), to_skip c.loop-i.invariant.1 (changed_told _ _ _ _ _ _ c.loop-i.i old new same), clips_of c.args.self.bytes.now c.args.self.boxes.now c.args.self.below.now c.args.self.items.now _ _ (same.equals refl))
      | in_default w ↦
          rw (w.list-is, w.known-is)
          (omega (arith, c.loop-i.invariant.0, w.append_change.ensures.added.most), to_add c.loop-i.invariant.1 (changed_told _ _ _ _ _ _ c.loop-i.i old new c.change.ensures) w.append_change.ensures, c.loop-i.invariant.2)
    ]

-- the remainders
pub returns : goal.returns
returns c =
    let going = to_add c.loop-i.invariant.1 (changed_rest _ _ _ _ _ _ _ c.requires.0 c.loop-i.i c.min-common.result (omega (arith, c.loop-i.auto.i-end, c.loop-i-test.false)) c.min-common.ensures) c.append_bounds.ensures in
    let named = c.append_bounds-2.ensures.same_place ∙ going.same_place ∙ ap (λ w. w.ghost_name) c.new-list.ensures.0 in
    listed_as (to_listed going refl c.append_bounds-2.ensures c.new-list.ensures.1) (ap (λ w. w.now) c.new-list.ensures.0) (search (rules, named))
