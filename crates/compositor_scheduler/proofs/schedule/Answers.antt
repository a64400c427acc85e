-- `schedule` meets its contract: the first j bands are written. Assumes nothing.
use Rattle.std.proofs.Common.{◌*◌, refl, ◌∙◌, arith}
use Rattle.compositor_screen.proofs.Laws.{sizes_of}
use Rattle.compositor_bands.proofs.Cuts.{regions_fit}
use Rattle.compositor_scheduler.proofs.Rows.{banded, taken, going_start, pixels_low, m_few, p_few, going_full, going_next}
use Rattle.compositor_scheduler.proofs.Writes.{part_length, put_length, put_part}
use Rattle.compositor_scheduler.proofs.schedule.Goals as goal

pub band_count-j-end-requires : goal.band_count-j-end-requires
band_count-j-end-requires c = (sizes_of c.args.screen c.requires.sizes).some_band

pub loop-j-init : goal.loop-j-init
loop-j-init c =
    let s = sizes_of c.args.screen c.requires.sizes in
    (c.band_count-j-end.ensures, refl, going_start _ _ _ s (regions_fit _ _ s.width_most s.height_most _))

pub returns-then-room-count : goal.returns-then-room-count
returns-then-room-count c =
    let l = c.loop-j.invariant in
    let n = banded l.0 c.loop-j-test.true c.requires.n_in_bounds (c.schedule_band-m.auto.work ∙ l.1) c.band_at-band.ensures c.schedule_band-m.ensures in
    going_full l.2 n c.if-room-count.true _

pub put_band-pixels-requires : goal.put_band-pixels-requires
put_band-pixels-requires c =
    let l = c.loop-j.invariant in
    let n = banded l.0 c.loop-j-test.true c.requires.n_in_bounds (c.schedule_band-m.auto.work ∙ l.1) c.band_at-band.ensures c.schedule_band-m.ensures in (
      omega (arith, m_few l.2 n, taken n),
      omega (arith, l.2.room, l.2.same_length, c.if-room-count.false, taken n, part_length c.loop-j.out (4 * c.loop-j.count)),
    )

pub overflow_add-pixels : goal.overflow_add-pixels
overflow_add-pixels c =
    let l = c.loop-j.invariant in
    let n = banded l.0 c.loop-j-test.true c.requires.n_in_bounds (c.schedule_band-m.auto.work ∙ l.1) c.band_at-band.ensures c.schedule_band-m.ensures in
    omega (arith, pixels_low l.2, p_few l.2 n _ c.put_band-pixels.ensures.value)

pub loop-j-preserved : goal.loop-j-preserved
loop-j-preserved c =
    let l = c.loop-j.invariant in
    let n = banded l.0 c.loop-j-test.true c.requires.n_in_bounds (c.schedule_band-m.auto.work ∙ l.1) c.band_at-band.ensures c.schedule_band-m.ensures in (
      l.0,
      c.schedule_band-m.auto.work ∙ l.1,
      going_next l.2 n c.if-room-count.false _ c.put_band-pixels.ensures.value _ (put_length c.loop-j.out (4 * c.loop-j.count) _ c.put_band-pixels.auto.out (omega (arith, l.2.room, l.2.same_length)))
          (put_part c.loop-j.out _ _ c.loop-j.count c.schedule_band-m.result _ (taken n) c.put_band-pixels.ensures.out_after),
    )
