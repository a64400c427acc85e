use lib.Ieee.{lt, le}
use Rattle.std.proofs.Common.{arith}
use Rattle.compositor_band_misses.proofs.Rows.{misses_above, misses_below, either_misses}
use Rattle.compositor_band_misses.proofs.meeting.Goals as goal

pub returns : goal.returns
returns c = let s = c.args in either_misses (lt c.from.result s.rect.y1) (le c.from-2.result s.rect.y0)
    (misses_above s.rect s.band _ c.from.ensures c.well_formed.0.1.1.1.1.1.0.1 (omega (arith, c.requires.high)))
    (misses_below s.rect s.band _ c.bottom-end.ensures _ c.from-2.ensures c.well_formed.0.1.1.1.0.1 (omega (arith, c.bottom-end.ensures, c.requires.high)))
