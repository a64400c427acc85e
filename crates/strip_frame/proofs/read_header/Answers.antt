use Rattle.std.specs.Prelude.{Err}
use mathlib.Core.Path.{sym, ap, ◌∙◌}
use Rattle.strip_frame.proofs.Checks.{header_short, header_bad, header_good}
use Rattle.strip_frame.proofs.read_header.Goals as goal

pub returns-then-s-lt-HEADER_LENGTH : goal.returns-then-s-lt-HEADER_LENGTH
returns-then-s-lt-HEADER_LENGTH c = ap Err c.at.ensures ∙ header_short _ c.if-s-lt-HEADER_LENGTH.true

pub returns-then-not-fits : goal.returns-then-not-fits
returns-then-not-fits c = ap Err c.at-then-not-fits.ensures ∙ header_bad _ _ c.if-s-lt-HEADER_LENGTH.false c.sizes_at-screen.ensures (sym c.fits.ensures ∙ c.if-not-fits.true)

pub returns : goal.returns
returns c = header_good _ _ c.if-s-lt-HEADER_LENGTH.false c.sizes_at-screen.ensures (sym c.fits.ensures ∙ c.if-not-fits.false)
