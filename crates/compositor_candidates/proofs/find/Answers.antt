-- `find` meets its contract. Assumes nothing.
use Rattle.std.specs.Prelude.{Err}
use native.Mathlib.Nat.{div-le_self}
use Prim.Native.Nat.{ℕ, ◌+◌, ◌-◌, ◌/◌}
use mathlib.Core.Path.{sym, ap, ◌∙◌}
use Rattle.base_lists.proofs.Picks.{pick_true, pick_false}
use Rattle.compositor_screen.proofs.Laws.{sizes_of}
use Rattle.compositor_candidates.proofs.Parts.{row_at_start}
use Rattle.compositor_candidates.specs.Table.{find, find_row}
use native.Mathlib.Omega.{arith}
use Rattle.compositor_candidates.proofs.find.Goals as goal

pub returns-then-not-fits-clause-row : goal.returns-then-not-fits-clause-row
unfolding find
returns-then-not-fits-clause-row c = ap Err c.at.ensures ∙ sym (pick_false _ _ _ (sym c.fits.ensures ∙ c.if-not-fits.true))

pub nonzero_div-row : goal.nonzero_div-row
nonzero_div-row c = let s = sizes_of c.args.screen (sym c.fits.ensures ∙ c.if-not-fits.false) in omega (arith, s.some_band)

pub band_count-requires : goal.band_count-requires
band_count-requires c = let s = sizes_of c.args.screen (sym c.fits.ensures ∙ c.if-not-fits.false) in s.some_band

pub find_row-requires : goal.find_row-requires
find_row-requires c =
    let s = sizes_of c.args.screen (sym c.fits.ensures ∙ c.if-not-fits.false) in
    omega (arith, c.band_count.ensures, s.height_most, s.band_most, div-le_self (c.args.screen.height + (c.args.screen.band_height - 1)) c.args.screen.band_height)

pub returns-clause-row : goal.returns-clause-row
unfolding find
returns-clause-row c = c.find_row.ensures ∙ ap (λ (k : ℕ). find_row k (c.args.y / c.args.screen.band_height) c.args.words.now) c.band_count.ensures ∙ sym (pick_true _ _ _ (sym c.fits.ensures ∙ c.if-not-fits.false))

pub returns-clause-position : goal.returns-clause-position
returns-clause-position c = row_at_start _ _ _ c.find_row.ensures
