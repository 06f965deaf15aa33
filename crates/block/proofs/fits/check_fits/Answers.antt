use Rattle.std.proofs.Common.{sym, arith}
use Rattle.block.specs.Fits.{fits}
use Rattle.block.proofs.Lowest.{lowest_none, lowest_more, misfit_fails, misfit_passes}
use Rattle.block.proofs.fits.check_fits.Goals as goal

pub loop-place-init : goal.loop-place-init
loop-place-init c = lowest_none (fits c.args.words.now)

pub loop-place-preserved : goal.loop-place-preserved
loop-place-preserved c =
    lowest_more (fits c.args.words.now) c.loop-place.place c.loop-place.invariant (sym c.if-not-word_fits.ensures)

pub returns-then-not-word_fits : goal.returns-then-not-word_fits
returns-then-not-word_fits c =
    rw (misfit_fails c.args.words.now c.loop-place.place c.loop-place.invariant (sym c.if-not-word_fits.ensures) (omega arith))

pub returns : goal.returns
returns c = rw (misfit_passes c.args.words.now c.loop-place.place c.loop-place.invariant (omega arith))
