use Rattle.std.proofs.Common.{◌≡◌, None}
use Rattle.block.specs.Fits.{fits}
use Rattle.block.specs.Verdicts.{lowest}
use Rattle.block.proofs.fits.check_fits.Given as goal

abbrev pub invariant-loop-place : goal.invariant-loop-place
invariant-loop-place l = lowest (fits l.words) l.place ≡ None
