use Rattle.std.proofs.Common.{◌≡◌, get_or, None}
use Rattle.block.specs.Ranges.{in_range}
use Rattle.block.specs.Verdicts.{lowest}
use Rattle.block.proofs.ranges.check_ranges.Given as goal

abbrev pub invariant-loop-place : goal.invariant-loop-place
invariant-loop-place l = lowest (λ i. in_range i (get_or l.words i 0)) l.place ≡ None
