use Rattle.std.proofs.Common.{get_or, sym, arith}
use Rattle.block.specs.Ranges.{in_range}
use Rattle.block.proofs.Lowest.{lowest_none, lowest_more, range_fails, range_passes}
use Rattle.block.proofs.ranges.check_ranges.Goals as goal

pub loop-place-init : goal.loop-place-init
loop-place-init c = lowest_none (λ k. in_range k (get_or c.args.words.now k 0))

pub loop-place-preserved : goal.loop-place-preserved
loop-place-preserved c =
    lowest_more (λ k. in_range k (get_or c.args.words.now k 0)) c.loop-place.place c.loop-place.invariant
    (sym c.if-not-in_range.ensures)

pub returns-then-not-in_range : goal.returns-then-not-in_range
returns-then-not-in_range c =
    rw (range_fails c.args.words.now c.loop-place.place c.loop-place.invariant (sym c.if-not-in_range.ensures) (omega arith))

pub returns : goal.returns
returns c = rw (range_passes c.args.words.now c.loop-place.place c.loop-place.invariant (omega arith))
