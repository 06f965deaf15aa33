use Rattle.std.proofs.Common.{◌-◌, ◌≤◌}
use Rattle.feed.proofs.next_block.Given as goal

abbrev pub invariant-loop-filled : goal.invariant-loop-filled
invariant-loop-filled g l = l.filled ≤ 512

abbrev pub decreases-loop-filled : goal.decreases-loop-filled
decreases-loop-filled g l = 512 - l.filled
