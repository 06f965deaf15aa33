use Rattle.std.proofs.Common.{rules}
use Rattle.entry.specs.Owners.{decided}
use Rattle.entry.proofs.entry.Entry.decide.Goals as goal

pub returns-then-has_fast_quorum : goal.returns-then-has_fast_quorum
unfolding decided
returns-then-has_fast_quorum c = search rules

pub returns-then-can_settle : goal.returns-then-can_settle
unfolding decided
returns-then-can_settle c = search rules

pub returns-else-has_two_replies : goal.returns-else-has_two_replies
unfolding decided
returns-else-has_two_replies c = search rules
