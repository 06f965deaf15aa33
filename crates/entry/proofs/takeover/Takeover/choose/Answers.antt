use Rattle.std.proofs.Common.{rules}
use Rattle.entry.specs.Reports.{choice}
use Rattle.entry.proofs.takeover.Takeover.choose.Goals as goal

pub returns-then-is_some : goal.returns-then-is_some
unfolding choice
returns-then-is_some c = search rules

pub returns-then-may_be_committed : goal.returns-then-may_be_committed
unfolding choice
returns-then-may_be_committed c = search rules

pub returns-else-may_be_committed : goal.returns-else-may_be_committed
unfolding choice
returns-else-may_be_committed c = search rules
