use Rattle.std.proofs.Common.{rules}
use Rattle.card.specs.Delivering.{reports}
use Rattle.card.proofs.replica.Replica.hear_report.Goals as goal

pub returns-in_err-takeover : goal.returns-in_err-takeover
unfolding reports
returns-in_err-takeover c = search rules

pub returns-then-not-is_live : goal.returns-then-not-is_live
unfolding reports
returns-then-not-is_live c = search rules

pub returns : goal.returns
unfolding reports
returns c = search rules
