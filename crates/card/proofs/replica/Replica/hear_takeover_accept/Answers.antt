use Rattle.std.proofs.Common.{rules}
use Rattle.card.specs.Delivering.{acknowledges_takeover}
use Rattle.card.proofs.replica.Replica.hear_takeover_accept.Goals as goal

pub returns-in_err-takeover : goal.returns-in_err-takeover
unfolding acknowledges_takeover
returns-in_err-takeover c = search rules

pub returns-then-not-is_live : goal.returns-then-not-is_live
unfolding acknowledges_takeover
returns-then-not-is_live c = search rules

pub returns : goal.returns
unfolding acknowledges_takeover
returns c = search rules
