use Rattle.std.proofs.Common.{rules}
use Rattle.card.specs.Delivering.{acknowledges_owner}
use Rattle.card.proofs.replica.Replica.hear_owner_accept.Goals as goal

pub returns : goal.returns
unfolding acknowledges_owner
returns c = search rules
