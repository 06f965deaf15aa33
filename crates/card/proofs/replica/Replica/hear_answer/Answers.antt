use Rattle.std.proofs.Common.{rules}
use Rattle.card.specs.Delivering.{hears}
use Rattle.card.proofs.replica.Replica.hear_answer.Goals as goal

pub returns : goal.returns
unfolding hears
returns c = search rules
