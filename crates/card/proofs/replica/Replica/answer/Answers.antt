use Rattle.std.proofs.Common.{rules}
use Rattle.card.specs.Delivering.{answers}
use Rattle.card.proofs.replica.Replica.answer.Goals as goal

pub returns : goal.returns
unfolding answers
returns c = search rules
