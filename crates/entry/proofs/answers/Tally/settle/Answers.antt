use Rattle.std.proofs.Common.{rules}
use Rattle.entry.specs.Answers.{settled}
use Rattle.entry.proofs.answers.Tally.settle.Goals as goal

pub returns : goal.returns
unfolding settled
returns c = search rules
