use Rattle.std.proofs.Common.{refl}
use Rattle.block.specs.Messages.{message_words}
use Rattle.entry.specs.Answers.{settled}
use Rattle.entry.specs.Owners.{decided}
use Rattle.entry.specs.Reports.{choice}
use Rattle.card.specs.Delivering.{answers, hears, reports}
use Rattle.examples.specs.Examples.{examples}
use Rattle.examples.proofs.examples_hold.Goals as goal

pub returns : goal.returns
unfolding examples message_words settled decided choice answers hears reports
returns c = refl
