use Rattle.group.proofs.Settling.{answers_settle}
use Rattle.group.proofs.answers_settle.Goals as goal

pub returns : goal.returns
returns c = answers_settle
