use Rattle.agreement.proofs.Example.{some_history}
use Rattle.agreement.proofs.some_history_decides.Goals as goal

pub returns : goal.returns
returns c = some_history
