use Rattle.agreement.proofs.Histories.{histories_settled}
use Rattle.agreement.proofs.histories_settle.Goals as goal

pub returns : goal.returns
returns c = histories_settled
