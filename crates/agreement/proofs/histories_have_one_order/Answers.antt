use Rattle.agreement.proofs.Histories.{histories_walked}
use Rattle.agreement.proofs.histories_have_one_order.Goals as goal

pub returns : goal.returns
returns c = histories_walked
