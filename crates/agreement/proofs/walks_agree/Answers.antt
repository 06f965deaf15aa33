use Rattle.agreement.proofs.Walks.{walks_agree}
use Rattle.agreement.proofs.walks_agree.Goals as goal

pub returns : goal.returns
returns c = walks_agree
