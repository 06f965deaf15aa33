use Rattle.agreement.proofs.Merging.{walks_merge}
use Rattle.agreement.proofs.walks_merge.Goals as goal

pub returns : goal.returns
returns c = walks_merge
