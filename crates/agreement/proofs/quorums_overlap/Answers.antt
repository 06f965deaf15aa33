use Rattle.agreement.proofs.Quorums.{quorums_overlap}
use Rattle.agreement.proofs.quorums_overlap.Goals as goal

pub returns : goal.returns
returns c = quorums_overlap
