use Rattle.group.proofs.Called.{proposals}
use Rattle.group.proofs.proposals_turn.Goals as goal

pub returns : goal.returns
returns c = λ f r s S c x q. proposals f r s S c x q
