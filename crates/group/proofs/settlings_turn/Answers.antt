use Rattle.group.proofs.Called.{settlings}
use Rattle.group.proofs.settlings_turn.Goals as goal

pub returns : goal.returns
returns c = λ f r s S log i x q. settlings f r s S log i x q
