use Rattle.group.proofs.Called.{takeovers}
use Rattle.group.proofs.takeovers_turn.Goals as goal

pub returns : goal.returns
returns c = λ f r s S log i x q. takeovers f r s S log i x q
