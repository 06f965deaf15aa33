use Rattle.group.proofs.Called.{deliveries_turn}
use Rattle.group.proofs.deliveries_turn.Goals as goal

pub returns : goal.returns
returns c = deliveries_turn
