use Rattle.group.proofs.Beginning.{cards_begin}
use Rattle.group.proofs.cards_begin.Goals as goal

pub returns : goal.returns
returns c = cards_begin
