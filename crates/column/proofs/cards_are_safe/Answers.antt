use Rattle.column.proofs.Cards.{cards_safe}
use Rattle.column.proofs.cards_are_safe.Goals as goal

pub returns : goal.returns
returns c = cards_safe
