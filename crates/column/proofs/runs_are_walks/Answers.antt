use Rattle.column.proofs.Running.{goes_on}
use Rattle.column.proofs.runs_are_walks.Goals as goal

pub returns : goal.returns
returns c = goes_on
