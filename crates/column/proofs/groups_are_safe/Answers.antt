use Rattle.column.proofs.Safe.{group_safe}
use Rattle.column.proofs.groups_are_safe.Goals as goal

pub returns : goal.returns
returns c = group_safe
