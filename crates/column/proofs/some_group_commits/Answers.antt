use Rattle.column.proofs.Example.{some_commits}
use Rattle.column.proofs.some_group_commits.Goals as goal

pub returns : goal.returns
returns c = some_commits
