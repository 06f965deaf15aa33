use Rattle.group.proofs.Agreeing.{groups_agree}
use Rattle.group.proofs.groups_agree.Goals as goal

pub returns : goal.returns
returns c = groups_agree
