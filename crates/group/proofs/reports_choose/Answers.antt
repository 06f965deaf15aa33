use Rattle.group.proofs.Choosing.{reports_choose}
use Rattle.group.proofs.reports_choose.Goals as goal

pub returns : goal.returns
returns c = reports_choose
