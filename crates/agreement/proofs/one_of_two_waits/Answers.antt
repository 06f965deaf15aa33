use Rattle.agreement.proofs.Compatibility.{one_waits}
use Rattle.agreement.proofs.one_of_two_waits.Goals as goal

pub returns : goal.returns
returns c = one_waits
