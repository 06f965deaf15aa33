use Rattle.group.proofs.Balloting.{ballots_rise}
use Rattle.group.proofs.ballots_rise.Goals as goal

pub returns : goal.returns
returns c = ballots_rise
