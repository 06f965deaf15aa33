use Rattle.group.proofs.Scanning.{scans_find}
use Rattle.group.proofs.scans_find.Goals as goal

pub returns : goal.returns
returns c = scans_find
