use Rattle.agreement.specs.Walks.{same_identity, identity_of}
use Rattle.agreement.proofs.Lists.{firsts_agree}
use Rattle.agreement.proofs.firsts_agree.Goals as goal

pub returns : goal.returns
returns c = firsts_agree same_identity identity_of
