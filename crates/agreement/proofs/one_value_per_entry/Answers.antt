use Rattle.agreement.proofs.Histories.{one_value, one_value_allowed}
use Rattle.agreement.proofs.one_value_per_entry.Goals as goal

pub returns : goal.returns
returns c = record { one_value = one_value; one_value_allowed = one_value_allowed }
