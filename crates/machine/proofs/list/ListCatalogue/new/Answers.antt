use Rattle.std.proofs.Common.{ap, ◌∙◌}
use Rattle.machine.specs.Listing.{tabled}
use Rattle.machine.proofs.Listed.{tabled_first}
use Rattle.machine.proofs.list.ListCatalogue.new.Goals as goal

pub returns : goal.returns
returns c = ap tabled c.in_ok-pairs.ensures.items ∙ tabled_first
