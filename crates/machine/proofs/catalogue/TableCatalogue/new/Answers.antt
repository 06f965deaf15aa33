use Rattle.machine.specs.Catalogues.{catalogue}
use Rattle.machine.proofs.Alikes.{one_rule}
use Rattle.machine.proofs.catalogue.TableCatalogue.new.Goals as goal

pub returns-clause-named : goal.returns-clause-named
returns-clause-named c = one_rule catalogue
