use Rattle.machine.specs.Pools.{pool}
use Rattle.machine.proofs.Alikes.{one_rule}
use Rattle.machine.proofs.pool.SparePool.new.Goals as goal

pub returns-clause-named : goal.returns-clause-named
returns-clause-named c = one_rule pool
