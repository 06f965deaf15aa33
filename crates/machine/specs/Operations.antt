-- Which operation a command asks for.
use Rattle.std.specs.Prelude.{ℕ, cond, Some, None, Option, ◌==◌, nat_lt}
use Rattle.command.specs.declared.Command.{Command}
use Rattle.machine.specs.declared.operation.Operation.{Operation}
use Rattle.machine.specs.declared.operation.Operation.TheVariants.{Read, Put, Take}

-- the operation that has a number, if any has
abbrev pub operation : ℕ → Option Operation
operation n = cond (n == 1) (Some Read) (cond (n == 2) (Some Put) (cond (n == 3) (Some Take) None))

-- the operation that a command asks of a machine of n bays, if the machine knows it and has the bay
abbrev pub served : ℕ → Command → Option Operation
served n c = cond (nat_lt c.bay n) (operation c.operation) None
