-- The spare pool: how many spares there are of each of 16 classes, 65535 at most.
use Rattle.std.specs.Prelude.{◌+◌, ◌-◌, cond, Some, None, nat_le}
use Rattle.machine.specs.Cells.{Change, Settle, settled, cells}
use Rattle.machine.specs.Rules.{Rule}

-- spares are added where the class can count them
abbrev pub added : Change
added held amount = cond (nat_le (held + amount) 65535) (Some (held + amount)) None

-- spares are taken where there are as many
abbrev pub taken : Change
taken held amount = cond (nat_le amount held) (Some (held - amount)) None

-- what an operation makes of one class
abbrev pub pooled : Settle
pooled = settled added taken

-- the rule of the pool: a bay of it is a class
abbrev pub pool : Rule
pool = cells 16 pooled
