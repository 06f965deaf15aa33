-- The drive catalogue: the array that each of 64 bays is assigned to, 0 for none.
use Rattle.std.specs.Prelude.{cond, Some, None, ◌==◌}
use Rattle.machine.specs.Cells.{Change, Settle, settled, cells}
use Rattle.machine.specs.Rules.{Rule}

-- an array is assigned to a bay that has none
abbrev pub assigned : Change
assigned held amount = cond (held == 0) (Some amount) None

-- a bay is released from the array that it has, and from no other
abbrev pub released : Change
released held amount = cond (held == amount) (Some 0) None

-- what an operation makes of one bay
abbrev pub catalogued : Settle
catalogued = settled assigned released

-- the rule of every make of the catalogue
abbrev pub catalogue : Rule
catalogue = cells 64 catalogued
