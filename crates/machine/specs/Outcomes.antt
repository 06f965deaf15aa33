-- The numbers of the outcomes.
use Rattle.std.specs.Prelude.{ℕ}
use Rattle.machine.specs.declared.outcome.Outcome.{Outcome}
use Rattle.machine.specs.declared.outcome.Outcome.TheVariants.{Done, Refused, NoAmount, Unknown, NoPlace, Repeat}

abbrev pub number : Outcome → ℕ
number Done = 0
number Refused = 1
number NoAmount = 2
number Unknown = 3
number NoPlace = 4
number Repeat = 5
