-- Machines that hold a number in each bay.
use Rattle.std.specs.Prelude.{◌≡◌, ℕ, cond, List, replicate, Some, None, Option, ◌==◌, slice_index, slice_set, refl}
use Rattle.std.proofs.Common.{arith}
use Rattle.command.specs.declared.Command.{Command}
use Rattle.machine.specs.declared.operation.Operation.{Operation}
use Rattle.machine.specs.declared.operation.Operation.TheVariants.{Read, Put, Take}
use Rattle.machine.specs.declared.outcome.Outcome.{Outcome}
use Rattle.machine.specs.declared.outcome.Outcome.TheVariants.{Done, Refused, NoAmount, Unknown}
use Rattle.machine.specs.Operations.{served}
use Rattle.machine.specs.Rules.{Rule, Pair, Steady, Low}

-- what a kind makes of the number held and an amount: the number after, or none where the state refuses it
abbrev pub Change : Type 0
Change = ℕ → ℕ → Option ℕ

-- an operation on a bay, by the number held and the amount: the outcome, and the number after
abbrev pub Settle : Type 0
Settle = Operation → ℕ → ℕ → Outcome × ℕ

-- a refusal leaves what was held
abbrev pub outcome_of : ℕ → Option ℕ → Outcome × ℕ
outcome_of held (Some after) = (Done, after)
outcome_of held None = (Refused, held)

-- amount 0 is told before the state is looked at
abbrev pub changed : Change → ℕ → ℕ → Outcome × ℕ
changed change held amount = cond (amount == 0) (NoAmount, held) (outcome_of held (change held amount))

-- a read takes any amount
abbrev pub settled : Change → Change → Settle
settled put take Read held amount = (Done, held)
settled put take Put held amount = changed put held amount
settled put take Take held amount = changed take held amount

-- what is not served changes nothing, and what is served changes at most the bay that it names
abbrev pub next_by : Settle → Option Operation → List ℕ → Command → List ℕ
next_by settle None s c = s
next_by settle (Some o) s c = slice_set s c.bay (settle o (slice_index s c.bay) c.amount).1

-- what is not served has value 0; what is served is answered with the number that the bay held
abbrev pub answer_by : Settle → Option Operation → List ℕ → Command → Pair
answer_by settle None s c = (Unknown, 0)
answer_by settle (Some o) s c = ((settle o (slice_index s c.bay) c.amount).0, slice_index s c.bay)

-- a machine of n bays, all 0 at first
abbrev pub cells : ℕ → Settle → Rule
cells n settle = record {
  State = List ℕ;
  First = λ s. s ≡ replicate n 0;
  bays = λ s. n;
  next = λ s c. next_by settle (served n c) s c;
  answer = λ s c. answer_by settle (served n c) s c;
}

pub cells_steady : (n : ℕ) (settle : Settle) → Steady (cells n settle)
cells_steady n settle s c = refl

-- no bay has an outcome of the layer `Once`
pub cells_low : (n : ℕ) (put take : Change) → Low (cells n (settled put take))
cells_low n put take s c = grind arith
