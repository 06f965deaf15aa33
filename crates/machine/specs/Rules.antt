-- What a machine's rule is, and what a list of commands comes to under it.
use Rattle.std.specs.Prelude.{◌≡◌, ℕ, ◌<◌, List, [], ◌∷◌}
use Rattle.command.specs.declared.Command.{Command}
use Rattle.machine.specs.declared.outcome.Outcome.{Outcome}
use Rattle.machine.specs.Outcomes.{number}

-- what a machine answers: the outcome, and the value before
abbrev pub Pair : Type 0
Pair = Outcome × ℕ

-- A new machine is in a First state. What a kind is told when it is made is part of the state, so it has a first state for each
pub record Rule : Type 1 where
  pub State : Type 0
  pub First : State → Type 0
  pub bays : State → ℕ
  pub next : State → Command → State
  pub answer : State → Command → Pair

-- no command changes the number of bays
abbrev pub Steady : Rule → Type 0
Steady R = (s : R.State) (c : Command) → R.bays (R.next s c) ≡ R.bays s

-- no answer has an outcome of the layer `Once`
abbrev pub Low : Rule → Type 0
Low R = (s : R.State) (c : Command) → number (R.answer s c).0 < 4

-- the state after a list of commands
abbrev pub run : (R : Rule) → R.State → List Command → R.State
run R s [] = s
run R s (c ∷ cs) = run R (R.next s c) cs

-- the pairs that answer a list of commands, place by place
abbrev pub answers : (R : Rule) → R.State → List Command → List Pair
answers R s [] = []
answers R s (c ∷ cs) = R.answer s c ∷ answers R (R.next s c) cs
