-- Machines of one rule.
use Rattle.std.specs.Prelude.{◌≡◌, List}
use Rattle.command.specs.declared.Command.{Command}
use Rattle.command.specs.declared.Identity.{Identity}
use Rattle.machine.specs.Onces.{once}
use Rattle.machine.specs.Rules.{Rule, answers}

-- R's states are among S's, and there the two rules are the same
pub record OneRule (R S : Rule) : Type 0 where
  pub to : R.State → S.State
  pub first : (s : R.State) → R.First s → S.First (to s)
  pub bays : (s : R.State) → R.bays s ≡ S.bays (to s)
  pub next : (s : R.State) (c : Command) → to (R.next s c) ≡ S.next (to s) c
  pub answer : (s : R.State) (c : Command) → R.answer s c ≡ S.answer (to s) c

-- a state of R and the state of S that corresponds to it
pub record OneState (R S : Rule) (s : R.State) (t : S.State) : Type 0 where
  pub rules : OneRule R S
  pub states : rules.to s ≡ t

-- from corresponding states, equal pairs at equal places
abbrev pub AnswerAlike : Rule → Rule → Type 0
AnswerAlike R S = (s : R.State) (t : S.State) (cs : List Command) → OneState R S s t → answers R s cs ≡ answers S t cs

-- each machine is of one rule with itself
abbrev pub Itself : Rule → Type 0
Itself R = (s : R.State) → OneState R R s s

-- `Once` over two machines of one rule
abbrev pub Layered : Rule → Rule → Type 0
Layered R S = (s : R.State) (t : S.State) (kept : List Identity) → OneState R S s t → OneState (once R) (once S) (s, kept) (t, kept)
