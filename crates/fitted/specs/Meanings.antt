-- What a card with its machine means.
use Rattle.std.specs.Prelude.{◌≡◌, List, Option, Result}
use Rattle.command.specs.declared.Identity.{Identity}
use Rattle.block.specs.declared.message.Message.{Message}
use Rattle.machine.specs.declared.rule.Machine.{Ghosts}
use Rattle.machine.specs.Rules.{Rule}
use Rattle.machine.specs.Meanings.{once_means}
use Rattle.card.specs.declared.refusal.Refusal.{Refusal}
use Rattle.card.specs.declared.replica.Replica.{Replica}
use Rattle.card.specs.Steps.{Step, state_after, answer_of}
use Rattle.fitted.specs.declared.fitting.Card.{Card}
use Rattle.fitted.specs.declared.fitting.Passed.{Passed}

-- its ordering state, the last entry passed in each log, the state of its machine, and the identities that have run
pub record Meaning (R : Rule) : Type 0 where
  pub replica : Replica
  pub passed : Passed
  pub state : R.State
  pub kept : List Identity

abbrev pub meaning_of : {M : Type 0} (R : Rule) → (M → R.State) → Card M → Meaning R
meaning_of R means c =
    record { replica = c.replica; passed = c.passed; state = (once_means means c.machine).0; kept = (once_means means c.machine).1 }

-- the card with another ordering state
abbrev pub with_replica : {R : Rule} → Meaning R → Replica → Meaning R
with_replica m r = record { replica = r; passed = m.passed; state = m.state; kept = m.kept }

-- a card does a step of its ordering state, and nothing else of it changes
pub record Follows {M : Type 0} (m : Ghosts M) (old new : Card M) (step : Step) (result : Result (Option Message) Refusal) : Type 0 where
  pub state : meaning_of m.rule m.means new ≡ with_replica (meaning_of m.rule m.means old) (state_after old.replica step)
  pub answer : result ≡ answer_of step
