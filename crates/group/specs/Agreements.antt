-- No two cards of a group ever disagree.
use Rattle.std.specs.Prelude.{◌≡◌, ℕ, ◌<◌, ◌≤◌, ◌⊎◌, List, length, Some}
use Rattle.std.specs.List.{slice_get}
use Rattle.command.specs.declared.Command.{Command}
use Rattle.agreement.specs.Lists.{In}
use Rattle.agreement.specs.Lists as lists
use Rattle.agreement.specs.Logs.{Log, Committed as Keeps}
use Rattle.agreement.specs.Walks.{Step, Step.step, once_each, Walk}
use Rattle.column.specs.Cells.{Stage.committed}
use Rattle.block.specs.declared.message.Value.{Value}
use Rattle.block.specs.declared.message.Value.TheVariants as value
use Rattle.entry.specs.declared.entry.State.TheVariants.{Committed}
use Rattle.card.specs.declared.replica.Replica.{Replica}
use Rattle.card.specs.Tables.{entry_at}
use Rattle.group.specs.declared.calls.Call.{Call}
use Rattle.group.specs.Groups.{Group, after, New}
use Rattle.group.specs.Views.{cell_on}

-- the card in the seat holds entry i of the log committed, with the value and the dependency
pub record Holds (G : Group) (seat log i : ℕ) (v : Value) (d : ℕ) : Type 0 where
  pub card : Replica
  pub seated : slice_get G.cards seat ≡ Some card
  pub committed : (entry_at card log i).state ≡ Committed
  pub value_is : (entry_at card log i).value ≡ v
  pub dependency_is : (entry_at card log i).dependency ≡ d

-- of a group at one moment and at the same moment or a later one
pub record Agree (G H : Group) : Type 0 where
  -- no two cards hold an entry committed with different values or dependencies
  pub one_value : (s t log i : ℕ) (v w : Value) (d e : ℕ) → log ≤ 1 → 1 ≤ i → Holds G s log i v d → Holds H t log i w e
      → (v ≡ w) × (d ≡ e)
  -- of two commands in different logs, one depends on the other's entry or a later one
  pub one_waits : (s t i j : ℕ) (b c : Command) (d e : ℕ) → 1 ≤ i → 1 ≤ j → Holds G s 0 i (value.Command b) d
      → Holds H t 1 j (value.Command c) e
      → (i ≤ e) ⊎ (j ≤ d)
  pub other_waits : (s t i j : ℕ) (b c : Command) (d e : ℕ) → 1 ≤ i → 1 ≤ j → Holds H s 0 i (value.Command b) d
      → Holds G t 1 j (value.Command c) e
      → (i ≤ e) ⊎ (j ≤ d)
  -- every command that is committed was proposed
  pub proposed : (s log i : ℕ) (c : Command) (d : ℕ) → log ≤ 1 → 1 ≤ i → Holds G s log i (value.Command c) d → In c G.proposed

-- whatever calls are made on a new group, in any order and number, at any two moments
abbrev pub GroupsAgree : Type 0
GroupsAgree = (n : ℕ) (G : Group) → New n G → (before more : List Call) → Agree (after G before) (after (after G before) more)

-- what the card in a seat has committed, as the order of execution sees it
abbrev pub KeptOn : Group → ℕ → Keeps
KeptOn G seat g i v = ((cell_on (slice_get G.cards seat) g i).stage ≡ committed) × ((cell_on (slice_get G.cards seat) g i).value ≡ v)

-- of a group at one moment and at the same moment or a later one
pub record Orders (G H : Group) : Type 0 where
  -- of what has run on two seats, keeping the first of each identity, one list begins the other
  pub one_order : (s t a b a' b' : ℕ) (l l' : List Step) → s < length G.cards → t < length H.cards
      → Walk (KeptOn G s) a b l → Walk (KeptOn H t) a' b' l'
      → lists.Agree (once_each l) (once_each l')
  -- what has run goes on having run
  pub run_on : (s a b : ℕ) (l : List Step) → s < length G.cards → Walk (KeptOn G s) a b l → Walk (KeptOn H s) a b l
  -- each command that has run was proposed
  pub asked : (s a b : ℕ) (l : List Step) → s < length G.cards → Walk (KeptOn G s) a b l
      → (g : Log) (i : ℕ) (c : Command) → In (step g i c) l → In c G.proposed
