-- What holds of every group that comes of the moves.
use Rattle.std.specs.Prelude.{◌≡◌, ℕ, ◌+◌, ◌*◌, ◌%◌, ◌<◌, ◌≤◌, ◌⊎◌, List}
use Rattle.command.specs.declared.Command.{Command}
use Rattle.agreement.specs.Lists.{In, Agree}
use Rattle.agreement.specs.Logs.{Log, Log.pilot, Log.copilot, Value.command, Content, Content.content, Committed}
use Rattle.agreement.specs.Walks.{Step, Step.step, once_each, Walk}
use Rattle.agreement.specs.Histories.{sample}
use Rattle.column.specs.Cells.{Stage.committed}
use Rattle.column.specs.Moves.{Group, Later, Reached}

-- The seat holds the entry committed, with the content.
abbrev pub Kept : Group → ℕ → Committed
Kept G s g i v = ((G.cells g i s).stage ≡ committed) × ((G.cells g i s).value ≡ v)

-- The number of seats, how many may fail, and that both owners have seats.
pub record Seating (n f : ℕ) (owner : Log → ℕ) : Type 0 where
  pub size : n ≡ 2 * f + 1
  pub some_fail : 0 < f
  pub seated : (g : Log) → owner g < n

-- Of an earlier group G and a later one H.
pub record Safe (n : ℕ) (G H : Group) : Type 0 where
  -- what a seat has committed it keeps
  pub lasting : (g : Log) (i s : ℕ) (v : Content) → s < n → Kept G s g i v → Kept H s g i v
  -- no two seats hold an entry committed with different contents
  pub one_value : (g : Log) (i s s' : ℕ) (v w : Content) → s < n → s' < n → Kept G s g i v → Kept H s' g i w → v ≡ w
  -- of two commands, one of each log, one depends on the other's entry or a later one
  pub one_waits : (c c' : Command) (s s' i d j e : ℕ) → s < n → s' < n →
      Kept G s pilot i (content (command c) d) → Kept H s' copilot j (content (command c') e) → (i ≤ e) ⊎ (j ≤ d)
  pub other_waits : (c c' : Command) (s s' i d j e : ℕ) → s < n → s' < n →
      Kept H s pilot i (content (command c) d) → Kept G s' copilot j (content (command c') e) → (i ≤ e) ⊎ (j ≤ d)
  -- of what has run on one seat and what has run on another, one list begins the other, also with only the first of each identity kept
  pub one_order : (s s' a b a' b' : ℕ) (l l' : List Step) → s < n → s' < n →
      Walk (Kept G s) a b l → Walk (Kept H s') a' b' l' → Agree l l'
  pub one_order_once : (s s' a b a' b' : ℕ) (l l' : List Step) → s < n → s' < n →
      Walk (Kept G s) a b l → Walk (Kept H s') a' b' l' → Agree (once_each l) (once_each l')
  -- what has run goes on having run
  pub run_on : (s a b : ℕ) (l : List Step) → s < n → Walk (Kept G s) a b l → Walk (Kept H s) a b l
  -- each command that is committed, and each that has run, was handed to a propose
  pub asked : (g : Log) (i s : ℕ) (c : Command) (d : ℕ) → s < n → Kept G s g i (content (command c) d) → In c G.handed
  pub asked_run : (s a b : ℕ) (l : List Step) → s < n → Walk (Kept G s) a b l →
      (g : Log) (i : ℕ) (c : Command) → In (step g i c) l → In c G.handed

-- Every group that comes of the moves is safe, now and later.
abbrev pub GroupSafe : Type 0
GroupSafe = (n f : ℕ) (owner : Log → ℕ) (holder : ℕ → ℕ) → Seating n f owner → (G H : Group) →
    Reached n f owner holder G → Later n f owner holder G H → Safe n G H

-- Three seats: the pilot's log is owned by the first, the copilot's by the second.
abbrev pub trio : Log → ℕ
trio pilot = 0
trio copilot = 1

-- One more command to show that by.
abbrev pub second_sample : Command
second_sample = record { identity = record { client = 2; number = 9 }; operation = 1; bay = 4; amount = 5 }

-- The moves do let commands be committed, among three seats: on votes alone, and by a takeover while the owner is silent.
pub record SomeCommits : Type 0 where
  pub group : Group
  pub reached : Reached 3 1 trio (λ b. b % 8) group
  pub by_votes : Kept group 0 pilot 1 (content (command sample) 0)
  pub by_takeover : Kept group 2 copilot 1 (content (command second_sample) 1)
