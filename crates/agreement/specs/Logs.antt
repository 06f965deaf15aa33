-- The two logs, and what an entry of one can hold.
use Rattle.std.specs.Prelude.{◌≡◌, ℕ, ◌≤◌, ◌⊎◌}
use Rattle.command.specs.declared.Command.{Command}

-- The pilot's log and the copilot's.
pub data Log : Type 0 where
  pilot copilot : Log

-- The other of the two logs.
abbrev pub other : Log → Log
other pilot = copilot
other copilot = pilot

-- The value of an entry.
pub data Value : Type 0 where
  noop : Value
  command : Command → Value

-- What an entry holds: its value, and how far into the other log it depends.
pub data Content : Type 0 where
  content : Value → ℕ → Content

-- A no-op that depends on nothing.
abbrev pub idle : Content
idle = content noop 0

-- What is committed at each place of each log. Places begin at 1.
abbrev pub Committed : Type 1
Committed = Log → ℕ → Content → Type 0

module _ (C : Committed) where
  -- At the place the command c is committed, with dependency d.
  abbrev pub Holds : Log → ℕ → Command → ℕ → Type 0
  Holds g k c d = C g k (content (command c) d)

  -- A place has one content.
  abbrev pub Single : Type 0
  Single = (g : Log) (k : ℕ) (x y : Content) → C g k x → C g k y → x ≡ y

  -- Of two commands, one of each log, one depends on the other's place or a later one.
  abbrev pub Compatible : Type 0
  Compatible = (c c' : Command) (i d j e : ℕ) → Holds pilot i c d → Holds copilot j c' e → (i ≤ e) ⊎ (j ≤ d)
