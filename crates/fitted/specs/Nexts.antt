-- Which entry a card passes next.
use Rattle.std.specs.Prelude.{ℕ, ◌+◌, Bool, true, cond, not, ◌&&◌, Some, None, Option, nat_le, nat_lt}
use Rattle.std.specs.Option.{option_or}
use Rattle.block.specs.declared.message.Value.{Value}
use Rattle.block.specs.declared.message.Value.TheVariants as value
use Rattle.entry.specs.declared.entry.Entry.{Entry}
use Rattle.entry.specs.Entries.{empty, is_committed}
use Rattle.card.specs.declared.replica.Replica.{Replica}
use Rattle.card.specs.Tables.{entry_at}
use Rattle.fitted.specs.declared.fitting.Passed.{Passed}
use Rattle.fitted.specs.declared.run.Log.{Log}
use Rattle.fitted.specs.declared.run.Log.TheVariants.{Pilot, Copilot}
use Rattle.fitted.specs.declared.run.Next.{Next}
use Rattle.fitted.specs.declared.run.Next.TheVariants.{Passes, Waits}
use Rattle.fitted.specs.declared.run.Place.{Place}

abbrev pub log_number : Log → ℕ
log_number Pilot = 0
log_number Copilot = 1

-- the last entry passed of a log
abbrev pub last_in : Log → Passed → ℕ
last_in Pilot p = p.pilot
last_in Copilot p = p.copilot

-- the entry of a log after the last one passed; past the end of the log there is none, and none is ever committed there
abbrev pub ahead : Replica → ℕ → ℕ → Entry
ahead r log passed = cond (nat_lt passed 128) (entry_at r log (passed + 1)) empty

-- a no-op, or a command that depends on at most the last entry passed of the other log
abbrev pub ready_by : Value → ℕ → ℕ → Bool
ready_by value.Nothing d other = true
ready_by value.Noop d other = true
ready_by (value.Command c) d other = nat_le d other

-- committed, and nothing that it depends on is still ahead
abbrev pub is_ready : Entry → ℕ → Bool
is_ready e other = is_committed e.state && ready_by e.value e.dependency other

abbrev pub place_of : ℕ → ℕ → Place
place_of log i = record { log = log; entry = i }

-- the next entry e of a log, if it is there and not committed
abbrev pub awaited_in : Log → Passed → Entry → Option Place
awaited_in log p e = cond (nat_lt (last_in log p) 128 && not (is_committed e.state)) (Some (place_of (log_number log) (last_in log p + 1))) None

-- the uncommitted entry that is waited for: the pilot's before the copilot's, none past the ends of both logs
abbrev pub awaited : Passed → Entry → Entry → Option Place
awaited p x y = option_or (awaited_in Pilot p x) (awaited_in Copilot p y)

-- by the next entry x of the pilot's log and y of the copilot's: one that is ready, the pilot's before the copilot's; the pilot's where
-- both are committed and each waits for the other
abbrev pub next_by : Passed → Entry → Entry → Next
next_by p x y =
    cond (is_ready x p.copilot) (Passes Pilot x.value)
    (cond (is_ready y p.pilot) (Passes Copilot y.value)
    (cond (is_committed x.state && is_committed y.state) (Passes Pilot x.value) (Waits (awaited p x y))))

abbrev pub next : Replica → Passed → Next
next r p = next_by p (ahead r 0 p.pilot) (ahead r 1 p.copilot)
