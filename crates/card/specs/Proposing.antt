-- A pilot proposes a command.
use Rattle.std.specs.Prelude.{ℕ, ◌+◌, ◌-◌, Bool, cond, ◌||◌, Some, Ok, Err, ◌==◌, nat_le}
use Rattle.command.specs.declared.Command.{Command}
use Rattle.block.specs.declared.message.Value.TheVariants as value
use Rattle.entry.specs.declared.entry.Entry.{Entry}
use Rattle.entry.specs.Owners.{proposing}
use Rattle.card.specs.declared.refusal.Refusal.TheVariants.{NoIdentity, NotPilot, LogFull}
use Rattle.card.specs.declared.replica.Replica.{Replica}
use Rattle.card.specs.Steps.{Step}
use Rattle.card.specs.Tables.{entry_at, with_entry, highest_held, highest_taken}
use Rattle.card.specs.Messages.{fast_accept_message}

-- a command needs a client and a number
abbrev pub is_nameless : Command → Bool
is_nameless c = c.identity.client == 0 || c.identity.number == 0

-- the entry that the next proposal takes: above all that is held or promised of the own log
abbrev pub next_entry : Replica → ℕ
next_entry r = highest_taken r r.seat + 1

-- that entry with the proposal, which waits for all that is held of the other log
abbrev pub proposal_of : Replica → Command → Entry
proposal_of r c =
    proposing (entry_at r r.seat (next_entry r)) r.seat (value.Command c) (highest_held r (1 - r.seat))

abbrev pub propose : Replica → Command → Step
propose r c =
    cond (is_nameless c) (Err NoIdentity)
    (cond (nat_le 2 r.seat) (Err NotPilot)
    (cond (nat_le 128 (highest_taken r r.seat)) (Err LogFull)
    (Ok (with_entry r r.seat (next_entry r) (proposal_of r c), Some (fast_accept_message r.seat r.seat (next_entry r) (proposal_of r c))))))
