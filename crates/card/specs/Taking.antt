-- A card takes an entry over.
use Rattle.std.specs.Prelude.{ℕ, Bool, cond, not, ◌&&◌, Some, None, Ok, Err, Option, nat_lt}
use Rattle.entry.specs.Ballots.{next_ballot}
use Rattle.entry.specs.Entries.{is_committed, promising, report_of}
use Rattle.entry.specs.Takeovers.{begun}
use Rattle.card.specs.declared.refusal.Refusal.TheVariants.{NoSuchEntry, AlreadyCommitted, NothingThere, NoBallotLeft}
use Rattle.card.specs.declared.replica.Replica.{Replica}
use Rattle.card.specs.Steps.{Step}
use Rattle.card.specs.Tables.{is_placed, entry_at, with_entry, with_takeover, highest_held, is_awaited}
use Rattle.card.specs.Messages.{prepare}

-- above every entry of the log that is held here, and above all that a held entry of the other log waits for
abbrev pub is_nothing : Replica → ℕ → ℕ → Bool
is_nothing r log i = nat_lt (highest_held r log) i && not (is_awaited r log i)

-- with a ballot: the card promises it, notes its own report and asks all for theirs
abbrev pub takeover_at : Replica → ℕ → ℕ → Option ℕ → Step
takeover_at r log i None = Err NoBallotLeft
takeover_at r log i (Some b) =
    Ok (
      with_takeover (with_entry r log i (promising (entry_at r log i) b)) (Some (begun log i b r.seat (report_of (entry_at r log i)))),
      Some (prepare r.seat log i b),
    )

abbrev pub takeover : Replica → ℕ → ℕ → Step
takeover r log i =
    cond (not (is_placed log i)) (Err NoSuchEntry)
    (cond (is_committed (entry_at r log i).state) (Err AlreadyCommitted)
    (cond (is_nothing r log i) (Err NothingThere)
    (takeover_at r log i (next_ballot r.seat (entry_at r log i).promised))))
