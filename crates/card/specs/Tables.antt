-- The table of a card: two logs of 128 entries, numbered from 1.
use Rattle.std.specs.Prelude.{ℕ, ◌-◌, ◌≤◌, Bool, false, ◌&&◌, List, [], drop, is_some, Option, nat_le, nat_lt, slice_index_or, slice_set}
use Rattle.block.specs.declared.message.Value.TheVariants.{Nothing}
use Rattle.std.specs.List.{position_from}
use Rattle.scan.specs.Scans.{highest_of}
use Rattle.entry.specs.declared.entry.Entry.{Entry}
use Rattle.entry.specs.declared.entry.State.TheVariants.{Empty}
use Rattle.entry.specs.declared.takeover.Takeover.{Takeover}
use Rattle.entry.specs.Entries.{entry_of, is_held, is_taken, blocks, depends_from}
use Rattle.card.specs.declared.replica.Replica.{Replica}

-- log 0 or 1, entry 1 to 128
abbrev pub is_placed : ℕ → ℕ → Bool
is_placed log i = nat_le log 1 && (nat_le 1 i && nat_le i 128)

pub record Placed (log i : ℕ) : Type 0 where
  pub of_two : log ≤ 1
  pub from_one : 1 ≤ i
  pub to_last : i ≤ 128

-- what a read past the table would give: never met
abbrev pub absent : Entry
absent = entry_of Empty 0 0 Nothing 0 0 false (record { answers = []; accepts = [] })

abbrev pub log_of : Replica → ℕ → List Entry
log_of r log = slice_index_or r.logs log []

-- entry i of a log
abbrev pub entry_at : Replica → ℕ → ℕ → Entry
entry_at r log i = slice_index_or (log_of r log) (i - 1) absent

-- the card with another entry in that place
abbrev pub with_entry : Replica → ℕ → ℕ → Entry → Replica
with_entry r log i e =
    record { n = r.n; seat = r.seat; logs = slice_set r.logs log (slice_set (log_of r log) (i - 1) e); takeover = r.takeover; ok = r.ok }

-- the card with another takeover
abbrev pub with_takeover : Replica → Option Takeover → Replica
with_takeover r t = record { n = r.n; seat = r.seat; logs = r.logs; takeover = t; ok = r.ok }

-- the highest entry held of a log, 0 for none
abbrev pub highest_held : Replica → ℕ → ℕ
highest_held r log = highest_of (λ e. is_held e.state) (log_of r log)

-- the highest entry of a log that is held or promised, 0 for none
abbrev pub highest_taken : Replica → ℕ → ℕ
highest_taken r log = highest_of is_taken (log_of r log)

-- the other log has an entry above d that this card answered with a dependency below i
abbrev pub is_blocked : Replica → ℕ → ℕ → ℕ → Bool
is_blocked r log i d = is_some (position_from (blocks i) d (drop d (log_of r (1 - log))))

-- a held entry of the other log waits for entry i or a later one
abbrev pub is_awaited : Replica → ℕ → ℕ → Bool
is_awaited r log i = nat_lt 0 (highest_of (depends_from i) (log_of r (1 - log)))
