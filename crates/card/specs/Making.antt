-- A new card, and the look at one entry.
use Rattle.std.specs.Prelude.{◌≡◌, ℕ, true, false, cond, List, replicate, None, Ok, Err, Result}
use Rattle.entry.specs.declared.entry.Entry.{Entry}
use Rattle.entry.specs.Entries.{empty}
use Rattle.card.specs.declared.refusal.Refusal.{Refusal}
use Rattle.card.specs.declared.refusal.Refusal.TheVariants.{NoSuchGroup, NoSuchEntry}
use Rattle.card.specs.declared.replica.Replica.{Replica}
use Rattle.card.specs.Groups.{is_group}
use Rattle.card.specs.Tables.{is_placed, entry_at}

abbrev pub empty_logs : List (List Entry)
empty_logs = replicate 2 (replicate 128 empty)

-- every entry empty, no takeover
abbrev pub new_replica : (n seat : ℕ) → is_group n seat ≡ true → Replica
new_replica n seat ok =
    record { n = n; seat = seat; logs = empty_logs; takeover = None; ok = ok }

-- what make answers
abbrev pub Made : ℕ → ℕ → Result Replica Refusal → Type 0
Made n seat (Ok r) = (ok : is_group n seat ≡ true) × (r ≡ new_replica n seat ok)
Made n seat (Err f) = (is_group n seat ≡ false) × (f ≡ NoSuchGroup)

-- what look up answers
abbrev pub looked_up : Replica → ℕ → ℕ → Result Entry Refusal
looked_up r log i = cond (is_placed log i) (Ok (entry_at r log i)) (Err NoSuchEntry)
