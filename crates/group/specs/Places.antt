-- A card's table as the argument about whole groups sees it: how it begins, what a write changes, how its seats are counted.
use Rattle.std.specs.Prelude.{◌≡◌, ℕ, ◌≤◌, Bool, true, false, List, length, slice_index_or}
use Rattle.std.proofs.Math.Option.{none}
use Rattle.agreement.specs.Logs.{Log}
use Rattle.agreement.specs.Quorums.{count}
use Rattle.column.specs.Cells.{New}
use Rattle.entry.specs.declared.entry.Entry.{Entry}
use Rattle.std.specs.List.{count_by}
use Rattle.card.specs.declared.replica.Replica.{Replica}
use Rattle.card.specs.Groups.{is_group}
use Rattle.card.specs.Making.{new_replica}
use Rattle.card.specs.Tables.{with_entry}
use Rattle.group.specs.Scans.{Shaped}
use Rattle.group.specs.Standing.{Seated, Standing, Valued}
use Rattle.group.specs.Views.{number_of, cell_of, cell_at, takeover_in}

-- a new card: nothing has happened to any entry, there is no takeover, it stands in its seat, and nothing in it wants a value
pub record Begins (n seat : ℕ) (r : Replica) : Type 0 where
  pub entries : (g : Log) (i : ℕ) → New (cell_at r g i)
  pub takeover : takeover_in r.takeover ≡ none
  pub stands : Standing n seat r
  pub valued : Valued r

abbrev pub CardsBegin : Type 0
CardsBegin = (n seat : ℕ) (ok : is_group n seat ≡ true) → Begins n seat (new_replica n seat ok)

-- a write to one entry changes that entry and no other
pub record WritesOne (r : Replica) (g : Log) (i : ℕ) (e : Entry) : Type 0 where
  pub here : cell_at (with_entry r (number_of g) i e) g i ≡ cell_of e
  pub others : (h : Log) (k : ℕ) → ((h ≡ g) × (k ≡ i) → ⊥) → cell_at (with_entry r (number_of g) i e) h k ≡ cell_at r h k
  pub shape : Shaped (with_entry r (number_of g) i e)

abbrev pub EntriesKeepTheirPlaces : Type 0
EntriesKeepTheirPlaces =
    (r : Replica) → length r.logs ≡ 2 → Shaped r → (g : Log) (i : ℕ) → 1 ≤ i → i ≤ 128 → (e : Entry) → WritesOne r g i e

-- in a list of booleans with a place for each seat, as many are set as there are seats of the group whose place is set
abbrev pub SeatsCount : Type 0
SeatsCount = (n : ℕ) (xs : List Bool) → n ≤ 7 → Seated n false xs → count (λ c. slice_index_or xs c false) n ≡ count_by (λ b. b) xs
