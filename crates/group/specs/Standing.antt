-- What holds of every card that calls alone have changed since it was made.
use Rattle.std.specs.Prelude.{◌≡◌, ℕ, ◌<◌, ◌≤◌, true, false, List, length, Some, None, Option, ◌≢◌, slice_index_or}
use Rattle.block.specs.declared.message.Report.TheVariants as report
use Rattle.block.specs.declared.message.Value.TheVariants as value
use Rattle.entry.specs.declared.answers.Answer.TheVariants.{Vote}
use Rattle.entry.specs.declared.entry.Entry.{Entry}
use Rattle.entry.specs.declared.entry.State.TheVariants.{Empty}
use Rattle.entry.specs.declared.reports.Reported.{Reported}
use Rattle.entry.specs.declared.takeover.Takeover.{Takeover}
use Rattle.entry.specs.Entries.{has_answered}
use Rattle.entry.specs.Owners.{is_open}
use Rattle.card.specs.declared.replica.Replica.{Replica}
use Rattle.card.specs.Tables.{absent, log_of, entry_at}
use Rattle.group.specs.Settlements.{Low}
use Rattle.group.specs.Scans.{Shaped}

-- a list with a place for each of seven seats, in which only seats of the group have anything
pub record Seated {X : Type 0} (n : ℕ) (none : X) (xs : List X) : Type 0 where
  pub seven : length xs ≡ 7
  pub group : (c : ℕ) → n ≤ c → slice_index_or xs c none ≡ none

pub record StandingEntry (n : ℕ) (e : Entry) : Type 0 where
  pub answers : Seated n None e.tally.answers
  pub accepts : Seated n false e.tally.accepts
  pub low : Low e.tally.answers
  pub dependency : e.dependency ≤ 128
  -- an empty entry was not answered, and nothing was counted for it
  pub untallied : e.state ≡ Empty → (c : ℕ) → slice_index_or e.tally.answers c None ≡ None
  pub bare : e.state ≡ Empty → has_answered e ≡ false
  -- while answers count, a vote has the proposed dependency
  pub votes : (c d : ℕ) → is_open e.state ≡ true → slice_index_or e.tally.answers c None ≡ Some (Vote d) → d ≡ e.dependency

pub record StandingTakeover (n : ℕ) (t : Takeover) : Type 0 where
  pub dependencies : (c : ℕ) (x : Reported) → slice_index_or t.reports c None ≡ Some x → x.dependency ≤ 128
  pub reports : Seated n None t.reports
  pub accepts : Seated n false t.accepts

abbrev pub StandingMaybe : ℕ → Option Takeover → Type 0
StandingMaybe n None = Unit {0}
StandingMaybe n (Some t) = StandingTakeover n t

-- a card in its seat of a group of n
pub record Standing (n seat : ℕ) (r : Replica) : Type 0 where
  pub size : r.n ≡ n
  pub place : r.seat ≡ seat
  pub logs : length r.logs ≡ 2
  pub shape : Shaped r
  pub entries : (log k : ℕ) → log ≤ 1 → k < 128 → StandingEntry n (slice_index_or (log_of r log) k absent)
  pub takeover : StandingMaybe n r.takeover

-- an entry without a value is an empty one: what is held is a command or a no-op
abbrev pub ValuedEntry : Entry → Type 0
ValuedEntry e = e.value ≡ value.Nothing → e.state ≡ Empty

-- a report without a value is an empty one: what was voted for or accepted is a command or a no-op
abbrev pub ValuedReport : Reported → Type 0
ValuedReport x = x.value ≡ value.Nothing → x.report ≡ report.Empty

-- what such a card holds, has heard reported or has chosen has a value; no turn of a card asks for this
pub record Valued (r : Replica) : Type 0 where
  pub entries : (log k : ℕ) → log ≤ 1 → k < 128 → ValuedEntry (slice_index_or (log_of r log) k absent)
  pub reports : (t : Takeover) → r.takeover ≡ Some t → (c : ℕ) (x : Reported) → slice_index_or t.reports c None ≡ Some x → ValuedReport x
  -- a takeover that has chosen has stored its choice: its entry has a value
  pub stored : (t : Takeover) → r.takeover ≡ Some t → t.chosen ≡ true → (entry_at r t.log t.entry).value ≢ value.Nothing
