-- A takeover of an entry by one card.
use Rattle.std.specs.Prelude.{ℕ, Bool, true, false, cond, not, ◌&&◌, ◌||◌, List, replicate, Some, None, Option, ◌==◌, count_by, nat_le, slice_index_or, slice_set}
use Rattle.entry.specs.declared.entry.Entry.{Entry}
use Rattle.entry.specs.declared.entry.Progress.{Progress}
use Rattle.entry.specs.declared.entry.Progress.TheVariants.{Accepts, Commits}
use Rattle.entry.specs.declared.reports.Reported.{Reported}
use Rattle.entry.specs.declared.takeover.Takeover.{Takeover}
use Rattle.entry.specs.Quorums.{majority_of}
use Rattle.entry.specs.Entries.{is_committed, accepting, committing}
use Rattle.entry.specs.Reports.{is_reported, choice}

-- a takeover from its parts: log, entry, ballot, reports by seat, whether it has chosen, seats that accepted
abbrev pub takeover_of : ℕ → ℕ → ℕ → List (Option Reported) → Bool → List Bool → Takeover
takeover_of log i b reports chosen accepts =
    record { log = log; entry = i; ballot = b; reports = reports; chosen = chosen; accepts = accepts }

-- as it begins: the card in `seat` notes its own report
abbrev pub begun : ℕ → ℕ → ℕ → ℕ → Reported → Takeover
begun log i b seat own = takeover_of log i b (slice_set (replicate 7 None) seat (Some own)) false (replicate 7 false)

-- of this entry at this ballot, and the entry is uncommitted and promised to it
abbrev pub is_live : Takeover → ℕ → ℕ → ℕ → Entry → Bool
is_live t log i b e =
    (t.log == log) && (t.entry == i && (t.ballot == b && (e.promised == b && not (is_committed e.state))))

-- at f + 1 reports the card in `seat` chooses, and accepts its choice at its ballot
abbrev pub gathered : ℕ → ℕ → Takeover → Entry → Takeover × Entry × Option Progress
gathered n seat t e =
    cond (nat_le (majority_of n) (count_by is_reported t.reports)) (
      takeover_of t.log t.entry t.ballot t.reports true (slice_set t.accepts seat true),
      accepting e t.ballot (choice n t.log t.reports).0 (choice n t.log t.reports).1,
      Some Accepts,
    )
    (t, e, None)

-- a report counts until the takeover has chosen, one from each seat
abbrev pub reporting : ℕ → ℕ → Takeover → Entry → ℕ → Reported → Takeover × Entry × Option Progress
reporting n seat t e from r =
    cond (t.chosen || (not (nat_le from 6) || is_reported (slice_index_or t.reports from None)))
    (t, e, None)
    (gathered n seat
    (takeover_of t.log t.entry t.ballot (slice_set t.reports from (Some r)) t.chosen t.accepts) e)

-- at f + 1 seats that accepted the choice, it is committed
abbrev pub agreed : ℕ → Takeover → Entry → Takeover × Entry × Option Progress
agreed n t e =
    cond (nat_le (majority_of n) (count_by (λ a. a) t.accepts))
    (t, committing e e.value e.dependency, Some Commits)
    (t, e, None)

-- an AcceptOk counts once the takeover has chosen
abbrev pub acknowledging : ℕ → Takeover → Entry → ℕ → Takeover × Entry × Option Progress
acknowledging n t e from =
    cond t.chosen
    (agreed n (takeover_of t.log t.entry t.ballot t.reports t.chosen (slice_set t.accepts from true)) e)
    (t, e, None)
