-- One entry on one card.
use Rattle.std.specs.Prelude.{ℕ, Bool, true, false, cond, ◌&&◌, ◌||◌, replicate, None, nat_le, nat_lt}
use Rattle.block.specs.declared.message.Value.{Value}
use Rattle.block.specs.declared.message.Value.TheVariants.{Nothing}
use Rattle.block.specs.declared.message.Report.TheVariants as report
use Rattle.entry.specs.declared.answers.Tally.{Tally}
use Rattle.entry.specs.declared.reports.Reported.{Reported}
use Rattle.entry.specs.declared.entry.Entry.{Entry}
use Rattle.entry.specs.declared.entry.State.{State}
use Rattle.entry.specs.declared.entry.State.TheVariants.{Empty, Answered, Accepted, Committed}

abbrev pub state_number : State → ℕ
state_number Empty = 0
state_number Answered = 1
state_number Accepted = 2
state_number Committed = 3

abbrev pub is_held : State → Bool
is_held Empty = false
is_held Answered = true
is_held Accepted = true
is_held Committed = true

abbrev pub is_committed : State → Bool
is_committed Empty = false
is_committed Answered = false
is_committed Accepted = false
is_committed Committed = true

-- an entry from its parts: state, promised ballot, accept ballot, value, dependency, answered dependency, vote, tally
abbrev pub entry_of : State → ℕ → ℕ → Value → ℕ → ℕ → Bool → Tally → Entry
entry_of s p b v d a w t =
    record { state = s; promised = p; accept_ballot = b; value = v; dependency = d; answered = a; vote = w; tally = t }

-- as make gives it
abbrev pub empty : Entry
empty = entry_of Empty 0 0 Nothing 0 0 false (record { answers = replicate 7 None; accepts = replicate 7 false })

-- held or promised: a proposal goes above every such entry
abbrev pub is_taken : Entry → Bool
is_taken e = is_held e.state || nat_lt 0 e.promised

-- this card answered the proposal: with a vote, or with a dependency of its own, which is at least 1
abbrev pub has_answered : Entry → Bool
has_answered e = e.vote || nat_lt 0 e.answered

-- answered here with a dependency below entry i of the other log
abbrev pub blocks : ℕ → Entry → Bool
blocks i e = has_answered e && nat_lt e.answered i

-- held, and waits for entry i of the other log or a later one
abbrev pub depends_from : ℕ → Entry → Bool
depends_from i e = is_held e.state && nat_le i e.dependency

abbrev pub promising : Entry → ℕ → Entry
promising e b = entry_of e.state b e.accept_ballot e.value e.dependency e.answered e.vote e.tally

-- stores a proposal, and the answer to it
abbrev pub answering : Entry → Value → ℕ → ℕ → Bool → Entry
answering e v d a w = entry_of Answered e.promised e.accept_ballot v d a w e.tally

abbrev pub accepting : Entry → ℕ → Value → ℕ → Entry
accepting e b v d = entry_of Accepted b b v d e.answered e.vote e.tally

abbrev pub committing : Entry → Value → ℕ → Entry
committing e v d = entry_of Committed e.promised e.accept_ballot v d e.answered e.vote e.tally

-- the report to a takeover: what was accepted and at which ballot, else a vote for the proposal, else nothing
abbrev pub empty_report : Reported
empty_report = record { report = report.Empty; value = Nothing; dependency = 0 }

abbrev pub report_by : State → Entry → Reported
report_by Empty e = empty_report
report_by Answered e = cond e.vote (record { report = report.Vote; value = e.value; dependency = e.dependency }) empty_report
report_by Accepted e = record { report = report.Accepted e.accept_ballot; value = e.value; dependency = e.dependency }
report_by Committed e = empty_report

abbrev pub report_of : Entry → Reported
report_of e = report_by e.state e
