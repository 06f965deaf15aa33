-- The reports that a takeover has gathered, one place for each seat, and what they let it choose.
use Rattle.std.specs.Prelude.{ℕ, ◌+◌, Bool, true, false, cond, List, is_some, Some, None, Option, count_by, nat_le, slice_index_or}
use Rattle.std.specs.List.{fold, position_from}
use Rattle.block.specs.declared.message.Report.{Report}
use Rattle.block.specs.declared.message.Report.TheVariants.{Empty, Vote, Accepted}
use Rattle.block.specs.declared.message.Value.{Value}
use Rattle.block.specs.declared.message.Value.TheVariants.{Noop}
use Rattle.block.specs.Messages.{accept_of}
use Rattle.entry.specs.declared.reports.Reported.{Reported}
use Rattle.entry.specs.Quorums.{majority_of}

abbrev pub is_reported : Option Reported → Bool
is_reported r = is_some r

abbrev pub is_vote_of : Report → Bool
is_vote_of Empty = false
is_vote_of Vote = true
is_vote_of (Accepted b) = false

abbrev pub is_vote_report : Option Reported → Bool
is_vote_report None = false
is_vote_report (Some r) = is_vote_of r.report

-- r, accepted at ballot b, unless what is at hand was accepted as high
abbrev pub over : Option Reported → Reported → ℕ → Option Reported
over None r b = Some r
over (Some best) r b = cond (nat_le b (accept_of best.report)) (Some best) (Some r)

abbrev pub better_by : Report → Option Reported → Reported → Option Reported
better_by Empty best r = best
better_by Vote best r = best
better_by (Accepted b) best r = over best r b

-- the accepted report with the higher accept ballot; the one at hand, of the lower seat, where they are equal
abbrev pub better : Option Reported → Option Reported → Option Reported
better best None = best
better best (Some r) = better_by r.report best r

abbrev pub best_accepted : List (Option Reported) → Option Reported
best_accepted reports = fold better None reports

-- the votes reported; the owner, which voted when it proposed, counts where it has not reported itself
abbrev pub votes_for : ℕ → List (Option Reported) → ℕ
votes_for owner reports = count_by is_vote_report reports + cond (is_reported (slice_index_or reports owner None)) 0 1

-- f + 1 votes: the proposal may have been committed on the fast path
abbrev pub may_be_committed : ℕ → ℕ → List (Option Reported) → Bool
may_be_committed n owner reports = nat_le (majority_of n) (votes_for owner reports)

abbrev pub report_at : List (Option Reported) → Option ℕ → Option Reported
report_at reports None = None
report_at reports (Some seat) = slice_index_or reports seat None

-- the report of the lowest seat that voted
abbrev pub first_vote : List (Option Reported) → Option Reported
first_vote reports = report_at reports (position_from is_vote_report 0 reports)

-- the value and the dependency of a report; a no-op where there is none
abbrev pub carried_by : Option Reported → Value × ℕ
carried_by None = (Noop, 0)
carried_by (Some r) = (r.value, r.dependency)

-- what was accepted at the highest ballot; failing that, with f + 1 votes, what was voted for; else a no-op
unfoldable pub choice : ℕ → ℕ → List (Option Reported) → Value × ℕ
choice n owner reports =
    cond (is_reported (best_accepted reports))
    (carried_by (best_accepted reports))
    (cond (may_be_committed n owner reports) (carried_by (first_vote reports)) (Noop, 0))
