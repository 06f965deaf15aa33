-- A card's entries, takeover and messages, as the argument about whole groups sees them.
use Rattle.std.specs.Prelude.{ℕ, zero, suc, Bool, false, cond, List, Some, None, Option, ◌==◌, slice_index_or}
use Rattle.std.proofs.Math.Option.{some, none}
use Rattle.std.proofs.Math.Option as maybe
use Rattle.agreement.specs.Logs.{Log, Log.pilot, Log.copilot, Value.noop, Value.command, Content, Content.content}
use Rattle.agreement.specs.Logs as logs
use Rattle.block.specs.declared.message.Kind.{Kind}
use Rattle.block.specs.declared.message.Kind.TheVariants.{FastAccept, FastAcceptOk, FastAcceptReply, Accept, AcceptOk, Commit, Prepare, PrepareOk, Reject}
use Rattle.block.specs.declared.message.Message.{Message}
use Rattle.block.specs.declared.message.Report.{Report}
use Rattle.block.specs.declared.message.Report.TheVariants as report
use Rattle.block.specs.declared.message.Value.{Value}
use Rattle.block.specs.declared.message.Value.TheVariants.{Nothing, Noop, Command}
use Rattle.column.specs.Cells.{Stage, Stage.empty, Stage.answered, Stage.accepted, Stage.committed, Answer.silent, Answer.agrees, Answer.differs, Cell, cell, Report.unheard, Report.bare, Report.vouched, Report.held, Body, Body.fast_accept, Body.fast_ok, Body.fast_reply, Body.accept_at, Body.accept_ok, Body.committed_as, Body.prepare, Body.prepare_ok, Body.reject, Message.message}
use Rattle.column.specs.Cells as column
use Rattle.entry.specs.declared.answers.Answer.{Answer}
use Rattle.entry.specs.declared.answers.Answer.TheVariants.{Vote, Reply}
use Rattle.entry.specs.declared.entry.Entry.{Entry}
use Rattle.entry.specs.declared.entry.State.{State}
use Rattle.entry.specs.declared.entry.State.TheVariants.{Empty, Answered, Accepted, Committed}
use Rattle.entry.specs.declared.reports.Reported.{Reported}
use Rattle.entry.specs.declared.takeover.Takeover.{Takeover}
use Rattle.entry.specs.Entries.{empty as empty_entry}
use Rattle.card.specs.declared.replica.Replica.{Replica}
use Rattle.card.specs.Tables.{absent, log_of}

-- the number of a log, which is also its owner's seat
abbrev pub number_of : Log → ℕ
number_of pilot = 0
number_of copilot = 1

abbrev pub log_named : ℕ → Log
log_named n = cond (n == 0) pilot copilot

abbrev pub stage_of : State → Stage
stage_of Empty = empty
stage_of Answered = answered
stage_of Accepted = accepted
stage_of Committed = committed

abbrev pub value_of : Value → logs.Value
value_of Nothing = noop
value_of Noop = noop
value_of (Command c) = command c

abbrev pub content_of : Value → ℕ → Content
content_of v d = content (value_of v) d

abbrev pub answer_of : Option Answer → column.Answer
answer_of None = silent
answer_of (Some (Vote d)) = agrees
answer_of (Some (Reply d)) = differs d

abbrev pub answers_of : List (Option Answer) → ℕ → column.Answer
answers_of xs c = answer_of (slice_index_or xs c None)

abbrev pub seats_of : List Bool → ℕ → Bool
seats_of xs c = slice_index_or xs c false

abbrev pub cell_of : Entry → Cell
cell_of e =
    cell (stage_of e.state) e.promised e.accept_ballot (content_of e.value e.dependency) e.answered e.vote
    (answers_of e.tally.answers) (seats_of e.tally.accepts)

-- entry i of a log of the card; there is no entry 0
abbrev pub cell_at : Replica → Log → ℕ → Cell
cell_at r g zero = cell_of empty_entry
cell_at r g (suc k) = cell_of (slice_index_or (log_of r (number_of g)) k absent)

-- of the card in a seat, if there is one
abbrev pub cell_on : Option Replica → Log → ℕ → Cell
cell_on None g i = cell_of empty_entry
cell_on (Some r) g i = cell_at r g i

abbrev pub report_by : Report → Content → column.Report
report_by report.Empty c = bare
report_by report.Vote c = vouched c
report_by (report.Accepted b) c = held b c

abbrev pub report_of : Option Reported → column.Report
report_of None = unheard
report_of (Some r) = report_by r.report (content_of r.value r.dependency)

abbrev pub reports_of : List (Option Reported) → ℕ → column.Report
reports_of xs c = report_of (slice_index_or xs c None)

abbrev pub takeover_of : Takeover → column.Takeover
takeover_of t =
    record {
      log = log_named t.log;
      place = t.entry;
      ballot = t.ballot;
      chosen = t.chosen;
      reports = reports_of t.reports;
      accepts = seats_of t.accepts;
    }

abbrev pub takeover_in : Option Takeover → maybe.Option column.Takeover
takeover_in None = none
takeover_in (Some t) = some (takeover_of t)

-- a proposal has a command; nothing else is ever sent as one
abbrev pub proposal_of : Value → ℕ → Body
proposal_of Nothing d = reject 0
proposal_of Noop d = reject 0
proposal_of (Command c) d = fast_accept c d

abbrev pub body_by : Kind → Message → Body
body_by FastAccept m = proposal_of m.value m.dependency
body_by FastAcceptOk m = fast_ok
body_by FastAcceptReply m = fast_reply m.dependency
body_by Accept m = accept_at m.ballot (content_of m.value m.dependency)
body_by AcceptOk m = accept_ok m.ballot
body_by Commit m = committed_as (content_of m.value m.dependency)
body_by Prepare m = prepare m.ballot
body_by PrepareOk m = prepare_ok m.ballot (report_by m.report (content_of m.value m.dependency))
body_by Reject m = reject m.ballot

abbrev pub body_of : Option Message → maybe.Option Body
body_of None = none
body_of (Some m) = some (body_by m.kind m)

abbrev pub noted : Message → column.Message
noted m = message m.from (log_named m.log) m.entry (body_by m.kind m)
