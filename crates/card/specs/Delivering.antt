-- What a card makes of a block.
use Rattle.std.specs.Prelude.{ℕ, ◌-◌, Bool, true, false, cond, ◌&&◌, List, Some, None, Ok, Err, Option, Result, ◌==◌, nat_le, nat_lt}
use Rattle.command.specs.declared.Command.{Command}
use Rattle.block.specs.declared.fault.Fault.{Fault}
use Rattle.block.specs.declared.message.Destination.TheVariants.{Seat}
use Rattle.block.specs.declared.message.Kind.{Kind}
use Rattle.block.specs.declared.message.Kind.TheVariants.{FastAccept, FastAcceptOk, FastAcceptReply, Accept, AcceptOk, Commit, Prepare, PrepareOk, Reject}
use Rattle.block.specs.declared.message.Message.{Message}
use Rattle.block.specs.declared.message.Value.{Value}
use Rattle.block.specs.declared.message.Value.TheVariants as value
use Rattle.block.specs.Verdicts.{decode}
use Rattle.entry.specs.declared.answers.Answer.{Answer}
use Rattle.entry.specs.declared.answers.Answer.TheVariants.{Vote, Reply}
use Rattle.entry.specs.declared.entry.Entry.{Entry}
use Rattle.entry.specs.declared.entry.Progress.{Progress}
use Rattle.entry.specs.declared.entry.State.{State}
use Rattle.entry.specs.declared.entry.State.TheVariants.{Empty, Answered, Accepted, Committed}
use Rattle.entry.specs.declared.reports.Reported.{Reported}
use Rattle.entry.specs.declared.takeover.Takeover.{Takeover}
use Rattle.entry.specs.Entries.{promising, answering, accepting, committing, report_of}
use Rattle.entry.specs.Owners.{hearing}
use Rattle.entry.specs.Owners as owners
use Rattle.entry.specs.Takeovers.{is_live, reporting}
use Rattle.entry.specs.Takeovers as takeovers
use Rattle.card.specs.declared.refusal.Refusal.TheVariants.{Block, NotForThisCard, WrongSender, DifferentCommit}
use Rattle.card.specs.declared.replica.Replica.{Replica}
use Rattle.card.specs.Steps.{Step}
use Rattle.card.specs.Tables.{entry_at, with_entry, with_takeover, highest_held, is_blocked}
use Rattle.card.specs.Messages.{fast_answer, accept_ok_message, commit, prepare_ok_message, reject, announced}
use Rattle.card.specs.Checks.{is_mine, is_from_peer}

-- the card and the message that a delivery leads to
abbrev pub Turn : Type 0
Turn = Replica × Option Message

abbrev pub nothing : Replica → Turn
nothing r = (r, None)

-- an entry's answer to a proposal: a vote, or where it is blocked a reply with the highest entry held of the other log
abbrev pub answer_on : Replica → Message → Entry → Entry
answer_on r m e =
    cond (is_blocked r m.log m.entry m.dependency)
    (answering e m.value m.dependency (highest_held r (1 - m.log)) false)
    (answering e m.value m.dependency m.dependency true)

unfoldable pub answers : Replica → Message → Entry → Turn
answers r m e = (
  with_entry r m.log m.entry (answer_on r m e),
  Some (fast_answer r.seat m.from m.log m.entry (answer_on r m e)),
)

-- an entry that was counted on, and what all are told of it
abbrev pub stores : Replica → ℕ → ℕ → Entry × Option Progress → Turn
stores r log i p = (with_entry r log i p.0, announced r.seat log i p.0 p.1)

abbrev pub counts : Replica → Message → Entry × Option Progress → Turn
counts r m p = stores r m.log m.entry p

-- an answer to this card's own proposal
unfoldable pub hears : Replica → Message → Entry → Answer → Turn
hears r m e a = counts r m (hearing r.n r.seat e m.from (Some a))

-- a takeover and its entry that were counted on
abbrev pub takes : Replica → Message → Takeover × Entry × Option Progress → Turn
takes r m p = (
  with_takeover (with_entry r m.log m.entry p.1) (Some p.0),
  announced r.seat m.log m.entry p.1 p.2,
)

-- a seat accepted what this card, the owner, settled on
unfoldable pub acknowledges_owner : Replica → Message → Entry → Turn
acknowledges_owner r m e = counts r m (owners.acknowledging r.n e m.from)

abbrev pub acknowledges_by : Option Takeover → Replica → Message → Entry → Turn
acknowledges_by None r m e = nothing r
acknowledges_by (Some t) r m e =
    cond (is_live t m.log m.entry m.ballot e) (takes r m (takeovers.acknowledging r.n t e m.from)) (nothing r)

-- a seat accepted what this card chose in its takeover: it counts while that is live
unfoldable pub acknowledges_takeover : Replica → Message → Entry → Turn
acknowledges_takeover r m e = acknowledges_by r.takeover r m e

abbrev pub reported_in : Message → Reported
reported_in m = record { report = m.report; value = m.value; dependency = m.dependency }

-- a report to this card's takeover counts while that is live
abbrev pub reports_by : Option Takeover → Replica → Message → Entry → Turn
reports_by None r m e = nothing r
reports_by (Some t) r m e =
    cond (is_live t m.log m.entry m.ballot e)
    (takes r m (reporting r.n r.seat t e m.from (reported_in m)))
    (nothing r)

unfoldable pub reports : Replica → Message → Entry → Turn
reports r m e = reports_by r.takeover r m e

abbrev pub same_command : Command → Command → Bool
same_command a b =
    (a.identity.client == b.identity.client)
    && (a.identity.number == b.identity.number
    && (a.operation == b.operation && (a.bay == b.bay && a.amount == b.amount)))

abbrev pub same_value : Value → Value → Bool
same_value value.Nothing value.Nothing = true
same_value value.Nothing value.Noop = false
same_value value.Nothing (value.Command b) = false
same_value value.Noop value.Nothing = false
same_value value.Noop value.Noop = true
same_value value.Noop (value.Command b) = false
same_value (value.Command a) value.Nothing = false
same_value (value.Command a) value.Noop = false
same_value (value.Command a) (value.Command b) = same_command a b

-- what is committed is told to whoever asks for something else
abbrev pub recommits : Replica → Message → Entry → Turn
recommits r m e = (r, Some (commit r.seat (Seat m.from) m.log m.entry e))

abbrev pub rejects : Replica → Message → Entry → Turn
rejects r m e = (r, Some (reject r.seat m.from m.log m.entry e))

abbrev pub on_fast_accept : State → Replica → Message → Entry → Turn
on_fast_accept Empty r m e = cond (nat_lt 0 e.promised) (rejects r m e) (answers r m e)
on_fast_accept Answered r m e =
    cond (nat_lt 0 e.promised) (rejects r m e) (r, Some (fast_answer r.seat m.from m.log m.entry e))
on_fast_accept Accepted r m e = cond (nat_lt 0 e.promised) (rejects r m e) (nothing r)
on_fast_accept Committed r m e = recommits r m e

abbrev pub on_answer : State → Answer → Replica → Message → Entry → Turn
on_answer Empty a r m e = nothing r
on_answer Answered a r m e = hears r m e a
on_answer Accepted a r m e = nothing r
on_answer Committed a r m e = nothing r

-- ballot 0 is the owner's, every other a takeover's
abbrev pub on_accept_ok : State → Replica → Message → Entry → Turn
on_accept_ok Empty r m e = cond (nat_lt 0 m.ballot) (acknowledges_takeover r m e) (nothing r)
on_accept_ok Answered r m e = cond (nat_lt 0 m.ballot) (acknowledges_takeover r m e) (nothing r)
on_accept_ok Accepted r m e = cond (m.ballot == 0) (acknowledges_owner r m e) (acknowledges_takeover r m e)
on_accept_ok Committed r m e = nothing r

-- the second where the entry is committed, else the first
abbrev pub unless_committed : {X : Type 0} → State → X → X → X
unless_committed Empty uncommitted committed = uncommitted
unless_committed Answered uncommitted committed = uncommitted
unless_committed Accepted uncommitted committed = uncommitted
unless_committed Committed uncommitted committed = committed

abbrev pub accepts : Replica → Message → Entry → Turn
accepts r m e =
    cond (nat_lt m.ballot e.promised)
    (rejects r m e) (
      with_entry r m.log m.entry (accepting e m.ballot m.value m.dependency),
      Some (accept_ok_message r.seat m.from m.log m.entry m.ballot),
    )

abbrev pub promises : Replica → Message → Entry → Turn
promises r m e =
    cond (nat_le m.ballot e.promised)
    (rejects r m e) (
      with_entry r m.log m.entry (promising e m.ballot),
      Some (prepare_ok_message r.seat m.from m.log m.entry m.ballot (report_of e)),
    )

-- a Reject raises the promise
abbrev pub raises : Replica → Message → Entry → Turn
raises r m e =
    cond (nat_lt e.promised m.ballot) (with_entry r m.log m.entry (promising e m.ballot), None) (nothing r)

-- by the kind of the message and the state of its entry
abbrev pub turn_by : Kind → Replica → Message → Entry → Step
turn_by FastAccept r m e = Ok (on_fast_accept e.state r m e)
turn_by FastAcceptOk r m e = Ok (on_answer e.state (Vote e.dependency) r m e)
turn_by FastAcceptReply r m e = Ok (on_answer e.state (Reply m.dependency) r m e)
turn_by Accept r m e = Ok (unless_committed e.state (accepts r m e) (recommits r m e))
turn_by AcceptOk r m e = Ok (on_accept_ok e.state r m e)
turn_by Commit r m e =
    unless_committed e.state
    (Ok (with_entry r m.log m.entry (committing e m.value m.dependency), None))
    (cond (same_value e.value m.value && e.dependency == m.dependency) (Ok (nothing r)) (Err DifferentCommit))
turn_by Prepare r m e = Ok (unless_committed e.state (promises r m e) (recommits r m e))
turn_by PrepareOk r m e = Ok (unless_committed e.state (reports r m e) (nothing r))
turn_by Reject r m e = Ok (unless_committed e.state (raises r m e) (nothing r))

abbrev pub turn : Replica → Message → Step
turn r m = turn_by m.kind r m (entry_at r m.log m.entry)

abbrev pub received : Replica → Result Message Fault → Step
received r (Err fault) = Err (Block fault)
received r (Ok m) = cond (is_mine r m) (cond (is_from_peer r m) (turn r m) (Err WrongSender)) (Err NotForThisCard)

-- reads the block; then the addressee, then the sender, then the entry
abbrev pub deliver : Replica → List ℕ → Step
deliver r block = received r (decode block)
