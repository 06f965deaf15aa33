-- What a card says of entry i of a log.
use Rattle.std.specs.Prelude.{ℕ, cond, Some, None, Option}
use Rattle.block.specs.declared.message.Kind.{Kind}
use Rattle.block.specs.declared.message.Kind.TheVariants.{FastAccept, FastAcceptOk, FastAcceptReply, Accept, AcceptOk, Commit, Prepare, PrepareOk, Reject}
use Rattle.block.specs.declared.message.Destination.{Destination}
use Rattle.block.specs.declared.message.Destination.TheVariants.{All, Seat}
use Rattle.block.specs.declared.message.Value.{Value}
use Rattle.block.specs.declared.message.Value.TheVariants.{Nothing}
use Rattle.block.specs.declared.message.Report.{Report}
use Rattle.block.specs.declared.message.Report.TheVariants as report
use Rattle.block.specs.declared.message.Message.{Message}
use Rattle.entry.specs.declared.entry.Entry.{Entry}
use Rattle.entry.specs.declared.entry.Progress.{Progress}
use Rattle.entry.specs.declared.entry.Progress.TheVariants.{Accepts, Commits}
use Rattle.entry.specs.declared.reports.Reported.{Reported}

-- a message from its parts: kind, from, to, log, entry, ballot, value, dependency, report
abbrev pub message_of : Kind → ℕ → Destination → ℕ → ℕ → ℕ → Value → ℕ → Report → Message
message_of k from to log i b v d r =
    record { kind = k; from = from; to = to; log = log; entry = i; ballot = b; value = v; dependency = d; report = r }

abbrev pub bare : Kind → ℕ → Destination → ℕ → ℕ → Message
bare k from to log i = message_of k from to log i 0 Nothing 0 report.Empty

abbrev pub fast_accept_message : ℕ → ℕ → ℕ → Entry → Message
fast_accept_message from log i e = message_of FastAccept from All log i 0 e.value e.dependency report.Empty

-- the answer that an entry keeps: Ok for a vote, else Reply with the answered dependency
abbrev pub fast_answer : ℕ → ℕ → ℕ → ℕ → Entry → Message
fast_answer from to log i e =
    cond e.vote
    (bare FastAcceptOk from (Seat to) log i)
    (message_of FastAcceptReply from (Seat to) log i 0 Nothing e.answered report.Empty)

abbrev pub accept : ℕ → ℕ → ℕ → Entry → Message
accept from log i e = message_of Accept from All log i e.accept_ballot e.value e.dependency report.Empty

abbrev pub accept_ok_message : ℕ → ℕ → ℕ → ℕ → ℕ → Message
accept_ok_message from to log i b = message_of AcceptOk from (Seat to) log i b Nothing 0 report.Empty

abbrev pub commit : ℕ → Destination → ℕ → ℕ → Entry → Message
commit from to log i e = message_of Commit from to log i 0 e.value e.dependency report.Empty

abbrev pub prepare : ℕ → ℕ → ℕ → ℕ → Message
prepare from log i b = message_of Prepare from All log i b Nothing 0 report.Empty

abbrev pub prepare_ok_message : ℕ → ℕ → ℕ → ℕ → ℕ → Reported → Message
prepare_ok_message from to log i b own = message_of PrepareOk from (Seat to) log i b own.value own.dependency own.report

abbrev pub reject : ℕ → ℕ → ℕ → ℕ → Entry → Message
reject from to log i e = message_of Reject from (Seat to) log i e.promised Nothing 0 report.Empty

-- what all are told: nothing, or what is now accepted or committed here
abbrev pub announced : ℕ → ℕ → ℕ → Entry → Option Progress → Option Message
announced from log i e None = None
announced from log i e (Some Accepts) = Some (accept from log i e)
announced from log i e (Some Commits) = Some (commit from All log i e)
