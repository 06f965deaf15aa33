-- The words in which a message is told.
use Rattle.std.specs.Prelude.{ℕ, cond, List, [], ◌++◌, codes, decimal, ◌==◌}
use Rattle.command.specs.declared.Command.{Command}
use Rattle.block.specs.declared.message.Destination.{Destination}
use Rattle.block.specs.declared.message.Destination.TheVariants.{All, Seat}
use Rattle.block.specs.declared.message.Kind.{Kind}
use Rattle.block.specs.declared.message.Kind.TheVariants.{FastAccept, FastAcceptOk, FastAcceptReply, Accept, AcceptOk, Commit, Prepare, PrepareOk, Reject}
use Rattle.block.specs.declared.message.Message.{Message}
use Rattle.block.specs.declared.message.Report.{Report}
use Rattle.block.specs.declared.message.Report.TheVariants.{Empty, Vote, Accepted}
use Rattle.block.specs.declared.message.Value.{Value}
use Rattle.block.specs.declared.message.Value.TheVariants.{Nothing, Noop}
use Rattle.block.specs.declared.message.Value.TheVariants as value
use Rattle.block.specs.Ballots.{round_of, holder_of}

-- the kinds by name
abbrev pub kind_name : Kind → List ℕ
kind_name FastAccept = codes "FastAccept"
kind_name FastAcceptOk = codes "FastAcceptOk"
kind_name FastAcceptReply = codes "FastAcceptReply"
kind_name Accept = codes "Accept"
kind_name AcceptOk = codes "AcceptOk"
kind_name Commit = codes "Commit"
kind_name Prepare = codes "Prepare"
kind_name PrepareOk = codes "PrepareOk"
kind_name Reject = codes "Reject"

-- who hears it
abbrev pub destination_text : Destination → List ℕ
destination_text All = codes "all"
destination_text (Seat s) = codes "seat " ++ decimal s

-- ballot 0 has neither round nor seat
abbrev pub ballot_text : ℕ → List ℕ
ballot_text b =
    cond (b == 0) (codes "0")
    (codes "round " ++ (decimal (round_of b) ++ (codes " of seat " ++ decimal (holder_of b))))

-- a command by its identity, and then what it asks
abbrev pub command_text : Command → List ℕ
command_text c =
    codes "command " ++ (decimal c.identity.number ++ (codes " of client " ++ (decimal c.identity.client
    ++ (codes ": operation " ++ (decimal c.operation ++ (codes ", bay " ++ (decimal c.bay
    ++ (codes ", amount " ++ decimal c.amount))))))))

-- what an entry is to hold
abbrev pub value_text : Value → List ℕ
value_text Nothing = codes "no value"
value_text Noop = codes "no-op"
value_text (value.Command c) = command_text c

-- a value and what it depends on
abbrev pub carried_text : Message → List ℕ
carried_text m = codes ", " ++ (value_text m.value ++ (codes ", dependency " ++ decimal m.dependency))

-- a report, with what was voted for or accepted
abbrev pub reported_text : Report → Message → List ℕ
reported_text Empty m = codes ", report empty"
reported_text Vote m = codes ", report vote" ++ carried_text m
reported_text (Accepted b) m = codes ", report accepted at ballot " ++ (ballot_text b ++ carried_text m)

-- what a message says beyond its ballot: each kind tells the words that it uses
abbrev pub content_text : Kind → Message → List ℕ
content_text FastAccept m = carried_text m
content_text FastAcceptOk m = []
content_text FastAcceptReply m = codes ", dependency " ++ decimal m.dependency
content_text Accept m = carried_text m
content_text AcceptOk m = []
content_text Commit m = carried_text m
content_text Prepare m = []
content_text PrepareOk m = reported_text m.report m
content_text Reject m = []

-- a message, as in: Commit from seat 0 to all, 1.7, ballot 0, no-op, dependency 0
abbrev pub message_text : Message → List ℕ
message_text m =
    kind_name m.kind ++ (codes " from seat " ++ (decimal m.from ++ (codes " to " ++ (destination_text m.to
    ++ (codes ", " ++ (decimal m.log ++ (codes "." ++ (decimal m.entry ++ (codes ", ballot "
    ++ (ballot_text m.ballot ++ content_text m.kind m))))))))))
