-- A message and its fifteen words: kind, from, to, log, entry, ballot, value kind, client, number, operation, bay, amount,
-- dependency, report, accept ballot.
use Rattle.std.specs.Prelude.{ℕ, cond, List, [], ◌∷◌, ◌==◌, slice_index}
use Rattle.command.specs.declared.Command.{Command}
use Rattle.block.specs.declared.message.Kind.{Kind}
use Rattle.block.specs.declared.message.Kind.TheVariants.{FastAccept, FastAcceptOk, FastAcceptReply, Accept, AcceptOk, Commit, Prepare, PrepareOk, Reject}
use Rattle.block.specs.declared.message.Value.{Value}
use Rattle.block.specs.declared.message.Value.TheVariants.{Nothing, Noop}
use Rattle.block.specs.declared.message.Value.TheVariants as value
use Rattle.block.specs.declared.message.Report.{Report}
use Rattle.block.specs.declared.message.Report.TheVariants.{Empty, Vote, Accepted}
use Rattle.block.specs.declared.message.Destination.{Destination}
use Rattle.block.specs.declared.message.Destination.TheVariants.{All, Seat}
use Rattle.block.specs.declared.message.Message.{Message}

abbrev pub kind_number : Kind → ℕ
kind_number FastAccept = 1
kind_number FastAcceptOk = 2
kind_number FastAcceptReply = 3
kind_number Accept = 4
kind_number AcceptOk = 5
kind_number Commit = 6
kind_number Prepare = 7
kind_number PrepareOk = 8
kind_number Reject = 9

-- the kind with that number, where there is one
abbrev pub kind_of : ℕ → Kind
kind_of n =
    cond (n == 1) FastAccept
    (cond (n == 2) FastAcceptOk
    (cond (n == 3) FastAcceptReply
    (cond (n == 4) Accept
    (cond (n == 5) AcceptOk
    (cond (n == 6) Commit
    (cond (n == 7) Prepare
    (cond (n == 8) PrepareOk Reject)))))))

-- 255 is all. A seat 255, which there is not, is shown as 256, so that it is out of range
abbrev pub to_word : Destination → ℕ
to_word All = 255
to_word (Seat s) = cond (s == 255) 256 s

abbrev pub to_of : ℕ → Destination
to_of w = cond (w == 255) All (Seat w)

abbrev pub value_number : Value → ℕ
value_number Nothing = 0
value_number Noop = 1
value_number (value.Command c) = 2

-- the command of a value, all zeros where it has none
abbrev pub asked_by : Value → Command
asked_by Nothing = record { identity = record { client = 0; number = 0 }; operation = 0; bay = 0; amount = 0 }
asked_by Noop = record { identity = record { client = 0; number = 0 }; operation = 0; bay = 0; amount = 0 }
asked_by (value.Command c) = c

abbrev pub value_of : ℕ → Command → Value
value_of kind c = cond (kind == 2) (value.Command c) (cond (kind == 1) Noop Nothing)

abbrev pub report_number : Report → ℕ
report_number Empty = 0
report_number Vote = 1
report_number (Accepted b) = 2

-- the accept ballot that a report carries
abbrev pub accept_of : Report → ℕ
accept_of Empty = 0
accept_of Vote = 0
accept_of (Accepted b) = b

abbrev pub report_of : ℕ → ℕ → Report
report_of report accept = cond (report == 2) (Accepted accept) (cond (report == 1) Vote Empty)

-- the words of a message
unfoldable pub message_words : Message → List ℕ
message_words m =
    kind_number m.kind ∷ m.from ∷ to_word m.to ∷ m.log ∷ m.entry ∷ m.ballot
    ∷ value_number m.value ∷ (asked_by m.value).identity.client ∷ (asked_by m.value).identity.number
    ∷ (asked_by m.value).operation ∷ (asked_by m.value).bay ∷ (asked_by m.value).amount
    ∷ m.dependency ∷ report_number m.report ∷ accept_of m.report ∷ []

-- the message that fifteen words make
unfoldable pub message_of : List ℕ → Message
message_of ws =
    record {
      kind = kind_of (slice_index ws 0);
      from = slice_index ws 1;
      to = to_of (slice_index ws 2);
      log = slice_index ws 3;
      entry = slice_index ws 4;
      ballot = slice_index ws 5;
      value = value_of (slice_index ws 6) (record {
        identity = record { client = slice_index ws 7; number = slice_index ws 8 };
        operation = slice_index ws 9;
        bay = slice_index ws 10;
        amount = slice_index ws 11;
      });
      dependency = slice_index ws 12;
      report = report_of (slice_index ws 13) (slice_index ws 14);
    }
