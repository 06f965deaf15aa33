-- Whether a message is for this card, and from whom it may come.
use Rattle.std.specs.Prelude.{ℕ, Bool, true, false, not, ◌&&◌, ◌||◌, ◌==◌, nat_lt}
use Rattle.block.specs.declared.message.Kind.{Kind}
use Rattle.block.specs.declared.message.Kind.TheVariants.{FastAccept, FastAcceptOk, FastAcceptReply, Accept, AcceptOk, Commit, Prepare, PrepareOk, Reject}
use Rattle.block.specs.declared.message.Destination.{Destination}
use Rattle.block.specs.declared.message.Destination.TheVariants.{All, Seat}
use Rattle.block.specs.declared.message.Message.{Message}
use Rattle.block.specs.Ballots.{holder_of}
use Rattle.block.specs.Messages.{accept_of}
use Rattle.entry.specs.Ballots.{holder_in}
use Rattle.card.specs.declared.replica.Replica.{Replica}

-- kinds that answer a ballot, and so go to the seat that holds it
abbrev pub is_reply : Kind → Bool
is_reply FastAccept = false
is_reply FastAcceptOk = true
is_reply FastAcceptReply = true
is_reply Accept = false
is_reply AcceptOk = true
is_reply Commit = false
is_reply Prepare = false
is_reply PrepareOk = true
is_reply Reject = false

-- kinds that only the holder of their ballot sends
abbrev pub is_request : Kind → Bool
is_request FastAccept = true
is_request FastAcceptOk = false
is_request FastAcceptReply = false
is_request Accept = true
is_request AcceptOk = false
is_request Commit = false
is_request Prepare = true
is_request PrepareOk = false
is_request Reject = false

abbrev pub is_addressed : Destination → ℕ → Bool
is_addressed All seat = true
is_addressed (Seat to) seat = to == seat

-- to this card or to all, and not an answer to a ballot that another seat holds
abbrev pub is_mine : Replica → Message → Bool
is_mine r m = is_addressed m.to r.seat && (not (is_reply m.kind) || holder_in m.log m.ballot == r.seat)

-- 0, or held by a seat of the group
abbrev pub is_of_group : ℕ → ℕ → Bool
is_of_group n b = b == 0 || nat_lt (holder_of b) n

-- from another card of the group, the holder of its ballot where only that one asks so, and with no ballot of another group
abbrev pub is_from_peer : Replica → Message → Bool
is_from_peer r m =
    nat_lt m.from r.n
    && (not (m.from == r.seat)
    && ((not (is_request m.kind) || holder_in m.log m.ballot == m.from)
    && (is_of_group r.n m.ballot && is_of_group r.n (accept_of m.report))))
