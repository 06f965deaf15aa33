-- A group of cards, and what it comes to under calls.
use Rattle.std.specs.Prelude.{◌≡◌, ℕ, ◌<◌, true, List, [], ◌∷◌, ◌++◌, length, Some, None, Ok, Err, Option, slice_set}
use Rattle.std.specs.List.{slice_get}
use Rattle.command.specs.declared.Command.{Command}
use Rattle.block.specs.declared.fault.Fault.{Fault}
use Rattle.block.specs.declared.fault.Fault.TheVariants.{Length}
use Rattle.block.specs.declared.message.Message.{Message}
use Rattle.block.specs.Verdicts.{message_fault}
use Rattle.card.specs.declared.refusal.Refusal.TheVariants.{Block}
use Rattle.card.specs.declared.replica.Replica.{Replica}
use Rattle.card.specs.Groups.{is_group}
use Rattle.card.specs.Making.{new_replica}
use Rattle.card.specs.Steps.{Step}
use Rattle.card.specs.Proposing.{propose}
use Rattle.card.specs.Settling.{settle}
use Rattle.card.specs.Taking.{takeover}
use Rattle.card.specs.Delivering.{received}
use Rattle.group.specs.declared.calls.Call.{Call}
use Rattle.group.specs.declared.calls.Call.TheVariants.{Propose, Deliver, Settle, Takeover, Run}

-- the cards by seat, every message that was sent, and every command that was proposed, the oldest first
pub record Group : Type 0 where
  pub cards : List Replica
  pub sent : List Message
  pub proposed : List Command

abbrev pub one_of : {X : Type 0} → Option X → List X
one_of None = []
one_of (Some x) = x ∷ []

abbrev pub seat_of : Call → ℕ
seat_of (Propose seat c) = seat
seat_of (Deliver seat k) = seat
seat_of (Settle seat log i) = seat
seat_of (Takeover seat log i) = seat
seat_of (Run seat) = seat

-- a message goes from card to card as a block
abbrev pub carried : Replica → Message → Option Fault → Step
carried r m None = received r (Ok m)
carried r m (Some fault) = Err (Block fault)

-- where no such message was sent there is an empty block, which every card refuses
abbrev pub delivered : Replica → Option Message → Step
delivered r None = Err (Block Length)
delivered r (Some m) = carried r m (message_fault m 512)

-- what a call on the card comes to, by the card's own rules; a run orders nothing
abbrev pub step_of : Replica → List Message → Call → Step
step_of r sent (Propose seat c) = propose r c
step_of r sent (Deliver seat k) = delivered r (slice_get sent k)
step_of r sent (Settle seat log i) = settle r log i
step_of r sent (Takeover seat log i) = takeover r log i
step_of r sent (Run seat) = Ok (r, None)

abbrev pub asked_by : Call → Option Command
asked_by (Propose seat c) = Some c
asked_by (Deliver seat k) = None
asked_by (Settle seat log i) = None
asked_by (Takeover seat log i) = None
asked_by (Run seat) = None

-- a refused call changes nothing in the group
abbrev pub stepped : Group → Call → Step → Group
stepped G c (Ok x) =
    record { cards = slice_set G.cards (seat_of c) x.0; sent = G.sent ++ one_of x.1; proposed = G.proposed ++ one_of (asked_by c) }
stepped G c (Err refusal) = G

-- there is no card but those of the group
abbrev pub called_on_card : Group → Call → Option Replica → Group
called_on_card G c None = G
called_on_card G c (Some r) = stepped G c (step_of r G.sent c)

abbrev pub called : Group → Call → Group
called G c = called_on_card G c (slice_get G.cards (seat_of c))

-- the group after a list of calls
abbrev pub after : Group → List Call → Group
after G [] = G
after G (c ∷ cs) = after (called G c) cs

-- a new group: each of its n seats has a card as make gives it, and nothing was sent, whatever is noted as proposed
pub record New (n : ℕ) (G : Group) : Type 0 where
  pub sized : is_group n 0 ≡ true
  pub size : length G.cards ≡ n
  pub cards : (seat : ℕ) → seat < n → (ok : is_group n seat ≡ true) × (slice_get G.cards seat ≡ Some (new_replica n seat ok))
  pub sent : G.sent ≡ []
