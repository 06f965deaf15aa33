-- A group of cards with their machines, and what it comes to under calls.
use Rattle.std.specs.Prelude.{◌≡◌, ℕ, true, List, [], ◌∷◌, ◌++◌, length, Some, None, Ok, Err, Option, slice_set}
use Rattle.std.specs.List.{slice_get}
use Rattle.command.specs.declared.Command.{Command}
use Rattle.block.specs.declared.message.Message.{Message}
use Rattle.machine.specs.Rules.{Rule, Pair}
use Rattle.card.specs.Groups.{is_group}
use Rattle.card.specs.Steps.{state_after, answer_of}
use Rattle.fitted.specs.declared.run.Run.{Run}
use Rattle.fitted.specs.declared.run.Run.TheVariants as run
use Rattle.fitted.specs.Makes.{new_meaning}
use Rattle.fitted.specs.Meanings.{Meaning, with_replica}
use Rattle.fitted.specs.Runs.{ran}
use Rattle.group.specs.declared.calls.Call.{Call}
use Rattle.group.specs.declared.calls.Call.TheVariants as call
use Rattle.group.specs.Groups.{one_of, seat_of, step_of, asked_by}
use Rattle.cabinets.specs.declared.answer.Answer.{Answer}
use Rattle.cabinets.specs.declared.answer.Answer.TheVariants.{Ordered, Ran, NoSuchSeat}
use Rattle.cabinets.specs.declared.answer.Listed.{Listed}
use Rattle.cabinets.specs.declared.answer.Ran.{Ran as RanOn}

-- the cards by seat; every message that was sent, every command that was proposed, and everything that ran, the oldest first
pub record Group (R : Rule) : Type 0 where
  pub cards : List (Meaning R)
  pub sent : List Message
  pub proposed : List Command
  pub ran : List RanOn

module _ (R : Rule) where
  -- a card after a call that orders, by the rules of its ordering state
  abbrev pub ordered : Meaning R → List Message → Call → Meaning R
  ordered m sent c = with_replica m (state_after m.replica (step_of m.replica sent c))

  -- a card after a call
  abbrev pub card_after : Meaning R → List Message → Call → Meaning R
  card_after m sent (call.Propose seat c) = ordered m sent (call.Propose seat c)
  card_after m sent (call.Deliver seat k) = ordered m sent (call.Deliver seat k)
  card_after m sent (call.Settle seat log i) = ordered m sent (call.Settle seat log i)
  card_after m sent (call.Takeover seat log i) = ordered m sent (call.Takeover seat log i)
  card_after m sent (call.Run seat) = (ran R m).0

  -- what the card answers
  abbrev pub answer_from : Meaning R → List Message → Call → Answer
  answer_from m sent (call.Propose seat c) = Ordered (answer_of (step_of m.replica sent (call.Propose seat c)))
  answer_from m sent (call.Deliver seat k) = Ordered (answer_of (step_of m.replica sent (call.Deliver seat k)))
  answer_from m sent (call.Settle seat log i) = Ordered (answer_of (step_of m.replica sent (call.Settle seat log i)))
  answer_from m sent (call.Takeover seat log i) = Ordered (answer_of (step_of m.replica sent (call.Takeover seat log i)))
  answer_from m sent (call.Run seat) = Ran (ran R m).1

-- a message is sent when a call answers with it
abbrev pub message_in : Answer → Option Message
message_in (Ordered (Ok o)) = o
message_in (Ordered (Err refusal)) = None
message_in (Ran r) = None
message_in NoSuchSeat = None

-- a command is proposed when it is handed to a propose that is not refused
abbrev pub command_in : Call → Answer → Option Command
command_in c (Ordered (Ok o)) = asked_by c
command_in c (Ordered (Err refusal)) = None
command_in c (Ran r) = None
command_in c NoSuchSeat = None

-- a command is listed, with the machine's pair, when a run on the card in a seat answers with them
abbrev pub listed : Command → Pair → Listed
listed c p = record { command = c; outcome = p.0; value = p.1 }

abbrev pub ran_by : ℕ → Run → Option RanOn
ran_by seat run.Noop = None
ran_by seat run.Repeat = None
ran_by seat (run.Ran c o v) = Some (record { seat = seat; listed = listed c (o, v) })
ran_by seat (run.Waits e) = None
ran_by seat run.NoPlace = None

abbrev pub ran_in : ℕ → Answer → Option RanOn
ran_in seat (Ordered r) = None
ran_in seat (Ran r) = ran_by seat r
ran_in seat NoSuchSeat = None

module _ (R : Rule) (cards : List (Meaning R)) (sent : List Message) (c : Call) where
  -- there is no card but those of the group
  abbrev pub cards_on : Option (Meaning R) → List (Meaning R)
  cards_on None = cards
  cards_on (Some m) = slice_set cards (seat_of c) (card_after R m sent c)

  abbrev pub answer_on : Option (Meaning R) → Answer
  answer_on None = NoSuchSeat
  answer_on (Some m) = answer_from R m sent c

  -- the cards after a call, and what the call answers
  abbrev pub cards_after : List (Meaning R)
  cards_after = cards_on (slice_get cards (seat_of c))

  abbrev pub answered : Answer
  answered = answer_on (slice_get cards (seat_of c))

-- a group in which a call came to these cards and this answer
abbrev pub noted : {R : Rule} → Group R → Call → List (Meaning R) → Answer → Group R
noted G c cards a = record {
  cards = cards;
  sent = G.sent ++ one_of (message_in a);
  proposed = G.proposed ++ one_of (command_in c a);
  ran = G.ran ++ one_of (ran_in (seat_of c) a);
}

-- the group after a call
abbrev pub called : (R : Rule) → Group R → Call → Group R
called R G c = noted G c (cards_after R G.cards G.sent c) (answered R G.cards G.sent c)

-- the group after a list of calls, and what each answered
abbrev pub after : (R : Rule) → Group R → List Call → Group R
after R G [] = G
after R G (c ∷ cs) = after R (called R G c) cs

abbrev pub answers_to : (R : Rule) → Group R → List Call → List Answer
answers_to R G [] = []
answers_to R G (c ∷ cs) = answered R G.cards G.sent c ∷ answers_to R (called R G c) cs

-- a new group of n: each seat has a card as make gives it, over the machine handed to it in the state given; and nothing has happened
pub record New (R : Rule) (n : ℕ) (starts : List R.State) (G : Group R) : Type 0 where
  pub sized : is_group n 0 ≡ true
  pub size : length G.cards ≡ n
  pub machines : length starts ≡ n
  pub cards : (seat : ℕ) (x : R.State) → slice_get starts seat ≡ Some x
      → (ok : is_group n seat ≡ true) × (slice_get G.cards seat ≡ Some (new_meaning R n seat ok x))
  pub sent : G.sent ≡ []
  pub proposed : G.proposed ≡ []
  pub ran : G.ran ≡ []
