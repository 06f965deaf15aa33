-- A list of cards as a group, for any kind of card that has cells and a takeover.
use Rattle.std.specs.Prelude.{◌≡◌, ℕ, ◌<◌, false, ◌⊎◌, List, [], replicate, slice_index_or, slice_set}
use Rattle.std.proofs.Math.Option.{Option, some, none}
use Rattle.command.specs.declared.Command.{Command}
use Rattle.agreement.specs.Lists.{In}
use Rattle.agreement.specs.Logs.{Log, other, Value.command, Content.content, idle}
use Rattle.agreement.specs.Histories.{Event, Event.propose, Note}
use Rattle.column.specs.Cells.{Stage.empty, Answer.silent, Cell, New, Takeover, Body, Message, Message.message}
use Rattle.column.specs.Moves.{Group, add, Turn, Later, Reached}
use Rattle.column.specs.Safe.{Seating, Safe}

-- The cards, what was sent, the commands that were handed to a propose, and the history of both logs.
pub record Board (Card : Type 0) : Type 0 where
  pub cards : List Card
  pub sent : List Message
  pub handed : List Command
  pub history : List Note

-- With the card that is new, and a card's cells and its takeover.
module _ {Card : Type 0} (made : Card) (cell_of : Card → Log → ℕ → Cell) (takeover_of : Card → Option Takeover) where
  -- The board as a group.
  abbrev pub view : Board Card → Group
  view B = record {
    cells = λ g i s. cell_of (slice_index_or B.cards s made) g i;
    takeovers = λ s. takeover_of (slice_index_or B.cards s made);
    sent = B.sent;
    handed = B.handed;
    history = B.history;
  }

  -- New cards, before any call.
  abbrev pub new_board : ℕ → Board Card
  new_board n = record { cards = replicate n made; sent = []; handed = []; history = [] }

  module _ (n f : ℕ) (owner : Log → ℕ) (holder : ℕ → ℕ) where
    -- A call on the card of one seat: a turn at one entry, while the card's other entries and the other cards stay as they were.
    pub record Call (B B' : Board Card) : Type 0 where
      pub log : Log
      pub place : ℕ
      pub seat : ℕ
      pub seated : seat < n
      pub card : Card
      pub out : Option Body
      pub events : List Event
      pub turn : Turn n f owner holder log place seat B.sent (λ k. cell_of (slice_index_or B.cards seat made) (other log) k)
          (cell_of (slice_index_or B.cards seat made) log place) (takeover_of (slice_index_or B.cards seat made))
          (cell_of card log place) (takeover_of card) out events
      pub rest : (g : Log) (i : ℕ) → ((g ≡ log) × (i ≡ place) → ⊥) → cell_of card g i ≡ cell_of (slice_index_or B.cards seat made) g i
      pub becomes : B'.cards ≡ slice_set B.cards seat card
      -- what is sent was sent before, or is the call's message, unless that was lost
      pub posted : (m : Message) → In m B'.sent → ((b : Body) × (out ≡ some b) × (m ≡ message seat log place b)) ⊎ In m B.sent
      -- what is handed in has what was before, and what the call proposed
      pub asks : (c : Command) (d : ℕ) → In (propose (content (command c) d)) events → In c B'.handed
      pub asked : (c : Command) → In c B.handed → In c B'.handed
      pub grown : B'.history ≡ add log place events B.history

    -- From the one board the other comes by calls, in any number.
    pub data Calls (B : Board Card) : Board Card → Type 0 where
      no_call : Calls B B
      one_more : {C D : Board Card} → Calls B C → Call C D → Calls B D

-- Boards that calls on new cards come to are groups that the moves reach, the later from the earlier.
abbrev pub CallsMoveLaw : Type 1
CallsMoveLaw = (Card : Type 0) (made : Card) (cell_of : Card → Log → ℕ → Cell) (takeover_of : Card → Option Takeover) (n f : ℕ)
    (owner : Log → ℕ) (holder : ℕ → ℕ) → ((g : Log) (i : ℕ) → New (cell_of made g i)) → takeover_of made ≡ none →
    (B C : Board Card) → Calls made cell_of takeover_of n f owner holder (new_board made cell_of takeover_of n) B →
    Calls made cell_of takeover_of n f owner holder B C →
    Reached n f owner holder (view made cell_of takeover_of B) ×
    Later n f owner holder (view made cell_of takeover_of B) (view made cell_of takeover_of C)

-- The plainest card: nothing but its cells and its takeover.
pub record Plain : Type 0 where
  pub cells : Log → ℕ → Cell
  pub takeover : Option Takeover

-- An entry that nothing has happened to.
abbrev pub blank : Cell
blank = record {
  stage = empty;
  promised = 0;
  ballot = 0;
  value = idle;
  given = 0;
  voted = false;
  answers = λ c. silent;
  accepts = λ c. false;
}

-- A plain card that is new.
abbrev pub plain : Plain
plain = record { cells = λ g i. blank; takeover = none }

-- Whatever calls are made on plain cards, what they hold at any two moments is safe.
abbrev pub CardsSafe : Type 0
CardsSafe = (n f : ℕ) (owner : Log → ℕ) (holder : ℕ → ℕ) → Seating n f owner → (B C : Board Plain) →
    Calls plain (λ c. c.cells) (λ c. c.takeover) n f owner holder (new_board plain (λ c. c.cells) (λ c. c.takeover) n) B →
    Calls plain (λ c. c.cells) (λ c. c.takeover) n f owner holder B C →
    Safe n (view plain (λ c. c.cells) (λ c. c.takeover) B) (view plain (λ c. c.cells) (λ c. c.takeover) C)
