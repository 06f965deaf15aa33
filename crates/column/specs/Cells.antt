-- One entry on one card, a takeover of one entry, and the messages about an entry.
use Rattle.std.specs.Prelude.{◌≡◌, ℕ, ◌<◌, Bool, true, false, cond, ◌⊎◌, nat_le}
use Rattle.std.proofs.Math.Option.{Option, some, none}
use Rattle.command.specs.declared.Command.{Command}
use Rattle.agreement.specs.Quorums.{Seats}
use Rattle.agreement.specs.Logs.{Log, Content, Content.content}
use Rattle.agreement.specs.Histories.{Past, Past.past}

-- How far the entry has come on the card.
pub data Stage : Type 0 where
  empty answered accepted committed : Stage

-- What the owner has of a seat's answer to its proposal: nothing, that the seat voted for it, or another dependency.
pub data Answer : Type 0 where
  silent : Answer
  agrees : Answer
  differs : ℕ → Answer

-- One entry on one card.
pub record Cell : Type 0 where
  pub stage : Stage
  -- no ballot below this one is obeyed any more
  pub promised : ℕ
  -- the ballot at which the value was accepted
  pub ballot : ℕ
  -- a command or a no-op, with its dependency
  pub value : Content
  -- the card's own answer to the proposal: the dependency, and whether it was a vote
  pub given : ℕ
  pub voted : Bool
  -- the owner's tally: the answers to its proposal, and the seats that accepted its offer
  pub answers : ℕ → Answer
  pub accepts : Seats

-- As a new card has it.
pub record New (e : Cell) : Type 0 where
  pub bare : e.stage ≡ empty
  pub unpromised : e.promised ≡ 0
  pub unvoted : e.voted ≡ false
  pub unanswered : (c : ℕ) → e.answers c ≡ silent
  pub unaccepted : (c : ℕ) → e.accepts c ≡ false

-- The card answered the proposal of this entry.
abbrev pub Gave : Cell → Type 0
Gave e = (e.voted ≡ true) ⊎ (0 < e.given)

-- The cell of these parts.
abbrev pub cell : Stage → ℕ → ℕ → Content → ℕ → Bool → (ℕ → Answer) → Seats → Cell
cell st p b v x t A B = record { stage = st; promised = p; ballot = b; value = v; given = x; voted = t; answers = A; accepts = B }

-- The entry with the ballot promised.
abbrev pub promising : ℕ → Cell → Cell
promising b e = cell e.stage b e.ballot e.value e.given e.voted e.answers e.accepts

-- Answered for the value, with dependency x, by a vote or not.
abbrev pub answering : Content → ℕ → Bool → Cell → Cell
answering v x t e = cell answered e.promised e.ballot v x t e.answers e.accepts

-- With these answers counted.
abbrev pub tallying : (ℕ → Answer) → Cell → Cell
tallying A e = cell e.stage e.promised e.ballot e.value e.given e.voted A e.accepts

-- With these accepts counted.
abbrev pub admitting : Seats → Cell → Cell
admitting B e = cell e.stage e.promised e.ballot e.value e.given e.voted e.answers B

-- Accepted at the ballot, which is then promised too.
abbrev pub accepting : ℕ → Content → Cell → Cell
accepting b v e = cell accepted b b v e.given e.voted e.answers e.accepts

-- Committed.
abbrev pub committing : Content → Cell → Cell
committing v e = cell committed e.promised e.ballot v e.given e.voted e.answers e.accepts

-- The dependency.
abbrev pub depends : Content → ℕ
depends (content v d) = d

-- The same value with another dependency.
abbrev pub depending : ℕ → Content → Content
depending d (content v x) = content v d

-- Whether the answer is a vote.
abbrev pub agreed : Answer → Bool
agreed silent = false
agreed agrees = true
agreed (differs x) = false

-- Whether the answer has a dependency of at most d. A vote has the proposed one, p.
abbrev pub within : ℕ → ℕ → Answer → Bool
within p d silent = false
within p d agrees = nat_le p d
within p d (differs x) = nat_le x d

-- What a card reports of an entry as it promises a ballot: nothing, its vote for a proposal, or what it accepted, with the ballot.
pub data Report : Type 0 where
  unheard : Report
  bare : Report
  vouched : Content → Report
  held : ℕ → Content → Report

-- Whether there is a report.
abbrev pub heard : Report → Bool
heard unheard = false
heard bare = true
heard (vouched v) = true
heard (held a v) = true

-- What the report has as accepted.
abbrev pub past_of : Report → Option Past
past_of unheard = none
past_of bare = none
past_of (vouched v) = none
past_of (held a v) = some (past a v)

-- Whether the report is of a vote.
abbrev pub vote_of : Report → Bool
vote_of unheard = false
vote_of bare = false
vote_of (vouched v) = true
vote_of (held a v) = false

-- What a card reports of the entry at a stage. A committed entry is not reported but told.
abbrev pub report_at_stage : Stage → Cell → Report
report_at_stage empty e = bare
report_at_stage answered e = cond e.voted (vouched e.value) bare
report_at_stage accepted e = held e.ballot e.value
report_at_stage committed e = bare

-- What a card reports of the entry as it is.
abbrev pub report_of_cell : Cell → Report
report_of_cell e = report_at_stage e.stage e

-- A card's takeover of an entry: its ballot, whether it has chosen, what it has heard from each seat, and which seats accepted its choice.
pub record Takeover : Type 0 where
  pub log : Log
  pub place : ℕ
  pub ballot : ℕ
  pub chosen : Bool
  pub reports : ℕ → Report
  pub accepts : Seats

-- The takeover with these reports counted.
abbrev pub hearing : (ℕ → Report) → Takeover → Takeover
hearing R u = record { log = u.log; place = u.place; ballot = u.ballot; chosen = u.chosen; reports = R; accepts = u.accepts }

-- The takeover chosen or not, with the accepts of the seats of B counted.
abbrev pub backed : Bool → Seats → Takeover → Takeover
backed b B u = record { log = u.log; place = u.place; ballot = u.ballot; chosen = b; reports = u.reports; accepts = B }

-- What a message says of its entry.
pub data Body : Type 0 where
  -- the owner's proposal: the command and its dependency
  fast_accept : Command → ℕ → Body
  -- a vote for it, or another dependency
  fast_ok : Body
  fast_reply : ℕ → Body
  -- an offer at a ballot, and that the sender accepted at it
  accept_at : ℕ → Content → Body
  accept_ok : ℕ → Body
  -- what is committed
  committed_as : Content → Body
  -- a takeover asks for a promise of its ballot; the promise, with a report; and the refusal, with the ballot promised
  prepare : ℕ → Body
  prepare_ok : ℕ → Report → Body
  reject : ℕ → Body

-- A message: the sender, the log, the place and what is said.
pub data Message : Type 0 where
  message : ℕ → Log → ℕ → Body → Message

-- The table B is A, but that it may have x at c.
abbrev pub Puts : {X : Type 0} → (ℕ → X) → ℕ → X → (ℕ → X) → Type 0
Puts A c x B = (k : ℕ) → (B k ≡ A k) ⊎ ((k ≡ c) × (B k ≡ x))
