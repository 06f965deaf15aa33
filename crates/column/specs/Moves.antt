-- What a card may do to one entry, and the groups of cards that come of it.
use Rattle.std.specs.Prelude.{◌≡◌, ℕ, ◌+◌, ◌*◌, ◌<◌, ◌≤◌, true, false, cond, ◌⊎◌, List, [], ◌∷◌, ◌≢◌}
use Rattle.std.proofs.Math.Option.{Option, some, none}
use Rattle.command.specs.declared.Command.{Command}
use Rattle.agreement.specs.Quorums.{Seats, count, both}
use Rattle.agreement.specs.Lists.{In}
use Rattle.agreement.specs.Logs.{Log, Content, Content.content, Value.command, other, idle}
use Rattle.agreement.specs.Histories.{Event, Event.propose, Event.answer, Event.vote, Event.offer, Event.accept, Event.report, Event.fast_commit, Note, Note.note}
use Rattle.column.specs.Cells.{Stage.empty, Stage.answered, Stage.accepted, Stage.committed, Answer, Answer.agrees, Answer.differs, Cell, New, Gave, promising, answering, tallying, admitting, accepting, committing, depends, depending, agreed, within, Report, Report.unheard, Report.vouched, Report.held, heard, past_of, vote_of, report_of_cell, Takeover, hearing, backed, Body, Body.fast_accept, Body.fast_ok, Body.fast_reply, Body.accept_at, Body.accept_ok, Body.committed_as, Body.prepare, Body.prepare_ok, Body.reject, Message, Message.message, Puts}

-- No entry of the other log that the card holds is above d.
abbrev pub Highest : (ℕ → Cell) → ℕ → Type 0
Highest far d = (k : ℕ) → ((far k).stage ≢ empty) → k ≤ d

-- Each entry of the other log above d that the card answered, it answered with a dependency of i or later.
abbrev pub Unblocked : (ℕ → Cell) → ℕ → ℕ → Type 0
Unblocked far i d = (k : ℕ) → d < k → Gave (far k) → i ≤ (far k).given

-- The cards of a group: the cell of each entry on each seat, each seat's takeover, what was sent, the commands that were handed to a
-- propose, and the history of both logs.
pub record Group : Type 0 where
  pub cells : Log → ℕ → ℕ → Cell
  pub takeovers : ℕ → Option Takeover
  pub sent : List Message
  pub handed : List Command
  pub history : List Note

-- The history with events of one entry, the newest first, before it.
abbrev pub add : Log → ℕ → List Event → List Note → List Note
add g i [] h = h
add g i (e ∷ es) h = note g i e ∷ add g i es h

-- A new group.
pub record Fresh (G : Group) : Type 0 where
  pub cells : (g : Log) (i s : ℕ) → New (G.cells g i s)
  pub takeovers : (s : ℕ) → G.takeovers s ≡ none
  pub sent : G.sent ≡ []
  pub history : G.history ≡ []

module _ (n f : ℕ) (owner : Log → ℕ) (holder : ℕ → ℕ) where
  -- The votes among the reports, with the owner's own if the owner did not report.
  abbrev pub votes_in : Log → (ℕ → Report) → ℕ
  votes_in g R = count (both (λ c. heard (R c)) (λ c. vote_of (R c))) n + cond (heard (R (owner g))) 0 1

  -- No report has an accept.
  abbrev pub NoneHeld : (ℕ → Report) → Type 0
  NoneHeld R = (c a : ℕ) (v : Content) → c < n → R c ≢ held a v

  -- What a takeover chooses from its reports.
  pub data Picks (g : Log) (R : ℕ → Report) : Content → Type 0 where
    -- the content of the latest accept
    picks_held : (c a : ℕ) (v : Content) → c < n → R c ≡ held a v →
        ((k b : ℕ) (w : Content) → k < n → R k ≡ held b w → b ≤ a) → Picks g R v
    -- without an accept, the proposal, if a majority may have voted for it
    picks_voted : (c : ℕ) (v : Content) → NoneHeld R → f < votes_in g R → R c ≡ vouched v → Picks g R v
    -- and else the no-op
    picks_none : NoneHeld R → votes_in g R ≤ f → Picks g R idle

  -- Seat s, with the cell e of entry g.i, the takeover t and the other log's cells far, may come to another cell and takeover, with
  -- a message to send and with events, the newest first.
  pub data Act (g : Log) (i s : ℕ) (sent : List Message) (far : ℕ → Cell) (e : Cell) (t : Option Takeover) :
      Cell → Option Takeover → Option Body → List Event → Type 0 where
    -- the owner proposes a command with a dependency below no entry that it holds of the other log, and votes for it
    proposes : (c : Command) (d : ℕ) (A : ℕ → Answer) → s ≡ owner g → e.stage ≡ empty → e.promised ≡ 0 → Highest far d → Puts e.answers s agrees A →
        Act g i s sent far e t (tallying A (answering (content (command c) d) d true e)) t (some (fast_accept c d))
        (vote s ∷ propose (content (command c) d) ∷ answer s d ∷ [])
    -- the card votes for a proposal, if no entry of the other log that it answered stands in the way
    votes : (p : ℕ) (c : Command) (d : ℕ) → In (message p g i (fast_accept c d)) sent → e.stage ≡ empty → e.promised ≡ 0 → Unblocked far i d →
        Act g i s sent far e t (answering (content (command c) d) d true e) t (some fast_ok) (vote s ∷ answer s d ∷ [])
    -- the card replies to a proposal with a dependency below no entry that it holds of the other log
    replies : (p : ℕ) (c : Command) (d x : ℕ) → In (message p g i (fast_accept c d)) sent → e.stage ≡ empty → e.promised ≡ 0 → 0 < x → Highest far x →
        Act g i s sent far e t (answering (content (command c) d) x false e) t (some (fast_reply x)) (answer s x ∷ [])
    -- the card answers as it did
    repeats_vote : e.stage ≡ answered → e.voted ≡ true → Act g i s sent far e t e t (some fast_ok) []
    repeats_reply : e.stage ≡ answered → e.voted ≡ false → Act g i s sent far e t e t (some (fast_reply e.given)) []
    -- an answer is counted
    counts_vote : (c : ℕ) (A : ℕ → Answer) → In (message c g i fast_ok) sent → Puts e.answers c agrees A →
        Act g i s sent far e t (tallying A e) t none []
    counts_reply : (c x : ℕ) (A : ℕ → Answer) → In (message c g i (fast_reply x)) sent → Puts e.answers c (differs x) A →
        Act g i s sent far e t (tallying A e) t none []
    -- the owner commits on 2f votes
    commits_fast : s ≡ owner g → e.stage ≡ answered → e.promised ≡ 0 → 2 * f ≤ count (λ c. agreed (e.answers c)) n →
        Act g i s sent far e t (committing e.value e) t (some (committed_as e.value)) (fast_commit ∷ [])
    -- the owner settles on a dependency that the answers of a majority do not exceed, and offers it at the first ballot
    settles : (d : ℕ) (B : Seats) → s ≡ owner g → e.stage ≡ answered → e.promised ≡ 0 →
        f < count (λ c. within (depends e.value) d (e.answers c)) n → Puts e.accepts s true B →
        Act g i s sent far e t (admitting B (accepting 0 (depending d e.value) e)) t (some (accept_at 0 (depending d e.value)))
        (accept s 0 ∷ offer 0 (depending d e.value) ∷ [])
    -- the card accepts an offer, unless it has promised a later ballot
    accepts : (p b : ℕ) (v : Content) → In (message p g i (accept_at b v)) sent → (e.stage ≢ committed) → e.promised ≤ b →
        Act g i s sent far e t (accepting b v e) t (some (accept_ok b)) (accept s b ∷ [])
    -- an accept of the first ballot is counted
    counts_accept : (c : ℕ) (B : Seats) → In (message c g i (accept_ok 0)) sent → Puts e.accepts c true B →
        Act g i s sent far e t (admitting B e) t none []
    -- the offer of the first ballot is committed at a majority of those
    commits_first : e.stage ≡ accepted → e.promised ≡ 0 → f < count e.accepts n →
        Act g i s sent far e t (committing e.value e) t (some (committed_as e.value)) []
    -- the card learns a commit
    learns : (p : ℕ) (v : Content) → In (message p g i (committed_as v)) sent → Act g i s sent far e t (committing v e) t none []
    -- the card promises a ballot, and reports
    promises : (p b : ℕ) → In (message p g i (prepare b)) sent → (e.stage ≢ committed) → e.promised < b →
        Act g i s sent far e t (promising b e) t (some (prepare_ok b (report_of_cell e)))
        (report s b (past_of (report_of_cell e)) (vote_of (report_of_cell e)) ∷ [])
    -- a refusal that shows a later ballot raises the promise
    raises : (p b : ℕ) → In (message p g i (reject b)) sent → (e.stage ≢ committed) → e.promised < b →
        Act g i s sent far e t (promising b e) t none []
    -- the card takes the entry over, at a ballot that it holds, and reports to itself
    takes_over : (b : ℕ) (R : ℕ → Report) (B : Seats) → holder b ≡ s → (e.stage ≢ committed) → e.promised < b →
        Puts (λ c. unheard) s (report_of_cell e) R → ((c : ℕ) → B c ≡ false) →
        Act g i s sent far e t (promising b e)
        (some (record { log = g; place = i; ballot = b; chosen = false; reports = R; accepts = B })) (some (prepare b))
        (report s b (past_of (report_of_cell e)) (vote_of (report_of_cell e)) ∷ [])
    -- a report to the takeover is counted
    counts_report : (u : Takeover) (c : ℕ) (r : Report) (R : ℕ → Report) → t ≡ some u → u.log ≡ g → u.place ≡ i → u.chosen ≡ false →
        In (message c g i (prepare_ok u.ballot r)) sent → Puts u.reports c r R →
        Act g i s sent far e t e (some (hearing R u)) none []
    -- the takeover chooses from the reports of a majority, and its card accepts the choice
    chooses : (u : Takeover) (v : Content) (B : Seats) → t ≡ some u → u.log ≡ g → u.place ≡ i → u.chosen ≡ false →
        (e.stage ≢ committed) → e.promised ≡ u.ballot → f < count (λ c. heard (u.reports c)) n → Picks g u.reports v →
        Puts u.accepts s true B →
        Act g i s sent far e t (accepting u.ballot v e) (some (backed true B u)) (some (accept_at u.ballot v))
        (accept s u.ballot ∷ offer u.ballot v ∷ [])
    -- an accept of the choice is counted
    counts_backing : (u : Takeover) (c : ℕ) (B : Seats) → t ≡ some u → u.log ≡ g → u.place ≡ i →
        In (message c g i (accept_ok u.ballot)) sent → Puts u.accepts c true B →
        Act g i s sent far e t e (some (backed u.chosen B u)) none []
    -- the takeover commits at a majority of those
    commits_choice : (u : Takeover) → t ≡ some u → u.log ≡ g → u.place ≡ i → u.chosen ≡ true → (e.stage ≢ committed) →
        e.promised ≡ u.ballot → f < count u.accepts n →
        Act g i s sent far e t (committing e.value e) t (some (committed_as e.value)) []
    -- the card tells what it has committed, or what it has promised
    tells_commit : e.stage ≡ committed → Act g i s sent far e t e t (some (committed_as e.value)) []
    tells_promise : Act g i s sent far e t e t (some (reject e.promised)) []
    -- nothing changes
    rests : Act g i s sent far e t e t none []
    -- a restart forgets the takeover
    forgets : Act g i s sent far e t e none none []

  -- What one call does: an act, perhaps after a count, which notes and sends nothing.
  pub data Turn (g : Log) (i s : ℕ) (sent : List Message) (far : ℕ → Cell) (e : Cell) (t : Option Takeover) (x : Cell) (u : Option Takeover)
      (out : Option Body) (es : List Event) : Type 0 where
    once : Act g i s sent far e t x u out es → Turn g i s sent far e t x u out es
    counted : (c : Cell) (w : Option Takeover) → Act g i s sent far e t c w none [] → Act g i s sent far c w x u out es →
        Turn g i s sent far e t x u out es

  -- One seat takes a turn at one entry. Its message may be lost at once, as when the card is cut off before it is sent.
  pub record Move (G H : Group) : Type 0 where
    pub log : Log
    pub place : ℕ
    pub seat : ℕ
    pub seated : seat < n
    pub cell : Cell
    pub takeover : Option Takeover
    pub out : Option Body
    pub events : List Event
    pub turn : Turn log place seat G.sent (λ k. G.cells (other log) k seat) (G.cells log place seat) (G.takeovers seat)
        cell takeover out events
    pub here : H.cells log place seat ≡ cell
    pub apart : (g : Log) (i s : ℕ) → ((g ≡ log) × (i ≡ place) × (s ≡ seat) → ⊥) → H.cells g i s ≡ G.cells g i s
    pub mine : H.takeovers seat ≡ takeover
    pub others : (s : ℕ) → (s ≢ seat) → H.takeovers s ≡ G.takeovers s
    pub posted : (m : Message) → In m H.sent → ((b : Body) × (out ≡ some b) × (m ≡ message seat log place b)) ⊎ In m G.sent
    pub asks : (c : Command) (d : ℕ) → In (propose (content (command c) d)) events → In c H.handed
    pub asked : (c : Command) → In c G.handed → In c H.handed
    pub grown : H.history ≡ add log place events G.history

  -- From the one group the other comes by moves.
  pub data Later (G : Group) : Group → Type 0 where
    now : Later G G
    then : {H K : Group} → Later G H → Move H K → Later G K

  -- The group comes by moves from a new one.
  pub record Reached (G : Group) : Type 0 where
    pub from : Group
    pub fresh : Fresh from
    pub moves : Later from G
