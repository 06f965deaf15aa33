-- What ties the cells, the takeovers and the messages of a group to its history.
use Rattle.std.proofs.Common.{◌≡◌, ℕ, ◌<◌, ◌≤◌, Bool, true, false, ◌⊎◌, ◌↔◌, List}
use mathlib.Core.Option.{Option, some}
use Rattle.command.specs.declared.Command.{Command}
use Rattle.agreement.specs.Lists.{In}
use Rattle.agreement.specs.Logs.{Log, Content, Content.content, Value.command}
use Rattle.agreement.specs.Histories.{Past, Event.propose, Event.answer, Event.vote, Event.offer, Event.accept, Event.report, Event.fast_commit, Note, Note.note, decided_in, Allowed}
use Rattle.column.specs.Cells.{Stage.empty, Stage.answered, Stage.accepted, Stage.committed, Answer.agrees, Answer.differs, Cell, Gave, Report, Report.unheard, Report.bare, Report.vouched, Report.held, past_of, vote_of, Takeover, Body, Body.fast_accept, Body.fast_ok, Body.fast_reply, Body.accept_at, Body.accept_ok, Body.committed_as, Body.prepare, Body.prepare_ok, Body.reject, Message.message}
use Rattle.column.specs.Moves.{Group}

module _ (n f : ℕ) (owner : Log → ℕ) (holder : ℕ → ℕ) where
  -- The cell of seat s sums up what the history has of the seat at the entry.
  pub record Fits (g : Log) (i s : ℕ) (e : Cell) (h : List Note) : Type 0 where
    -- every promise and every accept is within what the cell has promised
    pub reported : (b : ℕ) (o : Option Past) (t : Bool) → In (note g i (report s b o t)) h → (0 < b) × (b ≤ e.promised)
    pub admitted : (b : ℕ) → In (note g i (accept s b)) h → b ≤ e.promised
    -- an accept shows, as the latest until the commit
    pub shown : (b : ℕ) → In (note g i (accept s b)) h → (e.stage ≡ accepted) ⊎ (e.stage ≡ committed)
    pub latest : e.stage ≡ accepted → In (note g i (accept s e.ballot)) h × In (note g i (offer e.ballot e.value)) h
    pub highest : e.stage ≡ accepted → (b : ℕ) → In (note g i (accept s b)) h → b ≤ e.ballot
    -- the vote and the answer are those in the history
    pub vote_kept : (e.voted ≡ true) ↔ In (note g i (vote s)) h
    pub unvoted : e.stage ≡ empty → e.voted ≡ false
    pub given_kept : (x : ℕ) → In (note g i (answer s x)) h → (x ≡ e.given) × Gave e
    pub given_held : (x : ℕ) → In (note g i (answer s x)) h → e.stage ≡ empty → ⊥
    -- an answered cell has the proposal
    pub standing : e.stage ≡ answered → In (note g i (propose e.value)) h × In (note g i (answer s e.given)) h
    -- what the owner proposed, offered or committed on votes shows in its cell, and so does what a takeover of the seat offered
    pub proposed : s ≡ owner g → (v : Content) → In (note g i (propose v)) h → e.stage ≡ empty → ⊥
    pub led : (b : ℕ) (v : Content) → In (note g i (offer b v)) h → 0 < b → holder b ≡ s → b ≤ e.promised
    pub late : s ≡ owner g → (v : Content) → In (note g i (offer 0 v)) h → (e.stage ≡ accepted) ⊎ (e.stage ≡ committed)
    pub fast_closed : s ≡ owner g → In (note g i fast_commit) h → e.stage ≡ committed
    -- what is committed is decided
    pub final : e.stage ≡ committed → decided_in n f owner h g i e.value
    -- what is counted was sent
    pub ayes : (c : ℕ) → e.answers c ≡ agrees → In (note g i (vote c)) h
    pub noes : (c x : ℕ) → e.answers c ≡ differs x → In (note g i (answer c x)) h
    pub backers : (c : ℕ) → e.accepts c ≡ true → In (note g i (accept c 0)) h

  -- What a report of seat c at ballot b rests on.
  abbrev pub Told : List Note → Log → ℕ → ℕ → ℕ → Report → Type 0
  Told h g i b c unheard = Unit {0}
  Told h g i b c bare = In (note g i (report c b (past_of bare) (vote_of bare))) h
  Told h g i b c (vouched v) = In (note g i (report c b (past_of (vouched v)) (vote_of (vouched v)))) h × In (note g i (propose v)) h
  Told h g i b c (held a v) = In (note g i (report c b (past_of (held a v)) (vote_of (held a v)))) h

  -- The takeover of seat s sums up what the history has of it.
  pub record Leads (s : ℕ) (u : Takeover) (h : List Note) : Type 0 where
    pub past_first : 0 < u.ballot
    pub holds : holder u.ballot ≡ s
    pub unoffered : u.chosen ≡ false → (v : Content) → In (note u.log u.place (offer u.ballot v)) h → ⊥
    pub offered : u.chosen ≡ true → In (note u.log u.place (accept s u.ballot)) h
    pub told : (c : ℕ) → Told h u.log u.place u.ballot c (u.reports c)
    pub backers : (c : ℕ) → u.accepts c ≡ true → In (note u.log u.place (accept c u.ballot)) h

  -- What a message of seat c about the entry rests on.
  abbrev pub Said : List Note → ℕ → Log → ℕ → Body → Type 0
  Said h c g i (fast_accept p d) = In (note g i (propose (content (command p) d))) h
  Said h c g i fast_ok = In (note g i (vote c)) h
  Said h c g i (fast_reply x) = In (note g i (answer c x)) h
  Said h c g i (accept_at b v) = In (note g i (offer b v)) h
  Said h c g i (accept_ok b) = In (note g i (accept c b)) h
  Said h c g i (committed_as v) = decided_in n f owner h g i v
  Said h c g i (prepare b) = Unit {0}
  Said h c g i (prepare_ok b r) = Told h g i b c r
  Said h c g i (reject b) = Unit {0}

  -- The invariant of a group.
  pub record Sound (G : Group) : Type 0 where
    pub run : Allowed n f owner G.history
    pub fits : (g : Log) (i s : ℕ) → s < n → Fits g i s (G.cells g i s) G.history
    pub leads : (s : ℕ) → s < n → (u : Takeover) → G.takeovers s ≡ some u → Leads s u G.history
    pub said : (c : ℕ) (g : Log) (i : ℕ) (b : Body) → In (message c g i b) G.sent → Said G.history c g i b
    pub handed : (g : Log) (i : ℕ) (c : Command) (d : ℕ) → In (note g i (propose (content (command c) d))) G.history → In c G.handed
