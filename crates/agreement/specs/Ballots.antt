-- The ballots of one entry, the rules that they keep, and that at most one value of the entry is decided.
use Rattle.std.specs.Prelude.{◌≡◌, ℕ, ◌+◌, ◌*◌, ◌<◌, ◌≤◌, true, cond, ◌⊎◌, ◌↔◌}
use Rattle.agreement.specs.Quorums.{Seats, count, both}

-- What happened to one entry. The seats are the numbers below n, and up to f of them may fail.
pub record Ballots (n f owner : ℕ) (V : Type 0) : Type 1 where
  -- the value that stands for no command
  pub noop : V
  -- an Accept at the ballot carried the value
  pub Offered : ℕ → V → Type 0
  -- the seat accepted at the ballot
  pub Accepted : ℕ → ℕ → Type 0
  -- the seat voted for the owner's proposal as it stood
  pub Voted : ℕ → Type 0
  -- the owner proposed the value
  pub Proposed : V → Type 0
  -- the seat promised the ballot, and reported before it
  pub Reported : ℕ → ℕ → Type 0
  -- the owner committed on votes alone
  pub Fast : Type 0

module _ {n f owner : ℕ} {V : Type 0} (e : Ballots n f owner V) where
  -- No member of Q accepted at a ballot from a on and below b.
  abbrev pub Silent : Seats → ℕ → ℕ → Type 0
  Silent Q a b = (c k : ℕ) → c < n → Q c ≡ true → a ≤ k → k < b → e.Accepted c k → ⊥

  -- Each member of Q has P.
  abbrev pub Each : Seats → (ℕ → Type 0) → Type 0
  Each Q P = (c : ℕ) → c < n → Q c ≡ true → P c

  -- How many votes there are in Q, with the owner's own if the owner is not in Q.
  abbrev pub tally : Seats → Seats → ℕ
  tally Q votes = count (both Q votes) n + cond (Q owner) 0 1

  -- No report has an accept: the proposal, if a majority may have voted for it, and else the no-op.
  pub record Free (Q : Seats) (b : ℕ) (v : V) : Type 0 where
    pub silent : Silent Q 0 b
    pub votes : Seats
    pub tells : Each Q (λ c. (votes c ≡ true) ↔ e.Voted c)
    pub many : f < tally Q votes → e.Proposed v
    pub few : tally Q votes ≤ f → v ≡ e.noop

  -- Some report has an accept: the value of the latest.
  pub record Bound (Q : Seats) (b : ℕ) (v : V) : Type 0 where
    pub from : ℕ
    pub earlier : from < b
    pub offered : e.Offered from v
    pub silent : Silent Q (from + 1) b

  -- Why a value is offered at a ballot past the first: what a majority reported.
  pub record Chosen (b : ℕ) (v : V) : Type 0 where
    pub asked : Seats
    pub enough : f < count asked n
    pub reports : Each asked (λ c. e.Reported c b)
    pub rule : Free asked b v ⊎ Bound asked b v

  -- What the owner's commit on votes alone rests on.
  pub record FastQuorum : Type 0 where
    pub voters : Seats
    pub enough : 2 * f ≤ count voters n
    pub voted : Each voters (λ c. e.Voted c)
    pub no_first : (w : V) → e.Offered 0 w → ⊥
    pub no_report : (b : ℕ) → e.Reported owner b → ⊥

  -- The rules of ballots.
  pub record Lawful : Type 0 where
    pub size : n ≡ 2 * f + 1
    pub seated : owner < n
    pub one_offer : (b : ℕ) (v w : V) → e.Offered b v → e.Offered b w → v ≡ w
    pub one_proposal : (v w : V) → e.Proposed v → e.Proposed w → v ≡ w
    pub chosen : (b : ℕ) (v : V) → 0 < b → e.Offered b v → Chosen b v
    pub fast : e.Fast → FastQuorum

  -- A majority accepted the value at one ballot.
  pub record Majority (v : V) : Type 0 where
    pub ballot : ℕ
    pub offered : e.Offered ballot v
    pub holders : Seats
    pub enough : f < count holders n
    pub accepted : Each holders (λ c. e.Accepted c ballot)

  -- The value is decided: by the accepts of a majority, or on votes alone.
  abbrev pub Decided : V → Type 0
  Decided v = Majority v ⊎ (e.Fast × e.Proposed v)

-- Ballots that keep the rules decide at most one value.
abbrev pub OneValueLaw : Type 1
OneValueLaw = (n f owner : ℕ) (V : Type 0) (e : Ballots n f owner V) → Lawful e → (v w : V) → Decided e v → Decided e w → v ≡ w
