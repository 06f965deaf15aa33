-- Both logs as a history of notes, the newest first: what the rules of the cards allow next, and what follows for every history.
use Rattle.std.specs.Prelude.{◌≡◌, ℕ, ◌+◌, ◌*◌, ◌<◌, ◌≤◌, Bool, true, cond, ◌⊎◌, ◌↔◌, List, [], ◌∷◌}
use Rattle.std.proofs.Math.Option.{Option, some, none}
use Rattle.command.specs.declared.Command.{Command}
use Rattle.agreement.specs.Quorums.{Seats, count, both}
use Rattle.agreement.specs.Lists.{In, Agree}
use Rattle.agreement.specs.Ballots.{Ballots, Lawful, Decided}
use Rattle.agreement.specs.Compatibility.{Answers, Supported}
use Rattle.agreement.specs.Logs.{Log, Log.pilot, other, Value.command, Content, Content.content, idle, Committed, Single, Compatible}
use Rattle.agreement.specs.Walks.{Step, Step.step, Walk}

-- What a seat accepted last: the ballot and the content.
pub data Past : Type 0 where
  past : ℕ → Content → Past

-- What can happen to an entry.
pub data Event : Type 0 where
  -- the owner's proposal
  propose : Content → Event
  -- the seat's answer to it, with a dependency
  answer : ℕ → ℕ → Event
  -- the seat's answer was the proposal's own dependency
  vote : ℕ → Event
  -- an Accept at the ballot, with the content
  offer : ℕ → Content → Event
  -- the seat accepted at the ballot
  accept : ℕ → ℕ → Event
  -- the seat's promise of a ballot, with what it accepted last and, if that is nothing, whether it voted
  report : ℕ → ℕ → Option Past → Bool → Event
  -- the owner's commit on votes alone
  fast_commit : Event

-- An event of an entry: the log and the place.
pub data Note : Type 0 where
  note : Log → ℕ → Event → Note

-- What the history has of the seats' answers about the entries of a log.
abbrev pub answered_in : List Note → Log → Answers
answered_in h g c i x = In (note g i (answer c x)) h

module _ (n f : ℕ) (owner : Log → ℕ) where
  -- The ballots of an entry, as the history has them.
  abbrev pub ballots_in : List Note → (g : Log) → ℕ → Ballots n f (owner g) Content
  ballots_in h g i = record {
    noop = idle;
    Offered = λ b v. In (note g i (offer b v)) h;
    Accepted = λ c b. In (note g i (accept c b)) h;
    Voted = λ c. In (note g i (vote c)) h;
    Proposed = λ v. In (note g i (propose v)) h;
    Reported = λ c b. (o : Option Past) × (t : Bool) × In (note g i (report c b o t)) h;
    Fast = In (note g i fast_commit) h;
  }

  -- What the history decides at each place.
  abbrev pub decided_in : List Note → Committed
  decided_in h g i v = Decided (ballots_in h g i) v

  module _ (h : List Note) (g : Log) (i : ℕ) where
    -- How a content is chosen for a ballot past the first, from the reports of a majority.
    pub record Choice (b : ℕ) (v : Content) : Type 0 where
      pub asked : Seats
      pub enough : f < count asked n
      pub pasts : ℕ → Option Past
      pub votes : Seats
      pub heard : (c : ℕ) → c < n → asked c ≡ true → In (note g i (report c b (pasts c) (votes c))) h
      pub rule :
          -- no seat accepted: the proposal, if a majority may have voted for it, and else the no-op
          (((c : ℕ) → c < n → asked c ≡ true → pasts c ≡ none) ×
          (f < count (both asked votes) n + cond (asked (owner g)) 0 1 → In (note g i (propose v)) h) ×
          (count (both asked votes) n + cond (asked (owner g)) 0 1 ≤ f → v ≡ idle))
          ⊎
          -- else the content of the latest accept
          ((c a : ℕ) × (c < n) × (asked c ≡ true) × (pasts c ≡ some (past a v)) ×
          ((c' a' : ℕ) (w : Content) → c' < n → asked c' ≡ true → pasts c' ≡ some (past a' w) → a' ≤ a))

    -- What the seat accepted last.
    abbrev pub Latest : ℕ → Option Past → Type 0
    Latest c none = (k : ℕ) → In (note g i (accept c k)) h → ⊥
    Latest c (some (past a v)) =
        In (note g i (accept c a)) h × In (note g i (offer a v)) h × ((k : ℕ) → In (note g i (accept c k)) h → k ≤ a)

    -- An entry is proposed once, and its owner has answered with the dependency proposed.
    pub record MayPropose (v : Content) : Type 0 where
      pub fresh : (w : Content) → In (note g i (propose w)) h → ⊥
      pub own : (c : Command) (d : ℕ) → v ≡ content (command c) d → In (note g i (answer (owner g) d)) h

    -- A vote is an answer with the dependency proposed, by a seat that has promised no ballot.
    pub record MayVote (c : ℕ) : Type 0 where
      pub unpromised : (b : ℕ) (o : Option Past) (t : Bool) → In (note g i (report c b o t)) h → ⊥
      pub proposal : Command
      pub dependency : ℕ
      pub proposed : In (note g i (propose (content (command proposal) dependency))) h
      pub same : In (note g i (answer c dependency)) h

    -- A ballot has one offer. The first has a dependency that a majority supports, and a command that was proposed; a later one is chosen.
    pub record MayOffer (b : ℕ) (v : Content) : Type 0 where
      pub fresh : (w : Content) → In (note g i (offer b w)) h → ⊥
      pub open_yet : b ≡ 0 → In (note g i fast_commit) h → ⊥
      pub first : (c : Command) (d : ℕ) → b ≡ 0 → v ≡ content (command c) d → Supported n f (answered_in h g) i d
      pub known : (c : Command) (d : ℕ) → b ≡ 0 → v ≡ content (command c) d → (p : ℕ) × In (note g i (propose (content (command c) p))) h
      pub later : 0 < b → Choice b v

    -- A seat accepts at no ballot below one that it has promised.
    pub record MayAccept (c b : ℕ) : Type 0 where
      pub promised : (k : ℕ) (o : Option Past) (t : Bool) → In (note g i (report c k o t)) h → k ≤ b

    -- A report is true, comes before any accept at its ballot, and is not the owner's after a commit on votes alone.
    pub record MayReport (c b : ℕ) (o : Option Past) (t : Bool) : Type 0 where
      pub newer : (k : ℕ) → In (note g i (accept c k)) h → k < b
      pub latest : Latest c o
      pub voted : o ≡ none → (t ≡ true) ↔ In (note g i (vote c)) h
      pub open_yet : c ≡ owner g → In (note g i fast_commit) h → ⊥

    -- A commit on votes alone has 2f votes, and an owner that has offered nothing and reported nothing.
    pub record MayFastCommit : Type 0 where
      pub voters : Seats
      pub enough : 2 * f ≤ count voters n
      pub voted : (c : ℕ) → c < n → voters c ≡ true → In (note g i (vote c)) h
      pub no_first : (w : Content) → In (note g i (offer 0 w)) h → ⊥
      pub no_report : (b : ℕ) (o : Option Past) (t : Bool) → In (note g i (report (owner g) b o t)) h → ⊥

  -- When a note may come next. An answer reaches each entry of the other log whose answer does not reach it.
  abbrev pub May : List Note → Note → Type 0
  May h (note g i (propose v)) = MayPropose h g i v
  May h (note g i (answer c x)) = (k y : ℕ) → In (note (other g) k (answer c y)) h → (i ≤ y) ⊎ (k ≤ x)
  May h (note g i (vote c)) = MayVote h g i c
  May h (note g i (offer b v)) = MayOffer h g i b v
  May h (note g i (accept c b)) = MayAccept h g i c b
  May h (note g i (report c b o t)) = MayReport h g i c b o t
  May h (note g i fast_commit) = MayFastCommit h g i

  -- The histories that the rules allow.
  pub data Allowed : List Note → Type 0 where
    begin : Allowed []
    next : {h : List Note} {e : Note} → Allowed h → May h e → Allowed (e ∷ h)

-- Of an entry as any history has it: if its ballots keep the rules, no two contents are decided.
abbrev pub OneValue : Type 0
OneValue = (n f : ℕ) (owner : Log → ℕ) (h : List Note) (g : Log) (i : ℕ) → Lawful (ballots_in n f owner h g i) →
    (v w : Content) → decided_in n f owner h g i v → decided_in n f owner h g i w → v ≡ w

-- So no two are in any history that the rules allow.
abbrev pub OneValueAllowed : Type 0
OneValueAllowed = (n f : ℕ) (owner : Log → ℕ) (h : List Note) (g : Log) (i : ℕ) → n ≡ 2 * f + 1 → owner g < n → Allowed n f owner h →
    (v w : Content) → decided_in n f owner h g i v → decided_in n f owner h g i w → v ≡ w

-- A place is decided in one way, of two decided commands of the two logs one depends on the other's place or a later one, and each
-- decided command was proposed.
pub record Settled (n f : ℕ) (owner : Log → ℕ) (h : List Note) : Type 0 where
  pub single : Single (decided_in n f owner h)
  pub compatible : Compatible (decided_in n f owner h)
  pub asked : (g : Log) (i : ℕ) (c : Command) (d : ℕ) → decided_in n f owner h g i (content (command c) d) →
      (p : ℕ) × In (note g i (propose (content (command c) p))) h

-- That holds of every history that the rules allow.
abbrev pub HistoriesSettled : Type 0
HistoriesSettled = (n f : ℕ) (owner : Log → ℕ) (h : List Note) → n ≡ 2 * f + 1 → 0 < f → ((g : Log) → owner g < n) → Allowed n f owner h →
    Settled n f owner h

-- And of any two walks through what is decided one list begins the other.
abbrev pub HistoriesWalked : Type 0
HistoriesWalked = (n f : ℕ) (owner : Log → ℕ) (h : List Note) → n ≡ 2 * f + 1 → 0 < f → ((g : Log) → owner g < n) → Allowed n f owner h →
    (a b a' b' : ℕ) (l l' : List Step) → Walk (decided_in n f owner h) a b l → Walk (decided_in n f owner h) a' b' l' →
    Agree l l'

-- A command to show that by.
abbrev pub sample : Command
sample = record { identity = record { client = 1; number = 7 }; operation = 1; bay = 2; amount = 3 }

-- The rules do let a command be decided and run: among three seats, by the owner's vote and one more.
pub record SomeHistory : Type 0 where
  pub history : List Note
  pub allowed : Allowed 3 1 (λ g. 0) history
  pub walked : Walk (decided_in 3 1 (λ g. 0) history) 1 0 (step pilot 1 sample ∷ [])
