-- Walks through two logs: the order in which a card runs what is committed.
use Rattle.std.specs.Prelude.{◌≡◌, ℕ, suc, ◌<◌, ◌≤◌, Bool, true, ◌&&◌, ◌⊎◌, ◌↔◌, List, [], ◌∷◌, ◌++◌, ◌==◌}
use Rattle.std.proofs.Math.Option.{Option, some}
use Rattle.command.specs.declared.Command.{Command}
use Rattle.command.specs.declared.Identity.{Identity}
use Rattle.agreement.specs.Lists.{In, Before, Agree, firsts, Distinct}
use Rattle.agreement.specs.Logs.{Log, Log.pilot, Log.copilot, Value.noop, Content, Content.content, Committed, Holds, Single, Compatible}

-- A command that ran: its log, its place and the command.
pub data Step : Type 0 where
  step : Log → ℕ → Command → Step

-- Whether two identities are the same: one client's same number.
abbrev pub same_identity : Identity → Identity → Bool
same_identity a b = a.client == b.client && a.number == b.number

-- The identity of the command that ran.
abbrev pub identity_of : Step → Identity
identity_of (step g k c) = c.identity

-- The first step of each identity: the repetitions are left out.
abbrev pub once_each : List Step → List Step
once_each = firsts same_identity identity_of

module _ (C : Committed) where
  -- The copilot's next command depends on an entry of the pilot's log that has not run.
  pub record Waits (a b : ℕ) : Type 0 where
    pub which : Command
    pub needs : ℕ
    pub held : Holds C copilot (suc b) which needs
    pub beyond : a < needs

  -- With a entries of the pilot's log and b of the copilot's behind, the pilot's next command may run: what it depends on has
  -- run, or the copilot's next command waits in turn.
  pub record ReadyPilot (a b : ℕ) (c : Command) : Type 0 where
    pub dep : ℕ
    pub held : Holds C pilot (suc a) c dep
    pub why : (dep ≤ b) ⊎ Waits a b

  -- The copilot's next command may run: what it depends on has run.
  pub record ReadyCopilot (a b : ℕ) (c : Command) : Type 0 where
    pub dep : ℕ
    pub held : Holds C copilot (suc b) c dep
    pub why : dep ≤ a

  -- The walk has passed a entries of the pilot's log and b of the copilot's, and has run the commands of the list.
  pub data Walk : ℕ → ℕ → List Step → Type 0 where
    start : Walk 0 0 []
    skip_pilot : {a b d : ℕ} {l : List Step} → Walk a b l → C pilot (suc a) (content noop d) → Walk (suc a) b l
    skip_copilot : {a b d : ℕ} {l : List Step} → Walk a b l → C copilot (suc b) (content noop d) → Walk a (suc b) l
    run_pilot : {a b : ℕ} {c : Command} {l : List Step} → Walk a b l → ReadyPilot a b c → Walk (suc a) b (l ++ (step pilot (suc a) c ∷ []))
    run_copilot : {a b : ℕ} {c : Command} {l : List Step} → Walk a b l → ReadyCopilot a b c → Walk a (suc b) (l ++ (step copilot (suc b) c ∷ []))

-- Where each place has one content and commands are compatible, of any two walks one list begins the other.
abbrev pub WalksAgreeLaw : Type 1
WalksAgreeLaw = (C : Committed) → Single C → Compatible C → (a b a' b' : ℕ) (l l' : List Step) →
    Walk C a b l → Walk C a' b' l' → Agree l l'

-- Logs that are written out: the content at each place, if one is committed there.
abbrev pub written : (Log → ℕ → Option Content) → Committed
written L g k x = L g k ≡ some x

-- The law, of logs that are written out.
abbrev pub WalksAgree : Type 0
WalksAgree = (L : Log → ℕ → Option Content) → Compatible (written L) → (a b a' b' : ℕ) (l l' : List Step) →
    Walk (written L) a b l → Walk (written L) a' b' l' → Agree l l'

-- Of the copilot's commands up to entry j, none depends on entry i of the pilot's log or a later one.
abbrev pub Clears : Committed → ℕ → ℕ → Type 0
Clears C j i = (k : ℕ) (c : Command) (e : ℕ) → 1 ≤ k → k ≤ j → Holds C copilot k c e → e < i

-- So what is committed alone determines one merged list, which every walk's list begins: the copilot's entry j stands before the pilot's
-- entry i exactly if nothing up to the one depends on the other or a later one.
abbrev pub WalksMergeLaw : Type 1
WalksMergeLaw = (C : Committed) → Single C → Compatible C → (a b : ℕ) (l : List Step) → Walk C a b l → (i j : ℕ) (c d : Command) →
    In (step copilot j c) l → In (step pilot i d) l → Before (step copilot j c) (step pilot i d) l ↔ Clears C j i

abbrev pub WalksMerge : Type 0
WalksMerge = (L : Log → ℕ → Option Content) → Compatible (written L) → (a b : ℕ) (l : List Step) → Walk (written L) a b l →
    (i j : ℕ) (c d : Command) → In (step copilot j c) l → In (step pilot i d) l →
    Before (step copilot j c) (step pilot i d) l ↔ Clears (written L) j i

-- Keeping only the first of each identity respects that: of two lists one of which begins the other, so do the firsts.
abbrev pub FirstsAgree : Type 0
FirstsAgree = (l l' : List Step) → Agree l l' → Agree (once_each l) (once_each l')

-- And what is kept has no identity twice.
pub record FirstsDistinct : Type 0 where
  pub distinct : (l : List Step) → Distinct same_identity identity_of (once_each l)
  pub equal : (a b : Identity) → (same_identity a b ≡ true) ↔ (a ≡ b)
