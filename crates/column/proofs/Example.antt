-- A group that commits one command on votes alone and one by a takeover.
use Rattle.std.proofs.Common.{◌≡◌, ℕ, ◌%◌, ◌<◌, true, false, cond, eqb, List, [], ◌∷◌, refl, inl, inr, arith}
use mathlib.Core.Option.{Option, some, none}
use Rattle.std.proofs.lemmas.Bool.{cases_eq, ne_eqb, eq-eqb}
use Rattle.command.specs.declared.Command.{Command}
use Rattle.agreement.specs.Lists.{In}
use Rattle.agreement.specs.Logs.{Log, Log.pilot, Log.copilot, Content, Content.content, Value.command, other}
use Rattle.agreement.specs.Histories.{Event, Event.propose, Event.answer, Event.vote, Event.offer, Event.accept, Event.report, Event.fast_commit, sample}
use Rattle.column.specs.Cells.{Answer.silent, Answer.agrees, Cell, promising, answering, tallying, accepting, committing, Report.unheard, Report.bare, Report.vouched, Report.held, Takeover, hearing, backed, Body, Body.fast_accept, Body.fast_ok, Body.accept_at, Body.accept_ok, Body.committed_as, Body.prepare, Body.prepare_ok, Puts}
use Rattle.column.specs.Moves.{Group, Picks.picks_voted, Act.proposes, Act.votes, Act.counts_vote, Act.commits_fast, Act.accepts, Act.promises, Act.takes_over, Act.counts_report, Act.chooses, Act.counts_backing, Act.commits_choice, Turn, Turn.once, Turn.counted, Later, Later.now, Later.then}
use Rattle.column.specs.Safe.{trio, second_sample, SomeCommits}
use Rattle.column.specs.Cards.{blank}
use Rattle.column.proofs.Placed.{placed, turn_moves}

-- The table with x at c.
abbrev with_at : {X : Type 0} → (ℕ → X) → ℕ → X → ℕ → X
with_at A c x k = cond (eqb k c) x (A k)

-- It differs from the first only there.
puts_at : {X : Type 0} (A : ℕ → X) (c : ℕ) (x : X) → Puts A c x (with_at A c x)
puts_at A c x k = elim (cases_eq k c) [ inl p ↦ inr (p, rw (eq-eqb k c p)) | inr p ↦ inl (rw (ne_eqb k c p)) ]

-- The new group.
abbrev g0 : Group
g0 = record { cells = λ g i s. blank; takeovers = λ s. none; sent = []; handed = []; history = [] }

-- The contents that the pilot and the copilot propose.
abbrev first : Content
first = content (command sample) 0

abbrev second : Content
second = content (command second_sample) 1

-- A turn of a seat of the group.
abbrev T : Group → Log → ℕ → ℕ → Cell → Option Takeover → Option Body → List Event → Type 0
T G g i s x t out es =
    Turn 3 1 trio (λ b. b % 8) g i s G.sent (λ k. G.cells (other g) k s) (G.cells g i s) (G.takeovers s) x t out es

-- The group comes by moves from the new one.
abbrev L : Group → Type 0
L G = Later 3 1 trio (λ b. b % 8) g0 G

-- One more turn of a seat, with the commands that it was handed.
go : (G : Group) (g : Log) (i s : ℕ) (x : Cell) (t : Option Takeover) (out : Option Body) (cs : List Command) (es : List Event) → L G → s < 3 →
    ((c : Command) (d : ℕ) → In (propose (content (command c) d)) es → In c cs) → T G g i s x t out es → L (placed G g i s x t out cs es)
go G g i s x t out cs es past l asks turn = then past (turn_moves 3 1 trio (λ b. b % 8) G g i s x t out cs es l asks turn)

-- Seat 0 proposes the first command.
abbrev own_first : Cell
own_first = tallying (with_at (λ c. silent) 0 agrees) (answering first 0 true blank)

abbrev g1 : Group
g1 = placed g0 pilot 1 0 own_first none (some (fast_accept sample 0)) (sample ∷ []) (vote 0 ∷ propose first ∷ answer 0 0 ∷ [])

l1 : L g1
l1 = go g0 pilot 1 0 own_first none (some (fast_accept sample 0)) (sample ∷ []) (vote 0 ∷ propose first ∷ answer 0 0 ∷ []) now (omega arith) (grind arith)
    (once (proposes sample 0 (with_at (λ c. silent) 0 agrees) refl refl refl (λ k p. absurd (p refl)) (puts_at (λ c. silent) 0 agrees)))

-- Seat 1 votes for it.
abbrev voted_first : Cell
voted_first = answering first 0 true blank

abbrev g2 : Group
g2 = placed g1 pilot 1 1 voted_first none (some fast_ok) [] (vote 1 ∷ answer 1 0 ∷ [])

l2 : L g2
l2 = go g1 pilot 1 1 voted_first none (some fast_ok) [] (vote 1 ∷ answer 1 0 ∷ []) l1 (omega arith) (grind arith)
    (once (votes 0 sample 0 (inl refl) refl refl (λ k l p. grind arith)))

-- Seat 0 counts the vote, and commits.
abbrev counted_first : Cell
counted_first = tallying (with_at own_first.answers 1 agrees) own_first

abbrev g3 : Group
g3 = placed g2 pilot 1 0 (committing first counted_first) none (some (committed_as first)) [] (fast_commit ∷ [])

l3 : L g3
l3 = go g2 pilot 1 0 (committing first counted_first) none (some (committed_as first)) [] (fast_commit ∷ []) l2 (omega arith) (grind arith)
    (counted counted_first none (counts_vote 1 (with_at own_first.answers 1 agrees) (inl refl) (puts_at own_first.answers 1 agrees))
    (commits_fast refl refl refl (omega arith)))

-- Seat 1, which holds entry 1 of the pilot's log, proposes the second command in the copilot's.
abbrev own_second : Cell
own_second = tallying (with_at (λ c. silent) 1 agrees) (answering second 1 true blank)

abbrev g4 : Group
g4 = placed g3 copilot 1 1 own_second none (some (fast_accept second_sample 1)) (second_sample ∷ []) (vote 1 ∷ propose second ∷ answer 1 1 ∷ [])

l4 : L g4
l4 = go g3 copilot 1 1 own_second none (some (fast_accept second_sample 1)) (second_sample ∷ []) (vote 1 ∷ propose second ∷ answer 1 1 ∷ []) l3 (omega arith) (grind arith)
    (once (proposes second_sample 1 (with_at (λ c. silent) 1 agrees) refl refl refl (λ k p. grind arith) (puts_at (λ c. silent) 1 agrees)))

-- Seat 2 votes for it, and then takes over.
abbrev voted_second : Cell
voted_second = answering second 1 true blank

abbrev g5 : Group
g5 = placed g4 copilot 1 2 voted_second none (some fast_ok) [] (vote 2 ∷ answer 2 1 ∷ [])

l5 : L g5
l5 = go g4 copilot 1 2 voted_second none (some fast_ok) [] (vote 2 ∷ answer 2 1 ∷ []) l4 (omega arith) (grind arith)
    (once (votes 1 second_sample 1 (inl refl) refl refl (λ k l p. grind arith)))

-- The takeover, before any other seat has reported.
abbrev led : Takeover
led = record {
  log = copilot;
  place = 1;
  ballot = 10;
  chosen = false;
  reports = with_at (λ c. unheard) 2 (vouched second);
  accepts = λ c. false;
}

abbrev g6 : Group
g6 = placed g5 copilot 1 2 (promising 10 voted_second) (some led) (some (prepare 10)) [] (report 2 10 none true ∷ [])

l6 : L g6
l6 = go g5 copilot 1 2 (promising 10 voted_second) (some led) (some (prepare 10)) [] (report 2 10 none true ∷ []) l5 (omega arith) (grind arith)
    (once (takes_over 10 (with_at (λ c. unheard) 2 (vouched second)) (λ c. false) refl (λ p. grind arith) (omega arith)
    (puts_at (λ c. unheard) 2 (vouched second)) (λ c. refl)))

-- Seat 0, which has not heard of the proposal, promises.
abbrev g7 : Group
g7 = placed g6 copilot 1 0 (promising 10 blank) none (some (prepare_ok 10 bare)) [] (report 0 10 none false ∷ [])

l7 : L g7
l7 = go g6 copilot 1 0 (promising 10 blank) none (some (prepare_ok 10 bare)) [] (report 0 10 none false ∷ []) l6 (omega arith) (grind arith)
    (once (promises 2 10 (inl refl) (λ p. grind arith) (omega arith)))

-- Seat 2 counts the report: one vote, and the owner was not heard.
abbrev heard_both : Takeover
heard_both = hearing (with_at led.reports 0 bare) led

abbrev chosen_second : Takeover
chosen_second = backed true (with_at (λ c. false) 2 true) heard_both

abbrev g8 : Group
g8 = placed g7 copilot 1 2 (accepting 10 second voted_second) (some chosen_second) (some (accept_at 10 second)) [] (accept 2 10 ∷ offer 10 second ∷ [])

-- Neither report has an accept.
none_held : (c a : ℕ) (v : Content) → c < 3 → heard_both.reports c ≡ held a v → ⊥
none_held c a v l p = grind arith

l8 : L g8
l8 = go g7 copilot 1 2 (accepting 10 second voted_second) (some chosen_second) (some (accept_at 10 second)) [] (accept 2 10 ∷ offer 10 second ∷ []) l7 (omega arith) (grind arith)
    (counted (promising 10 voted_second) (some heard_both)
    (counts_report led 0 bare (with_at led.reports 0 bare) refl refl refl refl (inl refl) (puts_at led.reports 0 bare))
    (chooses heard_both second (with_at (λ c. false) 2 true) refl refl refl refl (λ p. grind arith) refl (omega arith)
    (picks_voted 2 second none_held (omega arith) refl) (puts_at (λ c. false) 2 true)))

-- Seat 0 accepts, and seat 2 commits.
abbrev g9 : Group
g9 = placed g8 copilot 1 0 (accepting 10 second (promising 10 blank)) none (some (accept_ok 10)) [] (accept 0 10 ∷ [])

l9 : L g9
l9 = go g8 copilot 1 0 (accepting 10 second (promising 10 blank)) none (some (accept_ok 10)) [] (accept 0 10 ∷ []) l8 (omega arith) (grind arith)
    (once (accepts 2 10 second (inl refl) (λ p. grind arith) (omega arith)))

abbrev backed_second : Takeover
backed_second = backed true (with_at chosen_second.accepts 0 true) chosen_second

abbrev g10 : Group
g10 = placed g9 copilot 1 2 (committing second (accepting 10 second voted_second)) (some backed_second) (some (committed_as second)) [] []

l10 : L g10
l10 = go g9 copilot 1 2 (committing second (accepting 10 second voted_second)) (some backed_second) (some (committed_as second)) [] [] l9 (omega arith) (grind arith)
    (counted (accepting 10 second voted_second) (some backed_second)
    (counts_backing chosen_second 0 (with_at chosen_second.accepts 0 true) refl refl refl (inl refl) (puts_at chosen_second.accepts 0 true))
    (commits_choice backed_second refl refl refl refl (λ p. grind arith) refl (omega arith)))

pub some_commits : SomeCommits
some_commits = record {
  group = g10;
  reached = record {
    from = g0;
    fresh = record {
      cells = λ g i s. record { bare = refl; unpromised = refl; unvoted = refl; unanswered = λ c. refl; unaccepted = λ c. refl };
      takeovers = λ s. refl;
      sent = refl;
      history = refl;
    };
    moves = l10;
  };
  by_votes = (refl, refl);
  by_takeover = (refl, refl);
}
