-- In every history that the rules allow, each decided command was proposed, and a majority supports its dependency.
use Rattle.std.proofs.Common.{◌≡◌, ℕ, ◌+◌, ◌*◌, ◌<◌, true, cond, eqb, List, ◌∷◌, refl, inl, inr, arith}
use Rattle.std.proofs.lemmas.Bool.{cases_Bool, cases_lt, and_parts, and_left, or_cases, eqb-true}
use Rattle.command.specs.declared.Command.{Command}
use Rattle.agreement.specs.Quorums.{Seats, count, both, joined}
use Rattle.agreement.specs.Ballots.{Free, tally}
use Rattle.agreement.specs.Compatibility.{Supported}
use Rattle.agreement.specs.Logs.{Log, Value.command, Content, Content.content, idle}
use Rattle.agreement.specs.Histories.{Event.propose, Event.answer, Event.vote, Event.offer, Note, answered_in, ballots_in, decided_in, Allowed, Allowed.begin, Allowed.next}
use Rattle.agreement.proofs.Quorums.{count_joined}
use Rattle.agreement.proofs.Ballots.{offers_keep}
use Rattle.agreement.proofs.Entries.{Has, known, one_proposal, lawful}

-- A no-op is no command.
clash : (c : Command) (d : ℕ) → content (command c) d ≡ idle → ⊥
clash c d e = grind arith

module _ (n f : ℕ) (owner : Log → ℕ) (lg : Log) (at : ℕ) where
  -- A majority supports the dependency, and the command was proposed.
  pub record Grounded (h : List Note) (c : Command) (d : ℕ) : Type 0 where
    pub supported : Supported n f (answered_in h lg) at d
    pub proposal : (p : ℕ) × Has n f owner lg at h (propose (content (command c) p))

  -- It stays so as the history grows.
  grows : (h : List Note) (e : Note) (c : Command) (d : ℕ) → Grounded h c d → Grounded (e ∷ h) c d
  grows h e c d m =
      let s = m.supported in
      record {
        supported = record { seats = s.seats; enough = s.enough; answers = λ k l t. let u = s.answers k l t in (u.0, inr u.1, u.2) };
        proposal = (m.proposal.0, inr m.proposal.1);
      }

  -- The owner's offer at the first ballot is grounded.
  first_grounded : {h : List Note} → Allowed n f owner h → (c : Command) (d : ℕ) → Has n f owner lg at h (offer 0 (content (command c) d)) →
      Grounded h c d
  first_grounded begin c d i = absurd i
  first_grounded (next {h = h} {e = e} r a) c d (inl p) =
      let m = known n f owner lg at h (offer 0 (content (command c) d)) p a in
      grows h e c d (record { supported = m.first c d refl refl; proposal = m.known c d refl refl })
  first_grounded (next {h = h} {e = e} r a) c d (inr i) = grows h e c d (first_grounded r c d i)

  -- The owner's proposal is the owner's answer.
  own : {h : List Note} → Allowed n f owner h → (c : Command) (d : ℕ) → Has n f owner lg at h (propose (content (command c) d)) →
      Has n f owner lg at h (answer (owner lg) d)
  own begin c d i = absurd i
  own (next {h = h} r a) c d (inl p) = inr ((known n f owner lg at h (propose (content (command c) d)) p a).own c d refl)
  own (next r a) c d (inr i) = inr (own r c d i)

  -- A vote came after the proposal.
  after_proposal : {h : List Note} → Allowed n f owner h → (s : ℕ) → Has n f owner lg at h (vote s) →
      (v : Content) × Has n f owner lg at h (propose v)
  after_proposal begin s j = absurd j
  after_proposal (next {h = h} r a) s (inl q) =
      let v = known n f owner lg at h (vote s) q a in (content (command v.proposal) v.dependency, inr v.proposed)
  after_proposal (next r a) s (inr j) = let v = after_proposal r s j in (v.0, inr v.1)

  -- And so it is an answer with the dependency proposed.
  pub voted : {h : List Note} → Allowed n f owner h → (c : Command) (d s : ℕ) → Has n f owner lg at h (propose (content (command c) d)) →
      Has n f owner lg at h (vote s) → Has n f owner lg at h (answer s d)
  voted begin c d s i j = absurd i
  voted (next {h = h} {e = e} r a) c d s i j =
      let ih = voted r c d s in
      let early = after_proposal r s in
      let only = one_proposal n f owner lg at r (content (command c) d) in
      grind arith

  -- A majority that may have voted for the proposal is one that answered with its dependency.
  free_grounded : {h : List Note} → Allowed n f owner h → owner lg < n → (b : ℕ) (Q : Seats) (c : Command) (d : ℕ) →
      Free (ballots_in n f owner h lg at) Q b (content (command c) d) → Grounded h c d
  free_grounded {h} r seated b Q c d u = elim (cases_lt f (tally (ballots_in n f owner h lg at) Q u.votes)) [
    | inr few ↦ absurd (clash c d (u.few few))
    | inl many ↦
        let p = u.many many in
        let m : f < count (both Q u.votes) n + cond (Q (owner lg)) 0 1 = many in
        let said : (k : ℕ) → k < n → both Q u.votes k ≡ true → Has n f owner lg at h (answer k d) =
        λ k l t. let z = and_parts (Q k) (u.votes k) t in voted r c d k p ((u.tells k l z.0).0 z.1) in
        elim (cases_Bool (Q (owner lg))) [
          | inl asked ↦
              let z : cond {A = ℕ} (Q (owner lg)) 0 1 ≡ 0 = rw asked in
              record {
                supported = record { seats = both Q u.votes; enough = omega arith; answers = λ k l t. (d, said k l t, omega arith) };
                proposal = (d, p);
              }
          | inr away ↦
              let z : cond {A = ℕ} (Q (owner lg)) 0 1 ≡ 1 = rw away in
              let more = count_joined (owner lg) (both Q u.votes) n seated (and_left (Q (owner lg)) (u.votes (owner lg)) away) in
              record {
                supported = record {
                  seats = joined (owner lg) (both Q u.votes);
                  enough = omega arith;
                  answers = λ k l t. elim (or_cases (eqb k (owner lg)) (both Q u.votes k) t) [
                    | inl same ↦ (d, rw (eqb-true k (owner lg) same) (own r c d p), omega arith)
                    | inr t' ↦ (d, said k l t', omega arith)
                  ];
                };
                proposal = (d, p);
              }
        ]
  ]

  -- Whatever is offered, if a command, is grounded.
  offered_grounded : {h : List Note} → Allowed n f owner h → n ≡ 2 * f + 1 → owner lg < n → (b : ℕ) (v : Content) →
      Has n f owner lg at h (offer b v) → (c : Command) (d : ℕ) → v ≡ content (command c) d → Grounded h c d
  offered_grounded {h} r size seated = offers_keep (ballots_in n f owner h lg at) (lawful n f owner lg at size seated r)
      (λ v. (c : Command) (d : ℕ) → v ≡ content (command c) d → Grounded h c d)
      (λ v o c d e. first_grounded r c d (rw e at o))
      (λ b v g u c d e. free_grounded r seated b g.asked c d (rw e at u))

  -- Each decided command is grounded.
  pub decided_grounded : {h : List Note} → Allowed n f owner h → n ≡ 2 * f + 1 → 0 < f → owner lg < n → (c : Command) (d : ℕ) →
      decided_in n f owner h lg at (content (command c) d) → Grounded h c d
  decided_grounded r size some_fail seated c d (inl t) =
      offered_grounded r size seated t.ballot (content (command c) d) t.offered c d refl
  decided_grounded r size some_fail seated c d (inr t) =
      let m = (lawful n f owner lg at size seated r).fast t.0 in
      record {
        supported = record {
          seats = m.voters;
          enough = omega (arith, m.enough);
          answers = λ k l v. (d, voted r c d k t.1 (m.voted k l v), omega arith);
        };
        proposal = (d, t.1);
      }
