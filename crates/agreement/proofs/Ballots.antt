-- At most one value of an entry is decided.
use Rattle.std.proofs.Common.{◌≡◌, ℕ, ◌<◌, ◌≤◌, false, sym, inl, inr, arith}
use Rattle.std.proofs.lemmas.Bool.{cases_Bool, cases_lt, cases_order, and_parts, and_from}
use Rattle.agreement.specs.Quorums.{count, both}
use Rattle.agreement.specs.Ballots.{Ballots, Chosen, Free, FastQuorum, Lawful, Majority, tally, OneValueLaw}
use Rattle.agreement.proofs.Quorums.{quorums_overlap, overlap_fast, count_mono}
use Rattle.agreement.proofs.Induction.{strong}

module _ {n f owner : ℕ} {V : Type 0} (e : Ballots n f owner V) (s : Lawful e) where
  -- Past the ballot at which v was accepted by a majority, only v is offered.
  after : (v : V) (d : Majority e v) (b : ℕ) → d.ballot < b → (w : V) → e.Offered b w → w ≡ v
  after v d = strong (λ b. d.ballot < b → (w : V) → e.Offered b w → w ≡ v) step
    where
      step : (b : ℕ) → ((a : ℕ) → a < b → d.ballot < a → (w : V) → e.Offered a w → w ≡ v) →
          d.ballot < b → (w : V) → e.Offered b w → w ≡ v
      step b ih l w o =
          let g = s.chosen b w (omega arith) o in
          let (c, c<n, held, asked) = quorums_overlap n f d.holders g.asked s.size d.enough g.enough in
          let acc : e.Accepted c d.ballot = d.accepted c c<n held in
          elim g.rule [
            | inl r ↦ absurd (r.silent c d.ballot c<n asked (omega arith) l acc)
            | inr r ↦ elim (cases_order r.from d.ballot) [
              | inl same ↦ s.one_offer d.ballot w v (rw same at r.offered) d.offered
              | inr (inl less) ↦ absurd (r.silent c d.ballot c<n asked (omega arith) l acc)
              | inr (inr more) ↦ ih r.from r.earlier more w r.offered
            ]
          ]

  -- Two majorities accepted one value.
  majorities_agree : (v w : V) → Majority e v → Majority e w → v ≡ w
  majorities_agree v w d g =
      elim (cases_order d.ballot g.ballot) [
        | inl same ↦ s.one_offer g.ballot v w (rw same at d.offered) g.offered
        | inr (inl less) ↦ sym (after v d g.ballot less w g.offered)
        | inr (inr more) ↦ after w g d.ballot more v d.offered
      ]

  -- Of the seats that are asked at least f voted, and the owner is none of them.
  enough : (m : FastQuorum e) (b : ℕ) (w : V) (g : Chosen e b w) (r : Free e g.asked b w) →
      f < tally e g.asked r.votes
  enough m b w g r =
      let away : g.asked owner ≡ false = elim (cases_Bool (g.asked owner)) [
        | inl asked ↦ absurd (m.no_report b (g.reports owner s.seated asked))
        | inr not ↦ not
      ] in
      let shared = overlap_fast n f m.voters g.asked s.size m.enough g.enough in
      let more : count (both m.voters g.asked) n ≤ count (both g.asked r.votes) n =
      count_mono (both m.voters g.asked) (both g.asked r.votes) n
      (λ c c<n t.
      let h = and_parts (m.voters c) (g.asked c) t in
      and_from (g.asked c) (r.votes c) h.1 ((r.tells c c<n h.1).1 (m.voted c c<n h.0))) in
      rw away (omega arith)

  -- What holds of each first offer, and of each offer that no accept bound, holds of every offer.
  pub offers_keep : (P : V → Type 0) → ((v : V) → e.Offered 0 v → P v) →
      ((b : ℕ) (v : V) (g : Chosen e b v) → Free e g.asked b v → P v) → (b : ℕ) (v : V) → e.Offered b v → P v
  offers_keep P first free = strong (λ b. (v : V) → e.Offered b v → P v) step
    where
      step : (b : ℕ) → ((a : ℕ) → a < b → (v : V) → e.Offered a v → P v) → (v : V) → e.Offered b v → P v
      step b ih v o = elim (cases_lt 0 b) [
        | inr none ↦ let z : b ≡ 0 = omega arith in first v (rw z at o)
        | inl some ↦
            let g = s.chosen b v some o in
            elim g.rule [ inl r ↦ free b v g r | inr r ↦ ih r.from r.earlier v r.offered ]
      ]

  -- After a commit on votes alone, only the proposal is offered.
  fast_offers : e.Fast → (b : ℕ) (v : V) → e.Offered b v → e.Proposed v
  fast_offers fast =
      let m = s.fast fast in
      offers_keep (λ v. e.Proposed v) (λ v o. absurd (m.no_first v o)) (λ b v g r. r.many (enough m b v g r))

  -- A majority accepted what was committed on votes alone.
  majority_fast : (v w : V) → Majority e v → e.Fast → e.Proposed w → v ≡ w
  majority_fast v w d fast p = s.one_proposal v w (fast_offers fast d.ballot v d.offered) p

pub one_value_law : OneValueLaw
one_value_law n f owner V e s v w (inl d) (inl g) = majorities_agree e s v w d g
one_value_law n f owner V e s v w (inl d) (inr (fast, p)) = majority_fast e s v w d fast p
one_value_law n f owner V e s v w (inr (fast, p)) (inl g) = sym (majority_fast e s w v g fast p)
one_value_law n f owner V e s v w (inr (fast, p)) (inr (_, q)) = s.one_proposal v w p q
