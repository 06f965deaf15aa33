-- What a card says is from its seat, about the entry of the call, and a proposal only where it proposes.
use Rattle.std.proofs.Common.{◌≡◌, ℕ, cond, ◌&&◌, eqb, ltb, leb, Some, None, Ok, Err, Option, refl, subst, inl, inr, arith}
use Rattle.std.proofs.lemmas.Bool.{cases_Bool}
use Rattle.block.specs.declared.message.Kind.{Kind}
use Rattle.block.specs.declared.message.Kind.TheVariants.{FastAccept, FastAcceptOk, FastAcceptReply, Accept, AcceptOk, Commit, Prepare, PrepareOk, Reject}
use Rattle.block.specs.declared.message.Message.{Message}
use Rattle.entry.specs.declared.answers.Answer.{Answer}
use Rattle.entry.specs.declared.entry.Entry.{Entry}
use Rattle.entry.specs.declared.entry.Progress.{Progress}
use Rattle.entry.specs.declared.entry.Progress.TheVariants.{Accepts, Commits}
use Rattle.entry.specs.declared.entry.State.{State}
use Rattle.entry.specs.declared.entry.State.TheVariants.{Empty, Answered, Accepted, Committed}
use Rattle.entry.specs.declared.takeover.Takeover.{Takeover}
use Rattle.entry.specs.Entries.{committing}
use Rattle.entry.specs.declared.answers.Answer.TheVariants.{Vote, Reply}
use Rattle.entry.specs.Owners.{counts_answers, can_settle, settling, hearing}
use Rattle.entry.specs.Owners as owners
use Rattle.entry.specs.Takeovers.{is_live, reporting}
use Rattle.entry.specs.Takeovers as takeovers
use Rattle.card.specs.declared.refusal.Refusal.TheVariants.{DifferentCommit}
use Rattle.card.specs.declared.replica.Replica.{Replica}
use Rattle.card.specs.Steps.{Step}
use Rattle.card.specs.Tables.{entry_at, with_entry}
use Rattle.card.specs.Messages.{announced, fast_answer}
use Rattle.card.specs.Settling.{settle}
use Rattle.card.specs.Taking.{takeover}
use Rattle.card.specs.Delivering.{nothing, recommits, rejects, answer_on, answers, hears, acknowledges_owner, acknowledges_by, acknowledges_takeover, reports_by, reports, reported_in, same_value, on_fast_accept, on_answer, on_accept_ok, unless_committed, accepts, promises, raises, turn_by, turn}
use Rattle.group.proofs.Passing.{settled, taken_over}

pub record Says (seat l i : ℕ) (m : Message) : Type 0 where
  pub from : m.from ≡ seat
  pub log : m.log ≡ l
  pub place : m.entry ≡ i
  pub no_proposal : m.kind ≡ FastAccept → ⊥

module _ (r : Replica) (log i : ℕ) where
  abbrev pub Said : Option Message → Type 0
  Said None = Unit {0}
  Said (Some m) = Says r.seat log i m

  abbrev pub Told : Step → Type 0
  Told (Ok x) = Said x.1
  Told (Err refused) = Unit {0}

  -- what all are told
  pub announced_said : (x : Entry) (p : Option Progress) → Said (announced r.seat log i x p)
  announced_said x None = tt
  announced_said x (Some Accepts) = record { from = refl; log = refl; place = refl; no_proposal = λ k. grind arith }
  announced_said x (Some Commits) = record { from = refl; log = refl; place = refl; no_proposal = λ k. grind arith }

  answer_said : (to : ℕ) (x : Entry) → Said (Some (fast_answer r.seat to log i x))
  answer_said to x = elim (cases_Bool x.vote) [
    | inl v ↦ rw v (record { from = refl; log = refl; place = refl; no_proposal = λ k. grind arith })
    | inr v ↦ rw v (record { from = refl; log = refl; place = refl; no_proposal = λ k. grind arith })
  ]

  pub settle_said : (x : Replica × Option Message) → settle r log i ≡ Ok x → Said x.1
  settle_said x q = let w = settled r log i x q in subst (λ x. Said x.1) w.is (announced_said (settling r.n r.seat (entry_at r log i)) (Some Accepts))

  pub takeover_said : (x : Replica × Option Message) → takeover r log i ≡ Ok x → Said x.1
  takeover_said x q =
      let w = taken_over r log i x q in
      subst (λ x. Said x.1) w.is (record { from = refl; log = refl; place = refl; no_proposal = λ k. grind arith })

module _ (r : Replica) (m : Message) where
  abbrev e : Entry
  e = entry_at r m.log m.entry

  abbrev S : Replica × Option Message → Type 0
  S x = Said r m.log m.entry x.1

  abbrev T : Step → Type 0
  T s = Told r m.log m.entry s

  commits_said : S (recommits r m e)
  commits_said = record { from = refl; log = refl; place = refl; no_proposal = λ k. grind arith }

  rejects_said : S (rejects r m e)
  rejects_said = record { from = refl; log = refl; place = refl; no_proposal = λ k. grind arith }

  proposal_said : (st : State) → S (on_fast_accept st r m e)
  unfolding answers
  proposal_said Empty = elim (cases_Bool (ltb 0 e.promised)) [ inl q ↦ rw q rejects_said | inr q ↦ rw q (answer_said r m.log m.entry m.from (answer_on r m e)) ]
  proposal_said Answered = elim (cases_Bool (ltb 0 e.promised)) [ inl q ↦ rw q rejects_said | inr q ↦ rw q (answer_said r m.log m.entry m.from e) ]
  proposal_said Accepted = elim (cases_Bool (ltb 0 e.promised)) [ inl q ↦ rw q rejects_said | inr q ↦ rw q tt ]
  proposal_said Committed = commits_said

  on_answer_said : (a : Answer) (st : State) → S (on_answer st a r m e)
  unfolding hears
  on_answer_said a Empty = tt
  on_answer_said a Answered = announced_said r m.log m.entry (hearing r.n r.seat e m.from (Some a)).0 (hearing r.n r.seat e m.from (Some a)).1
  on_answer_said a Accepted = tt
  on_answer_said a Committed = tt

  owner_said : S (acknowledges_owner r m e)
  unfolding acknowledges_owner
  owner_said = announced_said r m.log m.entry (owners.acknowledging r.n e m.from).0 (owners.acknowledging r.n e m.from).1

  backing_said : S (acknowledges_takeover r m e)
  unfolding acknowledges_takeover
  backing_said = by r.takeover
    where
      by : (o : Option Takeover) → S (acknowledges_by o r m e)
      by None = tt
      by (Some u) = elim (cases_Bool (is_live u m.log m.entry m.ballot e)) [
        | inl l ↦ rw l (announced_said r m.log m.entry (takeovers.acknowledging r.n u e m.from).1 (takeovers.acknowledging r.n u e m.from).2)
        | inr l ↦ rw l tt
      ]

  report_said : S (reports r m e)
  unfolding reports
  report_said = by r.takeover
    where
      by : (o : Option Takeover) → S (reports_by o r m e)
      by None = tt
      by (Some u) = elim (cases_Bool (is_live u m.log m.entry m.ballot e)) [
        | inl l ↦ rw l (announced_said r m.log m.entry (reporting r.n r.seat u e m.from (reported_in m)).1 (reporting r.n r.seat u e m.from (reported_in m)).2)
        | inr l ↦ rw l tt
      ]

  accept_ok_said : (st : State) → S (on_accept_ok st r m e)
  accept_ok_said Empty = elim (cases_Bool (ltb 0 m.ballot)) [ inl q ↦ rw q backing_said | inr q ↦ rw q tt ]
  accept_ok_said Answered = elim (cases_Bool (ltb 0 m.ballot)) [ inl q ↦ rw q backing_said | inr q ↦ rw q tt ]
  accept_ok_said Accepted = elim (cases_Bool (eqb m.ballot 0)) [ inl q ↦ rw q owner_said | inr q ↦ rw q backing_said ]
  accept_ok_said Committed = tt

  unless_said : (x y : Replica × Option Message) (st : State) → S x → S y → S (unless_committed st x y)
  unless_said x y Empty a b = a
  unless_said x y Answered a b = a
  unless_said x y Accepted a b = a
  unless_said x y Committed a b = b

  accept_said : S (accepts r m e)
  accept_said = elim (cases_Bool (ltb m.ballot e.promised)) [
    | inl q ↦ rw q rejects_said
    | inr q ↦ rw q (record { from = refl; log = refl; place = refl; no_proposal = λ k. grind arith })
  ]

  prepare_said : S (promises r m e)
  prepare_said = elim (cases_Bool (leb m.ballot e.promised)) [
    | inl q ↦ rw q rejects_said
    | inr q ↦ rw q (record { from = refl; log = refl; place = refl; no_proposal = λ k. grind arith })
  ]

  reject_said : S (raises r m e)
  reject_said = elim (cases_Bool (ltb e.promised m.ballot)) [ inl q ↦ rw q tt | inr q ↦ rw q tt ]

  commit_said : (st : State) → T (unless_committed st (Ok (with_entry r m.log m.entry (committing e m.value m.dependency), None))
      (cond (same_value e.value m.value && eqb e.dependency m.dependency) (Ok (nothing r)) (Err DifferentCommit)))
  commit_said Empty = tt
  commit_said Answered = tt
  commit_said Accepted = tt
  commit_said Committed = elim (cases_Bool (same_value e.value m.value && eqb e.dependency m.dependency)) [ inl w ↦ rw w tt | inr w ↦ rw w tt ]

  kind_said : (k : Kind) → T (turn_by k r m e)
  kind_said FastAccept = proposal_said e.state
  kind_said FastAcceptOk = on_answer_said (Vote e.dependency) e.state
  kind_said FastAcceptReply = on_answer_said (Reply m.dependency) e.state
  kind_said Accept = unless_said (accepts r m e) (recommits r m e) e.state accept_said commits_said
  kind_said AcceptOk = accept_ok_said e.state
  kind_said Commit = commit_said e.state
  kind_said Prepare = unless_said (promises r m e) (recommits r m e) e.state prepare_said commits_said
  kind_said PrepareOk = unless_said (reports r m e) (nothing r) e.state report_said tt
  kind_said Reject = unless_said (raises r m e) (nothing r) e.state reject_said tt

  pub delivery_said : T (turn r m)
  delivery_said = kind_said m.kind
