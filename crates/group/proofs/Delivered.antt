-- A delivery that is not refused is a turn at the entry that its message is about.
use Rattle.std.proofs.Common.{◌≡◌, ℕ, suc, ◌+◌, ◌-◌, ◌*◌, ◌<◌, ◌≤◌, true, false, cond, ◌&&◌, eqb, ltb, leb, ◌⊎◌, List, [], length, get_or, drop, set, is_some, Some, None, Ok, Err, Option, sym, refl, ap, ◌∙◌, subst, inl, inr, arith}
use mathlib.Core.Option.{none}
use Rattle.std.proofs.lemmas.List.{get_or-drop, get_or_past}
use Rattle.std.proofs.lemmas.Bool.{cases_Bool, cases_lt, and_parts, eqb-true}
use Rattle.std.proofs.lemmas.Bool.Decides.{nat_tests}
use Rattle.command.specs.declared.Command.{Command}
use Rattle.agreement.specs.Lists.{In}
use Rattle.agreement.specs.Logs.{Log, other}
use Rattle.block.specs.declared.message.Kind.{Kind}
use Rattle.block.specs.declared.message.Kind.TheVariants.{FastAccept, FastAcceptOk, FastAcceptReply, Accept, AcceptOk, Commit, Prepare, PrepareOk, Reject}
use Rattle.block.specs.declared.message.Message.{Message}
use Rattle.block.specs.declared.message.Value.{Value}
use Rattle.block.specs.declared.message.Value.TheVariants as value
use Rattle.block.specs.Ballots.{holder_of}
use Rattle.block.specs.Fits.{value_fits}
use Rattle.block.specs.Messages.{value_number}
use Rattle.block.specs.Valid.{Valid}
use Rattle.column.specs.Cells.{Message.message}
use Rattle.column.specs.Cells as column
use Rattle.std.specs.List.{position_from}
use Rattle.entry.specs.declared.entry.Entry.{Entry}
use Rattle.entry.specs.declared.entry.State.{State}
use Rattle.entry.specs.declared.entry.State.TheVariants.{Empty, Answered, Accepted, Committed}
use Rattle.entry.specs.Entries.{is_held, is_committed, has_answered, blocks, committing}
use Rattle.card.specs.declared.replica.Replica.{Replica}
use Rattle.card.specs.Tables.{absent, log_of, entry_at, with_entry, highest_held, is_blocked}
use Rattle.group.specs.Views.{number_of, log_named, body_by, noted}
use Rattle.group.specs.Standing.{Standing}
use Rattle.block.specs.Fits.{ballot_fits}
use Rattle.column.specs.Cells.{Body, Body.fast_accept, Body.fast_ok, Body.fast_reply, Body.accept_at, Body.accept_ok, Body.committed_as, Body.prepare, Body.prepare_ok, Body.reject}
use Rattle.column.specs.Moves.{Act, Act.counts_vote, Act.counts_reply}
use Rattle.entry.specs.declared.answers.Answer.{Answer}
use Rattle.entry.specs.declared.answers.Answer.TheVariants.{Vote, Reply}
use Rattle.entry.specs.declared.takeover.Takeover.{Takeover}
use Rattle.entry.specs.Ballots.{holder_in}
use Rattle.entry.specs.Takeovers.{is_live}
use Rattle.card.specs.Checks.{is_reply, is_addressed, is_mine, is_from_peer}
use Rattle.card.specs.Steps.{Step}
use Rattle.card.specs.Delivering.{Turn, nothing, answers, hears, acknowledges_owner, acknowledges_by, acknowledges_takeover, reports_by, reports, reported_in, on_fast_accept, on_answer, on_accept_ok, unless_committed, accepts, promises, raises, turn_by, turn}
use Rattle.card.specs.Delivering as delivering
use Rattle.card.specs.declared.refusal.Refusal.TheVariants.{DifferentCommit}
use Rattle.group.specs.Views.{answer_of, answers_of, cell_of, cell_at, takeover_in, proposal_of}
use Rattle.group.specs.Standing.{StandingMaybe}
use Rattle.group.proofs.Counting.{puts_one}
use Rattle.group.proofs.Placing.{number_named}
use Rattle.group.proofs.Scanning.{first_passes, scans_find}
use Rattle.group.proofs.Turning.{Does, rest, tells_promised, tells_committed, prepared, accepted_at, learned, raised, voted_for, replied_to, repeated}
use Rattle.group.proofs.Hearing.{hears_answer, hears_accept}
use Rattle.group.proofs.Taking.{hears_backing, hears_report}

held_state : (st : State) → (st ≡ Empty → ⊥) → is_held st ≡ true
held_state Empty ne = absurd (ne refl)
held_state Answered ne = refl
held_state Accepted ne = refl
held_state Committed ne = refl

-- what blocks is held, so that a reply has a dependency
blocked_held : (n s : ℕ) (r : Replica) → Standing n s r → (log i d : ℕ) → log ≤ 1 → is_blocked r log i d ≡ true → 0 < highest_held r (1 - log)
blocked_held n s r stands log i d l b = found (position_from (blocks i) d (drop d (log_of r (1 - log)))) refl b
  where
    found : (o : Option ℕ) → position_from (blocks i) d (drop d (log_of r (1 - log))) ≡ o → is_some o ≡ true → 0 < highest_held r (1 - log)
    found None e q = absurd (grind arith)
    found (Some j) e q =
        let far : List Entry = log_of r (1 - log) in
        let p = first_passes (blocks i) absent (drop d far) d j e in
        let at : get_or (drop d far) (j - d) absent ≡ get_or far j absent =
        get_or-drop d far (j - d) absent ∙ ap (λ k. get_or far k absent) (omega arith) in
        let here : blocks i (get_or far j absent) ≡ true = ap (blocks i) (sym at) ∙ p.1 in
        let n128 : length far ≡ 128 = stands.shape (1 - log) (omega arith) in
        elim (cases_lt j 128) [
          | inl near ↦
              let stands_x = stands.entries (1 - log) j (omega arith) near in
              let answered : has_answered (get_or far j absent) ≡ true = (and_parts (has_answered (get_or far j absent)) (ltb (get_or far j absent).answered i) here).0 in
              let held : is_held (get_or far j absent).state ≡ true = held_state (get_or far j absent).state (λ z. let y = stands_x.bare z in grind arith) in
              let at_j : get_or far (suc j - 1) absent ≡ get_or far j absent = ap (λ k. get_or far k absent) (omega arith) in
              let top = (scans_find r stands.shape).held (1 - log) (suc j) (omega arith) (omega arith) (omega arith)
              (ap (λ x. is_held x.state) at_j ∙ held) in
              omega arith
          | inr past ↦ absurd (let z : get_or far j absent ≡ absent = get_or_past far j absent (omega arith) in let y = ap (blocks i) (sym z) ∙ here in grind arith)
        ]

-- a proposal carries a command
proposes_command : (v : Value) → value_fits FastAccept (value_number v) ≡ true → (c : Command) × (v ≡ value.Command c)
proposes_command value.Nothing h = absurd (grind arith)
proposes_command value.Noop h = absurd (grind arith)
proposes_command (value.Command c) h = (c, refl)

module _ (f : ℕ) (r : Replica) (size : r.n ≡ 2 * f + 1) (some_fail : 0 < f) (few : r.n ≤ 7) (seat_s : r.seat < r.n)
    (stands : Standing r.n r.seat r) (S : List column.Message) (m : Message) (valid : Valid m) (sent : In (noted m) S)
    (mine : is_mine r m ≡ true) (peer : is_from_peer r m ≡ true) where
  abbrev g : Log
  g = log_named m.log

  abbrev e : Entry
  e = entry_at r m.log m.entry

  pub named : number_of g ≡ m.log
  named = number_named m.log valid.log

  -- what the call comes to is a turn
  abbrev pub Turns : Replica × Option Message → Type 0
  Turns x = Does r.n f r.seat r stands S g m.log m.entry named valid.entry_from_one valid.entry_to_last x

  from_seat : m.from < r.n
  from_seat =
      let p = and_parts (ltb m.from r.n) _ peer in
      grind (arith, nat_tests, p)

  said : (k : Kind) → m.kind ≡ k → In (message m.from g m.entry (body_by k m)) S
  said k e = subst (λ k. In (message m.from g m.entry (body_by k m)) S) e sent

  -- a proposal, by the state of its entry
  on_proposal : (c : Command) → m.value ≡ value.Command c → In (message m.from g m.entry (fast_accept c m.dependency)) S
      → (st : State) → e.state ≡ st → Turns (on_fast_accept st r m e)
  unfolding answers
  on_proposal c v j Empty st = elim (cases_Bool (ltb 0 e.promised)) [
    | inl q ↦ rw q (tells_promised r.n f r.seat r stands S g m.log m.entry named valid.entry_from_one valid.entry_to_last m.from)
    | inr q ↦
        let free : e.promised ≡ 0 = grind (arith, nat_tests) in
        elim (cases_Bool (is_blocked r m.log m.entry m.dependency)) [
          | inl b ↦ rw (q, b, v) (replied_to r.n f r.seat r stands S g m.log m.entry named valid.entry_from_one valid.entry_to_last
              m.from c m.dependency j st free (blocked_held r.n r.seat r stands m.log m.entry m.dependency valid.log b))
          | inr b ↦ rw (q, b, v) (voted_for r.n f r.seat r stands S g m.log m.entry named valid.entry_from_one valid.entry_to_last
              m.from c m.dependency j st free b)
        ]
  ]
  on_proposal c v j Answered st = elim (cases_Bool (ltb 0 e.promised)) [
    | inl q ↦ rw q (tells_promised r.n f r.seat r stands S g m.log m.entry named valid.entry_from_one valid.entry_to_last m.from)
    | inr q ↦ rw q (repeated r.n f r.seat r stands S g m.log m.entry named valid.entry_from_one valid.entry_to_last m.from st)
  ]
  on_proposal c v j Accepted st = elim (cases_Bool (ltb 0 e.promised)) [
    | inl q ↦ rw q (tells_promised r.n f r.seat r stands S g m.log m.entry named valid.entry_from_one valid.entry_to_last m.from)
    | inr q ↦ rw q (rest r.n f r.seat r stands S g m.log m.entry named valid.entry_from_one valid.entry_to_last)
  ]
  on_proposal c v j Committed st =
      tells_committed r.n f r.seat r stands S g m.log m.entry named valid.entry_from_one valid.entry_to_last m.from st

  -- the seat that holds ballot 0 is the owner's
  owns : is_reply m.kind ≡ true → m.ballot ≡ 0 → r.seat ≡ m.log
  owns k b =
      let p = (and_parts (is_addressed m.to r.seat) _ mine).1 in
      let q : eqb (holder_in m.log m.ballot) r.seat ≡ true = grind (arith, nat_tests, p, k) in
      let h : holder_in m.log m.ballot ≡ r.seat = eqb-true (holder_in m.log m.ballot) r.seat q in
      let z : holder_in m.log m.ballot ≡ m.log = rw b in
      sym h ∙ z

  -- an answer, by the state of its entry
  on_answer_lem : (a : Answer) → r.seat ≡ m.log
      → ((d : ℕ) → (Some a ≡ Some (Vote d)) ⊎ (Some a ≡ Some (Reply d)) → d ≤ 128)
      → ((d : ℕ) → Some a ≡ Some (Vote d) → d ≡ e.dependency)
      → ((A : ℕ → column.Answer) → column.Puts (answers_of e.tally.answers) m.from (answer_of (Some a)) A
      → Act r.n f number_of holder_of g m.entry r.seat S (cell_at r (other g)) (cell_of e) (takeover_in r.takeover) (column.tallying A (cell_of e)) (takeover_in r.takeover) none [])
      → (st : State) → e.state ≡ st → Turns (on_answer st a r m e)
  unfolding hears
  on_answer_lem a own fits votes act Empty st = rest r.n f r.seat r stands S g m.log m.entry named valid.entry_from_one valid.entry_to_last
  on_answer_lem a own fits votes act Answered st =
      let stands_e = stands.entries m.log (m.entry - 1) valid.log (let l = valid.entry_from_one in let h = valid.entry_to_last in omega arith) in
      hears_answer r.n f r.seat size few r stands S g m.log m.entry named valid.entry_from_one valid.entry_to_last own
      m.from a seat_s from_seat stands_e fits votes
      (act (answers_of (set e.tally.answers m.from (Some a)))
      (puts_one answer_of None (Some a) e.tally.answers m.from (let l = from_seat in omega (arith, stands_e.answers.seven))))
  on_answer_lem a own fits votes act Accepted st = rest r.n f r.seat r stands S g m.log m.entry named valid.entry_from_one valid.entry_to_last
  on_answer_lem a own fits votes act Committed st = rest r.n f r.seat r stands S g m.log m.entry named valid.entry_from_one valid.entry_to_last

  rests_here : Turns (nothing r)
  rests_here = rest r.n f r.seat r stands S g m.log m.entry named valid.entry_from_one valid.entry_to_last

  promised_here : Turns (delivering.rejects r m e)
  promised_here = tells_promised r.n f r.seat r stands S g m.log m.entry named valid.entry_from_one valid.entry_to_last m.from

  -- an AcceptOk to the owner
  to_owner : m.kind ≡ AcceptOk → m.ballot ≡ 0 → Turns (acknowledges_owner r m e)
  unfolding acknowledges_owner
  to_owner k b =
      let stands_e = stands.entries m.log (m.entry - 1) valid.log (let l = valid.entry_from_one in let h = valid.entry_to_last in omega arith) in
      hears_accept r.n f r.seat size few r stands S g m.log m.entry named valid.entry_from_one valid.entry_to_last (owns (ap is_reply k) b)
      m.from from_seat stands_e (subst (λ x. In (message m.from g m.entry (accept_ok x)) S) b (said AcceptOk k))

  -- an AcceptOk to a takeover
  to_takeover : m.kind ≡ AcceptOk → Turns (acknowledges_takeover r m e)
  unfolding acknowledges_takeover
  to_takeover k = by r.takeover refl stands.takeover
    where
      by : (o : Option Takeover) → r.takeover ≡ o → StandingMaybe r.n r.takeover → Turns (acknowledges_by o r m e)
      by None q st = rests_here
      by (Some u) q st = elim (cases_Bool (is_live u m.log m.entry m.ballot e)) [
        | inl l ↦ rw l (hears_backing r.n f r.seat size some_fail few seat_s r stands S g m.log m.entry named
            valid.entry_from_one valid.entry_to_last u q (subst (StandingMaybe r.n) q st) m.ballot l m.from from_seat (said AcceptOk k))
        | inr l ↦ rw l rests_here
      ]

  on_accept_ok_lem : m.kind ≡ AcceptOk → (st : State) → e.state ≡ st → Turns (on_accept_ok st r m e)
  on_accept_ok_lem k Empty st = elim (cases_Bool (ltb 0 m.ballot)) [ inl q ↦ rw q (to_takeover k) | inr q ↦ rw q rests_here ]
  on_accept_ok_lem k Answered st = elim (cases_Bool (ltb 0 m.ballot)) [ inl q ↦ rw q (to_takeover k) | inr q ↦ rw q rests_here ]
  on_accept_ok_lem k Accepted st = elim (cases_Bool (eqb m.ballot 0)) [
    | inl q ↦ rw q (to_owner k (eqb-true m.ballot 0 q))
    | inr q ↦ rw q (to_takeover k)
  ]
  on_accept_ok_lem k Committed st = rests_here

  -- a PrepareOk
  on_report : m.kind ≡ PrepareOk → Turns (reports r m e)
  unfolding reports
  on_report k = by r.takeover refl stands.takeover
    where
      by : (o : Option Takeover) → r.takeover ≡ o → StandingMaybe r.n r.takeover → Turns (reports_by o r m e)
      by None q st = rests_here
      by (Some u) q st = elim (cases_Bool (is_live u m.log m.entry m.ballot e)) [
        | inl l ↦ rw l (hears_report r.n f r.seat size some_fail few seat_s r stands S g m.log m.entry named
            valid.entry_from_one valid.entry_to_last u q (subst (StandingMaybe r.n) q st) m.ballot l m.from (reported_in m) from_seat (said PrepareOk k))
        | inr l ↦ rw l rests_here
      ]

  uncommitted : (st : State) → is_committed st ≡ false → e.state ≡ st → e.state ≡ Committed → ⊥
  uncommitted st u q c = let z : is_committed e.state ≡ true = rw c in let y : is_committed e.state ≡ false = rw q u in grind arith

  on_accept : m.kind ≡ Accept → (e.state ≡ Committed → ⊥) → Turns (accepts r m e)
  on_accept k unc = elim (cases_Bool (ltb m.ballot e.promised)) [
    | inl q ↦ rw q promised_here
    | inr q ↦ rw q (accepted_at r.n f r.seat r stands S g m.log m.entry named valid.entry_from_one valid.entry_to_last m.from
        m.ballot m.value m.dependency (said Accept k) unc (grind (arith, nat_tests)))
  ]

  on_prepare : m.kind ≡ Prepare → (e.state ≡ Committed → ⊥) → Turns (promises r m e)
  on_prepare k unc = elim (cases_Bool (leb m.ballot e.promised)) [
    | inl q ↦ rw q promised_here
    | inr q ↦ rw q (prepared r.n f r.seat r stands S g m.log m.entry named valid.entry_from_one valid.entry_to_last m.from
        m.ballot (said Prepare k) unc (grind (arith, nat_tests)))
  ]

  on_reject : m.kind ≡ Reject → (e.state ≡ Committed → ⊥) → Turns (raises r m e)
  on_reject k unc = elim (cases_Bool (ltb e.promised m.ballot)) [
    | inl q ↦ rw q (raised r.n f r.seat r stands S g m.log m.entry named valid.entry_from_one valid.entry_to_last m.from
        m.ballot (said Reject k) unc (grind (arith, nat_tests)))
    | inr q ↦ rw q rests_here
  ]

  -- by whether the entry is committed
  unless : (P : Replica × Option Message → Type 0) (x y : Replica × Option Message) → ((e.state ≡ Committed → ⊥) → P x) → (e.state ≡ Committed → P y)
      → (st : State) → e.state ≡ st → P (unless_committed st x y)
  unless P x y a b Empty q = a (uncommitted Empty refl q)
  unless P x y a b Answered q = a (uncommitted Answered refl q)
  unless P x y a b Accepted q = a (uncommitted Accepted refl q)
  unless P x y a b Committed q = b q

  committed_here : e.state ≡ Committed → Turns (delivering.recommits r m e)
  committed_here q = tells_committed r.n f r.seat r stands S g m.log m.entry named valid.entry_from_one valid.entry_to_last m.from q

  -- a call that is refused changes nothing
  abbrev pub Steps : Step → Type 0
  Steps (Ok x) = Turns x
  Steps (Err refused) = Unit {0}

  learn : m.kind ≡ Commit → Turns (with_entry r m.log m.entry (committing e m.value m.dependency), None)
  learn k = learned r.n f r.seat r stands S g m.log m.entry named valid.entry_from_one valid.entry_to_last m.from m.value m.dependency (said Commit k)

  on_commit : m.kind ≡ Commit → (st : State) → e.state ≡ st
      → Steps (unless_committed st (Ok (with_entry r m.log m.entry (committing e m.value m.dependency), None))
      (cond (delivering.same_value e.value m.value && eqb e.dependency m.dependency) (Ok (nothing r)) (Err DifferentCommit)))
  on_commit k Empty q = learn k
  on_commit k Answered q = learn k
  on_commit k Accepted q = learn k
  on_commit k Committed q = elim (cases_Bool (delivering.same_value e.value m.value && eqb e.dependency m.dependency)) [
    | inl w ↦ rw w rests_here
    | inr w ↦ rw w tt
  ]

  by_kind : (k : Kind) → m.kind ≡ k → Steps (turn_by k r m e)
  by_kind FastAccept k =
      let c = proposes_command m.value (subst (λ k. value_fits k (value_number m.value) ≡ true) k valid.fits_value) in
      on_proposal c.0 c.1
      (subst (λ v. In (message m.from g m.entry (proposal_of v m.dependency)) S) c.1 (said FastAccept k)) e.state refl
  by_kind FastAcceptOk k =
      let b : m.ballot ≡ 0 = eqb-true m.ballot 0 (subst (λ k. ballot_fits k m.ballot ≡ true) k valid.fits_ballot) in
      let stands_e = stands.entries m.log (m.entry - 1) valid.log (let l = valid.entry_from_one in let h = valid.entry_to_last in omega arith) in
      on_answer_lem (Vote e.dependency) (owns (ap is_reply k) b)
      (λ d q. let z : d ≡ e.dependency = grind arith in let l = stands_e.dependency in omega arith)
      (λ d q. grind arith)
      (λ A p. counts_vote m.from A (said FastAcceptOk k) p) e.state refl
  by_kind FastAcceptReply k =
      let b : m.ballot ≡ 0 = eqb-true m.ballot 0 (subst (λ k. ballot_fits k m.ballot ≡ true) k valid.fits_ballot) in
      on_answer_lem (Reply m.dependency) (owns (ap is_reply k) b)
      (λ d q. let z : d ≡ m.dependency = grind arith in let l = valid.dependency in omega arith)
      (λ d q. absurd (grind arith))
      (λ A p. counts_reply m.from m.dependency A (said FastAcceptReply k) p) e.state refl
  by_kind Accept k = unless Turns (accepts r m e) (delivering.recommits r m e) (on_accept k) committed_here e.state refl
  by_kind AcceptOk k = on_accept_ok_lem k e.state refl
  by_kind Commit k = on_commit k e.state refl
  by_kind Prepare k = unless Turns (promises r m e) (delivering.recommits r m e) (on_prepare k) committed_here e.state refl
  by_kind PrepareOk k = unless Turns (reports r m e) (nothing r) (λ u. on_report k) (λ c. rests_here) e.state refl
  by_kind Reject k = unless Turns (raises r m e) (nothing r) (on_reject k) (λ c. rests_here) e.state refl

  pub delivers : Steps (turn r m)
  delivers = by_kind m.kind refl
