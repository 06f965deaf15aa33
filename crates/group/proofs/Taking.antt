-- What a takeover makes of a report or an AcceptOk is a turn.
use Rattle.std.proofs.Common.{◌≡◌, ℕ, ◌+◌, ◌*◌, ◌<◌, ◌≤◌, Bool, true, false, cond, not, ◌&&◌, ◌||◌, eqb, leb, List, [], get_or, set, Some, None, Option, sym, refl, ap, ◌∙◌, subst, inl, inr, arith}
use mathlib.Core.Option.{some, none}
use Rattle.std.proofs.lemmas.Bool.{cases_Bool, cases_lt, and_parts, eqb-true}
use Rattle.std.proofs.lemmas.Bool.Decides.{nat_tests}
use Rattle.agreement.specs.Lists.{In}
use Rattle.agreement.specs.Logs.{Log, Log.pilot, Log.copilot, other, Content}
use Rattle.agreement.specs.Quorums.{count, both}
use Rattle.block.specs.declared.message.Message.{Message}
use Rattle.block.specs.declared.message.Report.{Report}
use Rattle.block.specs.declared.message.Report.TheVariants as report
use Rattle.block.specs.declared.message.Value.{Value}
use Rattle.block.specs.Ballots.{holder_of}
use Rattle.column.specs.Cells.{Stage.committed, Cell, heard, vote_of, Report.vouched, Report.held, Body, Body.accept_at, Body.accept_ok, Body.committed_as, Body.prepare_ok, Message.message}
use Rattle.column.specs.Cells as column
use Rattle.column.specs.Moves.{votes_in, NoneHeld, Picks, Picks.picks_held, Picks.picks_voted, Picks.picks_none, Act, Act.counts_report, Act.chooses, Act.counts_backing, Act.commits_choice, Act.rests, Turn.once, Turn.counted}
use Rattle.std.specs.List.{count_by as counted_in}
use Rattle.entry.specs.declared.entry.Entry.{Entry}
use Rattle.entry.specs.declared.entry.Progress.{Progress}
use Rattle.entry.specs.declared.entry.Progress.TheVariants.{Accepts, Commits}
use Rattle.entry.specs.declared.entry.State.{State}
use Rattle.entry.specs.declared.entry.State.TheVariants.{Empty, Answered, Accepted, Committed}
use Rattle.entry.specs.declared.reports.Reported.{Reported}
use Rattle.entry.specs.declared.takeover.Takeover.{Takeover}
use Rattle.entry.specs.Quorums.{majority_of}
use Rattle.entry.specs.Entries.{is_committed, accepting, committing}
use Rattle.entry.specs.Reports.{is_reported, is_vote_of, is_vote_report, votes_for, choice}
use Rattle.entry.specs.Takeovers.{takeover_of as takeover_from, is_live, reporting, agreed, acknowledging}
use Rattle.card.specs.declared.replica.Replica.{Replica}
use Rattle.card.specs.Tables.{entry_at, with_entry, with_takeover}
use Rattle.card.specs.Messages.{announced}
use Rattle.group.specs.Views.{number_of, log_named, stage_of, content_of, seats_of, cell_of, cell_at, report_by, report_of, reports_of, takeover_of, takeover_in}
use Rattle.group.specs.Choices.{Reports, NoneAccepted, Chosen, Chosen.as_accepted, Chosen.as_voted, Chosen.as_noop}
use Rattle.group.specs.Standing.{Seated, Standing, StandingTakeover}
use Rattle.group.proofs.Counting.{count_seated, count_alike, seated_more, puts_one}
use Rattle.group.proofs.Choosing.{reports_choose}
use Rattle.group.proofs.Turning.{Turned, Does, writes_both, committed_only}

heard_reported : (o : Option Reported) → heard (report_of o) ≡ is_reported o
heard_reported None = refl
heard_reported (Some x) = by x.report
  where
    by : (p : Report) → heard (report_by p (content_of x.value x.dependency)) ≡ true
    by report.Empty = refl
    by report.Vote = refl
    by (report.Accepted b) = refl

-- a vote that was reported, in the one sense and in the other
vote_heard : (o : Option Reported) → (heard (report_of o) && vote_of (report_of o)) ≡ is_vote_report o
vote_heard None = refl
vote_heard (Some x) = by x.report
  where
    by : (p : Report) → (heard (report_by p (content_of x.value x.dependency)) && vote_of (report_by p (content_of x.value x.dependency))) ≡ is_vote_of p
    by report.Empty = refl
    by report.Vote = refl
    by (report.Accepted b) = refl

-- a report that is held was accepted
held_accepted : (o : Option Reported) (a : ℕ) (v : Content) → report_of o ≡ held a v
    → (x : Reported) × (o ≡ Some x) × (x.report ≡ report.Accepted a) × (content_of x.value x.dependency ≡ v)
held_accepted None a v e = absurd (grind arith)
held_accepted (Some x) a v e = by x.report refl e
  where
    by : (p : Report) → x.report ≡ p → report_by p (content_of x.value x.dependency) ≡ held a v
        → (y : Reported) × (Some x ≡ Some y) × (y.report ≡ report.Accepted a) × (content_of y.value y.dependency ≡ v)
    by report.Empty q w = absurd (grind arith)
    by report.Vote q w = absurd (grind arith)
    by (report.Accepted b) q w = (x, refl, q ∙ ap report.Accepted (grind arith), grind arith)

module _ (n f : ℕ) (size : n ≡ 2 * f + 1) (some_fail : 0 < f) (few : n ≤ 7) (g : Log) (owner : ℕ) (owned : number_of g ≡ owner)
    (reports : List (Option Reported)) (seated : Seated n None reports) where
  -- who reported has a seat
  inside : (c : ℕ) (x : Reported) → Reports reports c x → c < n
  inside c x w = elim (cases_lt c n) [ inl l ↦ l | inr past ↦ absurd (let z = seated.group c past in grind arith) ]

  same_votes : votes_in n f number_of holder_of g (reports_of reports) ≡ votes_for owner reports
  same_votes =
      let voted : count (both (λ c. heard (reports_of reports c)) (λ c. vote_of (reports_of reports c))) n ≡ counted_in is_vote_report reports =
      count_alike (both (λ c. heard (reports_of reports c)) (λ c. vote_of (reports_of reports c))) (λ c. is_vote_report (get_or reports c None)) n
      (λ c. vote_heard (get_or reports c None))
      ∙ count_seated is_vote_report None n reports few refl seated in
      let own : heard (reports_of reports (number_of g)) ≡ is_reported (get_or reports owner None) =
      heard_reported (get_or reports (number_of g) None) ∙ ap (λ k. is_reported (get_or reports k None)) owned in
      rw (voted, own)

  none_held : NoneAccepted reports → NoneHeld n f number_of holder_of (reports_of reports)
  none_held silent c a v l w = let x = held_accepted (get_or reports c None) a v w in silent c a x.0 (x.1, x.2)

  picks : (v : Value × ℕ) → Chosen reports n owner v → Picks n f number_of holder_of g (reports_of reports) (content_of v.0 v.1)
  picks v (as_accepted c b x w top) =
      picks_held c b (content_of x.value x.dependency) (inside c x w.0)
      (ap report_of w.0 ∙ ap (λ p. report_by p (content_of x.value x.dependency)) w.1)
      (λ k a u l q. let y = held_accepted (get_or reports k None) a u q in top k a y.0 (y.1, y.2))
  picks v (as_voted c x silent many w q) =
      picks_voted c (content_of x.value x.dependency) (none_held silent) (rw same_votes (omega arith))
      (ap report_of w ∙ ap (λ p. report_by p (content_of x.value x.dependency)) q)
  picks v (as_noop silent few_votes) = picks_none (none_held silent) (rw same_votes (omega arith))

  pub chosen_picks : Picks n f number_of holder_of g (reports_of reports) (content_of (choice n owner reports).0 (choice n owner reports).1)
  chosen_picks = picks (choice n owner reports) (reports_choose n owner reports (omega arith))

not_committed : (st : State) → not (is_committed st) ≡ true → st ≡ Committed → ⊥
not_committed Empty u c = grind arith
not_committed Answered u c = grind arith
not_committed Accepted u c = grind arith
not_committed Committed u c = grind arith

named_back : (g : Log) (log k : ℕ) → number_of g ≡ log → k ≡ log → log_named k ≡ g
named_back g log k named same = ap log_named (same ∙ sym named) ∙ by g
  where
    by : (g : Log) → log_named (number_of g) ≡ g
    by pilot = refl
    by copilot = refl

module _ (n f s : ℕ) (size : n ≡ 2 * f + 1) (some_fail : 0 < f) (few : n ≤ 7) (seat_s : s < n) (r : Replica) (stands : Standing n s r)
    (S : List column.Message) (g : Log) (log i : ℕ) (named : number_of g ≡ log) (low : 1 ≤ i) (high : i ≤ 128) (u : Takeover)
    (mine : r.takeover ≡ Some u) (stands_u : StandingTakeover n u) (ballot : ℕ) (live : is_live u log i ballot (entry_at r log i) ≡ true) where
  abbrev e : Entry
  e = entry_at r log i

  -- what being live says
  record Live : Type 0 where
    log_is : u.log ≡ log
    place_is : u.entry ≡ i
    ballot_is : u.ballot ≡ ballot
    promised_is : e.promised ≡ ballot
    uncommitted : not (is_committed e.state) ≡ true

  lives : Live
  lives =
      let a = and_parts (eqb u.log log) (eqb u.entry i && (eqb u.ballot ballot && (eqb e.promised ballot && not (is_committed e.state)))) live in
      let b = and_parts (eqb u.entry i) (eqb u.ballot ballot && (eqb e.promised ballot && not (is_committed e.state))) a.1 in
      let c = and_parts (eqb u.ballot ballot) (eqb e.promised ballot && not (is_committed e.state)) b.1 in
      let d = and_parts (eqb e.promised ballot) (not (is_committed e.state)) c.1 in
      record {
        log_is = eqb-true u.log log a.0;
        place_is = eqb-true u.entry i b.0;
        ballot_is = eqb-true u.ballot ballot c.0;
        promised_is = eqb-true e.promised ballot d.0;
        uncommitted = d.1;
      }

  abbrev pub took : Takeover × Entry × Option Progress → Replica × Option Message
  took x = (with_takeover (with_entry r log i x.1) (Some x.0), announced r.seat log i x.1 x.2)

  here : takeover_in r.takeover ≡ some (takeover_of u)
  here = ap takeover_in mine

  log_named_lem : log_named u.log ≡ g
  log_named_lem = named_back g log u.log named lives.log_is

  open_yet : stage_of e.state ≡ committed → ⊥
  open_yet c = not_committed e.state lives.uncommitted (committed_only e.state c)

  idle_turn : Does n f s r stands S g log i named low high (took (u, e, None))
  idle_turn =
      writes_both n f s r stands S g log i named low high e u None none refl
      (subst (λ w. Turned n f s r stands S g log i named low high (cell_of e) (cell_of e) w none) here ([], once rests))

  -- an AcceptOk to the takeover's choice
  pub hears_backing : (from : ℕ) → from < n → In (message from g i (accept_ok ballot)) S
      → Does n f s r stands S g log i named low high (took (acknowledging n u e from))
  hears_backing from seat j =
      let xs : List Bool = u.accepts in
      let w : Takeover = takeover_from u.log u.entry u.ballot u.reports u.chosen (set xs from true) in
      let sent : In (message from g i (accept_ok u.ballot)) S = subst (λ b. In (message from g i (accept_ok b)) S) (sym lives.ballot_is) j in
      let act : Act n f number_of holder_of g i s S (cell_at r (other g)) (cell_of e) (takeover_in r.takeover) (cell_of e) (some (takeover_of w)) none [] =
      counts_backing (takeover_of u) from (seats_of (set xs from true)) here log_named_lem lives.place_is sent
      (puts_one (λ b. b) false true xs from (omega (arith, stands_u.accepts.seven))) in
      let seats : count (seats_of (set xs from true)) n ≡ counted_in (λ b. b) (set xs from true) =
      count_seated (λ b. b) false n (set xs from true) few refl (seated_more n from false true xs seat stands_u.accepts) in
      let by_count : u.chosen ≡ true → (b : Bool) → leb (majority_of n) (counted_in (λ b. b) (set xs from true)) ≡ b
      → Does n f s r stands S g log i named low high (took (cond b (w, committing e e.value e.dependency, Some Commits) (w, e, None))) =
      λ q b. elim b as (λ b. leb (majority_of n) (counted_in (λ b. b) (set xs from true)) ≡ b
      → Does n f s r stands S g log i named low high (took (cond b (w, committing e e.value e.dependency, Some Commits) (w, e, None)))) [
        | true ↦ λ z.
            let many : majority_of n ≤ counted_in (λ b. b) (set xs from true) = grind (arith, nat_tests) in
            writes_both n f s r stands S g log i named low high (committing e e.value e.dependency) w
            (announced r.seat log i (committing e e.value e.dependency) (Some Commits))
            (some (committed_as (content_of e.value e.dependency))) refl (
              _,
              counted (cell_of e) (some (takeover_of w)) act
                  (commits_choice (takeover_of w) refl log_named_lem lives.place_is q open_yet (lives.promised_is ∙ sym lives.ballot_is) (omega arith)),
            )
        | false ↦ λ z. writes_both n f s r stands S g log i named low high e w None none refl ([], once act)
      ] in
      let by_chosen : (b : Bool) → u.chosen ≡ b → Does n f s r stands S g log i named low high (took (cond b (agreed n w e) (u, e, None))) =
      λ b. elim b as (λ b. u.chosen ≡ b → Does n f s r stands S g log i named low high (took (cond b (agreed n w e) (u, e, None)))) [
        | true ↦ λ q. by_count q (leb (majority_of n) (counted_in (λ b. b) (set xs from true))) refl
        | false ↦ λ q. idle_turn
      ] in
      by_chosen u.chosen refl

  -- a report to the takeover
  pub hears_report : (from : ℕ) (x : Reported) → from < n
      → In (message from g i (prepare_ok ballot (report_of (Some x)))) S
      → Does n f s r stands S g log i named low high (took (reporting n s u e from x))
  hears_report from x seat j =
      let xs : List (Option Reported) = u.reports in
      let ys : List (Option Reported) = set xs from (Some x) in
      let test : Bool = u.chosen || (not (leb from 6) || is_reported (get_or xs from None)) in
      elim (cases_Bool test) [
        | inl q ↦ rw q idle_turn
        | inr q ↦
            let unchosen : u.chosen ≡ false = grind (arith, nat_tests) in
            let v : Takeover = takeover_from u.log u.entry u.ballot ys u.chosen u.accepts in
            let sent : In (message from g i (prepare_ok u.ballot (report_of (Some x)))) S =
            subst (λ b. In (message from g i (prepare_ok b (report_of (Some x)))) S) (sym lives.ballot_is) j in
            let act : Act n f number_of holder_of g i s S (cell_at r (other g)) (cell_of e) (takeover_in r.takeover) (cell_of e) (some (takeover_of v)) none [] =
            counts_report (takeover_of u) from (report_of (Some x)) (reports_of ys) here log_named_lem lives.place_is unchosen sent
            (puts_one report_of None (Some x) xs from (omega (arith, stands_u.reports.seven))) in
            let seated : Seated n None ys = seated_more n from None (Some x) xs seat stands_u.reports in
            let owner : number_of g ≡ u.log = named ∙ sym lives.log_is in
            let seats : count (λ c. heard (reports_of ys c)) n ≡ counted_in is_reported ys =
            count_alike (λ c. heard (reports_of ys c)) (λ c. is_reported (get_or ys c None)) n (λ c. heard_reported (get_or ys c None))
            ∙ count_seated is_reported None n ys few refl seated in
            elim (cases_Bool (leb (majority_of n) (counted_in is_reported ys))) [
              | inl z ↦ rw (q, z) (
                  let many : majority_of n ≤ counted_in is_reported ys = grind (arith, nat_tests) in
                  let c : Value × ℕ = choice n u.log ys in
                  let w : Takeover = takeover_from u.log u.entry u.ballot ys true (set u.accepts s true) in
                  writes_both n f s r stands S g log i named low high (accepting e u.ballot c.0 c.1) w
                  (announced r.seat log i (accepting e u.ballot c.0 c.1) (Some Accepts))
                  (some (accept_at u.ballot (content_of c.0 c.1))) refl (
                    _,
                    counted (cell_of e) (some (takeover_of v)) act
                        (chooses (takeover_of v) (content_of c.0 c.1) (seats_of (set u.accepts s true)) refl log_named_lem lives.place_is unchosen
                        open_yet (lives.promised_is ∙ sym lives.ballot_is) (omega arith)
                        (chosen_picks n f size some_fail few g u.log owner ys seated)
                        (puts_one (λ b. b) false true u.accepts s (omega (arith, stands_u.accepts.seven)))),
                  ))
              | inr z ↦ rw (q, z) (writes_both n f s r stands S g log i named low high e v None none refl ([], once act))
            ]
      ]
