-- Counting an answer, an AcceptOk or a report is a turn, and so is what the count leads to.
use Rattle.std.proofs.Common.{◌≡◌, ℕ, ◌+◌, ◌*◌, ◌<◌, ◌≤◌, Bool, true, false, not, ◌&&◌, eqb, leb, ◌⊎◌, List, [], length, get_or, set, Some, None, Option, sym, refl, ap, ◌∙◌, subst, inl, inr, arith}
use mathlib.Core.Option.{some, none}
use mathlib.Core.Option as maybe
use Rattle.std.proofs.lemmas.List.{get_or-set_same, get_or-set_other}
use Rattle.std.proofs.lemmas.Bool.{cases_Bool, cases_eq, and_parts, eqb-true}
use Rattle.std.proofs.lemmas.Bool.Decides.{nat_tests}
use Rattle.agreement.specs.Logs.{Log, other}
use Rattle.agreement.specs.Lists.{In}
use Rattle.block.specs.Ballots.{holder_of}
use Rattle.agreement.specs.Quorums.{count}
use Rattle.block.specs.declared.message.Message.{Message}
use Rattle.column.specs.Cells.{Cell, agreed, within, Body, Body.accept_at, Body.accept_ok, Body.committed_as, Message.message}
use Rattle.column.specs.Cells as column
use Rattle.column.specs.Moves.{Act, Act.commits_fast, Act.settles, Act.counts_accept, Act.commits_first, Act.rests, Turn.once, Turn.counted}
use Rattle.std.specs.List.{count_by as counted_in}
use Rattle.entry.specs.declared.answers.Answer.{Answer}
use Rattle.entry.specs.declared.answers.Answer.TheVariants.{Vote, Reply}
use Rattle.entry.specs.declared.entry.Entry.{Entry}
use Rattle.entry.specs.declared.entry.Progress.{Progress}
use Rattle.entry.specs.declared.entry.Progress.TheVariants.{Accepts, Commits}
use Rattle.entry.specs.declared.entry.State.{State}
use Rattle.entry.specs.declared.entry.State.TheVariants.{Empty, Answered, Accepted, Committed}
use Rattle.entry.specs.Quorums.{majority_of, fast_quorum_of}
use Rattle.entry.specs.Answers.{is_vote, is_answer, is_within, settled}
use Rattle.entry.specs.Entries.{committing}
use Rattle.entry.specs.Owners.{with_answers, with_accepts, is_open, counts_answers, can_settle, settling, has_fast_quorum, has_two_replies, decided, hearing, is_accepted, acknowledging}
use Rattle.card.specs.declared.replica.Replica.{Replica}
use Rattle.card.specs.Tables.{entry_at, with_entry}
use Rattle.card.specs.Messages.{announced}
use Rattle.group.specs.Views.{number_of, stage_of, content_of, answer_of, answers_of, seats_of, cell_of, cell_at, takeover_in}
use Rattle.group.specs.Standing.{Standing, StandingEntry}
use Rattle.group.proofs.Counting.{count_seated, counted_alike, count_alike, seated_more, puts_one}
use Rattle.group.proofs.Settling.{answers_settle}
use Rattle.group.proofs.Turning.{Does, writes}

pub open_only : (st : State) → is_open st ≡ true → st ≡ Answered
open_only Empty o = absurd (grind arith)
open_only Answered o = refl
open_only Accepted o = absurd (grind arith)
open_only Committed o = absurd (grind arith)

accepted_only : (st : State) → is_accepted st ≡ true → st ≡ Accepted
accepted_only Empty o = absurd (grind arith)
accepted_only Answered o = absurd (grind arith)
accepted_only Accepted o = refl
accepted_only Committed o = absurd (grind arith)

agreed_vote : (a : Option Answer) → agreed (answer_of a) ≡ is_vote a
agreed_vote None = refl
agreed_vote (Some (Vote d)) = refl
agreed_vote (Some (Reply d)) = refl

-- an answer is within a dependency in the one sense and in the other, where a vote has the proposed dependency p
within_same : (p d : ℕ) (a : Option Answer) → ((x : ℕ) → a ≡ Some (Vote x) → x ≡ p) → within p d (answer_of a) ≡ is_within d a
within_same p d None own = refl
within_same p d (Some (Vote x)) own = rw (own x refl)
within_same p d (Some (Reply x)) own = refl

-- one answer more keeps an entry standing
pub noted_stands_at : (n : ℕ) → n ≤ 7 → (e : Entry) (from : ℕ) (a : Option Answer) → from < n → StandingEntry n e → e.state ≡ Answered
    → ((d : ℕ) → (a ≡ Some (Vote d)) ⊎ (a ≡ Some (Reply d)) → d ≤ 128)
    → ((d : ℕ) → a ≡ Some (Vote d) → d ≡ e.dependency)
    → StandingEntry n (with_answers e (set e.tally.answers from a))
noted_stands_at n few e from a seat stands_e st fits own =
    let xs : List (Option Answer) = e.tally.answers in
    let inside : from < length xs = omega (arith, stands_e.answers.seven) in
    record {
      answers = seated_more n from None a xs seat stands_e.answers;
      accepts = stands_e.accepts;
      low = λ d w. elim (cases_eq w.0 from) [
        | inl same ↦ fits d (subst (λ v. (v ≡ Some (Vote d)) ⊎ (v ≡ Some (Reply d))) (ap (λ k. get_or (set xs from a) k None) same ∙ get_or-set_same xs from a None inside) w.1)
        | inr ne ↦ stands_e.low d (w.0, subst (λ v. (v ≡ Some (Vote d)) ⊎ (v ≡ Some (Reply d))) (get_or-set_other xs from w.0 a None ne) w.1)
      ];
      dependency = stands_e.dependency;
      untallied = λ q. absurd (let z = st in grind arith);
      bare = stands_e.bare;
      votes = λ c d o q. elim (cases_eq c from) [
        | inl same ↦ own d (sym (ap (λ k. get_or (set xs from a) k None) same ∙ get_or-set_same xs from a None inside) ∙ q)
        | inr ne ↦ stands_e.votes c d o (sym (get_or-set_other xs from c a None ne) ∙ q)
      ];
    }

module _ (n f s : ℕ) (size : n ≡ 2 * f + 1) (few : n ≤ 7) (r : Replica) (stands : Standing n s r) (S : List column.Message) (g : Log) (log i : ℕ)
    (named : number_of g ≡ log) (low : 1 ≤ i) (high : i ≤ 128) (mine : s ≡ log) where
  abbrev e : Entry
  e = entry_at r log i

  abbrev t : maybe.Option column.Takeover
  t = takeover_in r.takeover

  -- an entry that was counted on, and what all are told of it
  abbrev pub told : Entry × Option Progress → Replica × Option Message
  told x = (with_entry r log i x.0, announced r.seat log i x.0 x.1)

  -- the answers in the entry x were counted just now
  module _ (x : Entry) (stands_x : StandingEntry n x) (st : x.state ≡ Answered) (pr : x.promised ≡ 0)
      (act : Act n f number_of holder_of g i s S (cell_at r (other g)) (cell_of e) t (cell_of x) t none []) where
    waits : Does n f s r stands S g log i named low high (told (x, None))
    waits = writes n f s r stands S g log i named low high x None none refl ([], once act)

    owned : s ≡ number_of g
    owned = mine ∙ sym named

    commits_at_once : has_fast_quorum n x ≡ true → Does n f s r stands S g log i named low high (told (committing x x.value x.dependency, Some Commits))
    commits_at_once enough =
        let votes : count (λ c. agreed (answers_of x.tally.answers c)) n ≡ counted_in is_vote x.tally.answers =
        count_seated (λ a. agreed (answer_of a)) None n x.tally.answers few refl stands_x.answers
        ∙ counted_alike (λ a. agreed (answer_of a)) is_vote x.tally.answers agreed_vote in
        let quorum : fast_quorum_of n ≤ counted_in is_vote x.tally.answers = grind (arith, nat_tests) in
        let many : 2 * f ≤ count (λ c. agreed (answers_of x.tally.answers c)) n = omega arith in
        writes n f s r stands S g log i named low high (committing x x.value x.dependency)
        (announced r.seat log i (committing x x.value x.dependency) (Some Commits))
        (some (committed_as (content_of x.value x.dependency))) refl
        (_, counted (cell_of x) t act (commits_fast owned (ap stage_of st) pr many))

    pub settles_now : s < n → can_settle n x ≡ true → Does n f s r stands S g log i named low high (told (settling n s x, Some Accepts))
    settles_now seated_s enough =
        let ys : List (Option Answer) = x.tally.answers in
        let d : ℕ = settled ys n in
        let heard : majority_of n ≤ counted_in is_answer ys = grind (arith, nat_tests) in
        let support = (answers_settle n ys stands_x.low heard).supported in
        let same : count (λ c. within x.dependency d (answers_of ys c)) n ≡ count (λ c. is_within d (get_or ys c None)) n =
        count_alike (λ c. within x.dependency d (answers_of ys c)) (λ c. is_within d (get_or ys c None)) n
        (λ c. within_same x.dependency d (get_or ys c None) (λ v q. stands_x.votes c v (rw st) q)) in
        let seats : count (λ c. is_within d (get_or ys c None)) n ≡ counted_in (is_within d) ys =
        count_seated (is_within d) None n ys few refl stands_x.answers in
        let many : f < count (λ c. within x.dependency d (answers_of ys c)) n = omega arith in
        writes n f s r stands S g log i named low high (settling n s x) (announced r.seat log i (settling n s x) (Some Accepts))
        (some (accept_at 0 (content_of x.value d))) refl (
          _,
          counted (cell_of x) t act (settles d (seats_of (set x.tally.accepts s true)) owned (ap stage_of st) pr many
              (puts_one (λ b. b) false true x.tally.accepts s (omega (arith, stands_x.accepts.seven)))),
        )

    pub decides : s < n → Does n f s r stands S g log i named low high (told (decided n s x))
    unfolding decided
    decides seated_s =
        elim (cases_Bool (has_fast_quorum n x)) [
          | inl q ↦ rw q (commits_at_once q)
          | inr q ↦ elim (cases_Bool (has_two_replies x && can_settle n x)) [
            | inl w ↦ rw (q, w) (settles_now seated_s (and_parts (has_two_replies x) (can_settle n x) w).1)
            | inr w ↦ rw (q, w) waits
          ]
        ]

  -- an answer to the owner's proposal
  pub hears_answer : (from : ℕ) (a : Answer) → s < n → from < n → StandingEntry n e
      → ((d : ℕ) → (Some a ≡ Some (Vote d)) ⊎ (Some a ≡ Some (Reply d)) → d ≤ 128)
      → ((d : ℕ) → Some a ≡ Some (Vote d) → d ≡ e.dependency)
      → Act n f number_of holder_of g i s S (cell_at r (other g)) (cell_of e) t (cell_of (with_answers e (set e.tally.answers from (Some a)))) t none []
      → Does n f s r stands S g log i named low high (told (hearing n s e from (Some a)))
  hears_answer from a seat_s seat stands_e fits own act =
      let test : Bool = counts_answers e && (leb from 6 && not (is_answer (get_or e.tally.answers from None))) in
      elim (cases_Bool test) [
        | inl q ↦
            let counts = (and_parts (counts_answers e) (leb from 6 && not (is_answer (get_or e.tally.answers from None))) q).0 in
            let st = open_only e.state (and_parts (is_open e.state) (eqb e.promised 0) counts).0 in
            let pr : e.promised ≡ 0 = eqb-true e.promised 0 (and_parts (is_open e.state) (eqb e.promised 0) counts).1 in
            rw q (decides (with_answers e (set e.tally.answers from (Some a))) (noted_stands_at n few e from (Some a) seat stands_e st fits own) st pr act seat_s)
        | inr q ↦ rw q (writes n f s r stands S g log i named low high e None none refl ([], once rests))
      ]

  -- an AcceptOk to what the owner settled on
  pub hears_accept : (from : ℕ) → from < n → StandingEntry n e
      → In (message from g i (accept_ok 0)) S
      → Does n f s r stands S g log i named low high (told (acknowledging n e from))
  hears_accept from seat stands_e j =
      let xs : List Bool = e.tally.accepts in
      let x : Entry = with_accepts e (set xs from true) in
      let act : Act n f number_of holder_of g i s S (cell_at r (other g)) (cell_of e) t (cell_of x) t none [] =
      counts_accept from (seats_of (set xs from true)) j (puts_one (λ b. b) false true xs from (omega (arith, stands_e.accepts.seven))) in
      let seats : count (seats_of (set xs from true)) n ≡ counted_in (λ b. b) (set xs from true) =
      count_seated (λ b. b) false n (set xs from true) few refl (seated_more n from false true xs seat stands_e.accepts) in
      elim (cases_Bool (is_accepted e.state && eqb e.promised 0)) [
        | inl q ↦
            let st = accepted_only e.state (and_parts (is_accepted e.state) (eqb e.promised 0) q).0 in
            let pr : e.promised ≡ 0 = eqb-true e.promised 0 (and_parts (is_accepted e.state) (eqb e.promised 0) q).1 in
            elim (cases_Bool (leb (majority_of n) (counted_in (λ b. b) (set xs from true)))) [
              | inl w ↦ rw (q, w) (
                  let many : majority_of n ≤ counted_in (λ b. b) (set xs from true) = grind (arith, nat_tests) in
                  writes n f s r stands S g log i named low high (committing x x.value x.dependency)
                  (announced r.seat log i (committing x x.value x.dependency) (Some Commits))
                  (some (committed_as (content_of x.value x.dependency))) refl
                  (_, counted (cell_of x) t act (commits_first (ap stage_of st) pr (omega arith))))
              | inr w ↦ rw (q, w) (writes n f s r stands S g log i named low high x None none refl ([], once act))
            ]
        | inr q ↦ rw q (writes n f s r stands S g log i named low high e None none refl ([], once rests))
      ]
