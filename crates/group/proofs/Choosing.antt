-- What the reports to a takeover let it choose.
use Rattle.std.proofs.Common.{◌≡◌, ℕ, zero, suc, ◌-◌, ◌<◌, ◌≤◌, true, cond, leb, ◌⊎◌, List, [], ◌∷◌, get_or, is_some, Some, None, Option, refl, inl, inr, arith}
use Rattle.std.proofs.lemmas.Bool.{cases_Bool}
use Rattle.std.proofs.lemmas.Bool.Decides.{nat_tests}
use Rattle.block.specs.declared.message.Report.{Report}
use Rattle.block.specs.declared.message.Report.TheVariants.{Empty, Vote, Accepted}
use Rattle.block.specs.declared.message.Value.TheVariants.{Noop}
use Rattle.block.specs.Messages.{accept_of}
use Rattle.std.specs.List.{count_by, fold, position_from}
use Rattle.entry.specs.declared.reports.Reported.{Reported}
use Rattle.entry.specs.Quorums.{majority_of}
use Rattle.entry.specs.Reports.{is_reported, is_vote_report, over, better_by, better, best_accepted, votes_for, may_be_committed, report_at, first_vote, carried_by, choice}
use Rattle.group.specs.Choices.{Reports, Accepts, NoneAccepted, Chosen, Chosen.as_accepted, Chosen.as_voted, Chosen.as_noop, ReportsChoose}
use Rattle.group.proofs.Scanning.{first_passes, some_found}

-- r was accepted, stands among the reports or was at hand, and no accept ballot exceeds its own
record Best (best : Option Reported) (rs : List (Option Reported)) (r : Reported) : Type 0 where
  accepted : r.report ≡ Accepted (accept_of r.report)
  from : (best ≡ Some r) ⊎ ((seat : ℕ) × Reports rs seat r)
  highest : (seat b : ℕ) (x : Reported) → Accepts rs seat x b → b ≤ accept_of r.report
  start : (x : Reported) → best ≡ Some x → accept_of x.report ≤ accept_of r.report

-- nothing was at hand, and nothing was accepted
record NothingFound (best : Option Reported) (rs : List (Option Reported)) : Type 0 where
  start : best ≡ None
  silent : NoneAccepted rs

-- what the fold finds
abbrev Outcome : Option Reported → List (Option Reported) → Option Reported → Type 0
Outcome best rs None = NothingFound best rs
Outcome best rs (Some r) = Best best rs r

-- what is at hand was accepted
abbrev AtHand : Option Reported → Type 0
AtHand None = Unit {0}
AtHand (Some r) = r.report ≡ Accepted (accept_of r.report)

-- one report more in front, which was not accepted higher than what is at hand
same_on : (best x : Option Reported) (rs : List (Option Reported)) (o : Option Reported)
    → ((b : ℕ) (y : Reported) → x ≡ Some y → y.report ≡ Accepted b → (z : Reported) × (best ≡ Some z) × (b ≤ accept_of z.report))
    → Outcome best rs o
    → Outcome best (x ∷ rs) o
same_on best x rs None low i =
    record {
      start = i.start;
      silent = λ k b y e. elim k as (λ j. get_or (x ∷ rs) j None ≡ Some y → ⊥) [
        | zero ↦ λ q. let z = low b y q e.1 in let s = i.start in grind arith
        | suc j ↦ λ q. i.silent j b y (q, e.1)
      ] e.0;
    }
same_on best x rs (Some r) low i =
    record {
      accepted = i.accepted;
      from = elim i.from [ inl e ↦ inl e | inr t ↦ inr (suc t.0, t.1) ];
      highest = λ k b y e. elim k as (λ j. get_or (x ∷ rs) j None ≡ Some y → b ≤ accept_of r.report) [
        | zero ↦ λ q. let z = low b y q e.1 in let s = i.start z.0 z.1 in omega arith
        | suc j ↦ λ q. i.highest j b y (q, e.1)
      ] e.0;
      start = i.start;
    }

-- one accepted report more in front, which takes the place of what is at hand
takes_place : (best : Option Reported) (y : Reported) (b : ℕ) (rs : List (Option Reported)) (o : Option Reported)
    → y.report ≡ Accepted b
    → ((z : Reported) → best ≡ Some z → accept_of z.report ≤ b)
    → Outcome (Some y) rs o
    → Outcome best (Some y ∷ rs) o
takes_place best y b rs None a low i = absurd (let s = i.start in grind arith)
takes_place best y b rs (Some r) a low i =
    let up : b ≤ accept_of r.report = rw a at (i.start y refl) in
    record {
      accepted = i.accepted;
      from = inr (elim i.from [ inl e ↦ (0, e) | inr t ↦ (suc t.0, t.1) ]);
      highest = λ k c x e. elim k as (λ j. get_or (Some y ∷ rs) j None ≡ Some x → c ≤ accept_of r.report) [
        | zero ↦ λ q. let same : y ≡ x = cc in let p = e.1 in let cb : c ≡ b = cc in omega arith
        | suc j ↦ λ q. i.highest j c x (q, e.1)
      ] e.0;
      start = λ x e. let l = low x e in omega arith;
    }

module _ (y : Reported) (rs : List (Option Reported)) (rest : (best : Option Reported) → AtHand best → Outcome best rs (fold better best rs)) where
  accepted_more : (best : Option Reported) (b : ℕ) → y.report ≡ Accepted b → AtHand best
      → Outcome best (Some y ∷ rs) (fold better (over best y b) rs)
  accepted_more None b e s = takes_place None y b rs _ e (λ z q. absurd (grind arith)) (rest (Some y) (rw e))
  accepted_more (Some z) b e s =
      elim (cases_Bool (leb b (accept_of z.report))) [
        | inl t ↦ rw t (same_on (Some z) (Some y) rs _ (λ c x q a. (z, refl, grind (arith, nat_tests))) (rest (Some z) s))
        | inr t ↦ rw t (takes_place (Some z) y b rs _ e (λ x q. grind (arith, nat_tests)) (rest (Some y) (rw e)))
      ]

  one_more : (best : Option Reported) (p : Report) → y.report ≡ p → AtHand best
      → Outcome best (Some y ∷ rs) (fold better (better_by p best y) rs)
  one_more best Empty e s = same_on best (Some y) rs _ (λ b z q a. absurd (grind arith)) (rest best s)
  one_more best Vote e s = same_on best (Some y) rs _ (λ b z q a. absurd (grind arith)) (rest best s)
  one_more best (Accepted b) e s = accepted_more best b e s

best_outcome : (best : Option Reported) (rs : List (Option Reported)) → AtHand best → Outcome best rs (fold better best rs)
best_outcome None [] s = record { start = refl; silent = λ k b x e. grind arith }
best_outcome (Some r) [] s = record { accepted = s; from = inl refl; highest = λ k b x e. absurd (grind arith); start = λ x e. grind arith }
best_outcome best (None ∷ rs) s = same_on best None rs _ (λ b y e a. absurd (grind arith)) (best_outcome best rs s)
best_outcome best (Some y ∷ rs) s = one_more y rs (λ b t. best_outcome b rs t) best y.report refl s

vote_report : (o : Option Reported) → is_vote_report o ≡ true → (r : Reported) × (o ≡ Some r) × (r.report ≡ Vote)
vote_report None e = absurd (grind arith)
vote_report (Some r) e = (r, refl, by r.report e)
  where
    by : (p : Report) → is_vote_report (Some (record { report = p; value = r.value; dependency = r.dependency })) ≡ true → p ≡ Vote
    by Empty q = absurd (grind arith)
    by Vote q = refl
    by (Accepted b) q = absurd (grind arith)

module _ (n owner : ℕ) (reports : List (Option Reported)) (some : 2 ≤ majority_of n) where
  -- with enough votes, one of them is a report
  voted : NoneAccepted reports → may_be_committed n owner reports ≡ true → Chosen reports n owner (carried_by (first_vote reports))
  voted silent t =
      let enough : majority_of n ≤ votes_for owner reports = grind (arith, nat_tests) in
      let one : 0 < count_by is_vote_report reports = grind (arith, nat_tests) in
      found (position_from is_vote_report 0 reports) refl (some_found is_vote_report None reports 0 one) enough
    where
      found : (o : Option ℕ) → position_from is_vote_report 0 reports ≡ o → is_some (position_from is_vote_report 0 reports) ≡ true
          → majority_of n ≤ votes_for owner reports
          → Chosen reports n owner (carried_by (report_at reports o))
      found None e s enough = absurd (grind arith)
      found (Some seat) e s enough =
          let p = first_passes is_vote_report None reports 0 seat e in
          let z : seat - 0 ≡ seat = omega arith in
          let v = vote_report (get_or reports seat None) (rw z at p.1) in
          rw v.1 (as_voted seat v.0 silent enough v.1 v.2)

  chosen : (o : Option Reported) → Outcome None reports o
      → Chosen reports n owner
      (cond (is_reported o) (carried_by o) (cond (may_be_committed n owner reports) (carried_by (first_vote reports)) (Noop, 0)))
  chosen None i =
      elim (cases_Bool (may_be_committed n owner reports)) [
        | inl t ↦ rw t (voted i.silent t)
        | inr t ↦ rw t (as_noop i.silent (grind (arith, nat_tests)))
      ]
  chosen (Some r) i = elim i.from [
    | inl e ↦ absurd (grind arith)
    | inr f ↦ as_accepted f.0 (accept_of r.report) r (f.1, i.accepted) i.highest
  ]

pub reports_choose : ReportsChoose
unfolding choice
reports_choose n owner reports some = chosen n owner reports some (best_accepted reports) (best_outcome None reports tt)
