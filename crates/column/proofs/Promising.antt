-- A promise with a report, to another seat's ballot or to the seat's own.
use Rattle.std.proofs.Common.{◌≡◌, ℕ, ◌<◌, Bool, true, false, cond, ◌↔◌, List, [], ◌∷◌, refl, inl, inr, arith}
use mathlib.Core.Option.{Option, some, none}
use Rattle.agreement.specs.Quorums.{Seats}
use Rattle.agreement.specs.Lists.{In}
use Rattle.agreement.specs.Logs.{Log}
use Rattle.agreement.specs.Histories.{Event, Event.propose, Event.vote, Event.report, Note, Note.note, MayReport, Latest, Allowed.next}
use Rattle.column.specs.Cells.{Stage, Stage.empty, Stage.answered, Stage.accepted, Stage.committed, Cell, promising, Report, Report.unheard, Report.bare, Report.vouched, past_of, vote_of, report_at_stage, report_of_cell, Takeover, Body.prepare, Body.prepare_ok, Message, Puts}
use Rattle.column.proofs.Invariant.{Fits, Told}
use Rattle.column.proofs.Frame.{Sub}
use Rattle.column.proofs.Acts.{Here, Keeps, leads_on, quiet}

module _ (n f : ℕ) (owner : Log → ℕ) (holder : ℕ → ℕ) {h : List Note} {g : Log} {i s : ℕ} {sent : List Message} {far : ℕ → Cell} {e : Cell}
    {t : Option Takeover} (at : Here n f owner holder h g i s sent far e t) where
  -- The note of the report.
  abbrev noted : ℕ → Event
  noted b = report s b (past_of (report_of_cell e)) (vote_of (report_of_cell e))

  -- The report has what the seat accepted last, tells whether it voted, and rests on the history.
  latest_at : (st : Stage) → e.stage ≡ st → (st ≡ committed → ⊥) → Latest n f owner h g i s (past_of (report_at_stage st e))
  latest_at empty p q = λ k j. let m = at.fit.shown k j in grind arith
  latest_at answered p q = by e.voted refl
    where
      by : (y : Bool) → e.voted ≡ y → Latest n f owner h g i s (past_of (report_at_stage answered e))
      by true z = rw z (λ k j. let m = at.fit.shown k j in grind arith)
      by false z = rw z (λ k j. let m = at.fit.shown k j in grind arith)
  latest_at accepted p q = ((at.fit.latest p).0, (at.fit.latest p).1, at.fit.highest p)
  latest_at committed p q = absurd (q refl)

  voted_at : (st : Stage) → e.stage ≡ st → (st ≡ committed → ⊥) → past_of (report_at_stage st e) ≡ none →
      (vote_of (report_at_stage st e) ≡ true) ↔ In (note g i (vote s)) h
  voted_at empty p q o = let m = at.fit.unvoted p in let k = at.fit.vote_kept in grind arith
  voted_at answered p q o = let k = at.fit.vote_kept in grind arith
  voted_at accepted p q o = grind arith
  voted_at committed p q o = absurd (q refl)

  told_at : (b : ℕ) (st : Stage) → e.stage ≡ st →
      (k : List Note) → Sub h k → In (note g i (report s b (past_of (report_at_stage st e)) (vote_of (report_at_stage st e)))) k →
      Told n f owner holder k g i b s (report_at_stage st e)
  told_at b empty p k sub j = j
  told_at b answered p k sub j = pick e.voted j
    where
      pick : (y : Bool) → In (note g i (report s b (past_of (cond y (vouched e.value) bare)) (vote_of (cond y (vouched e.value) bare)))) k →
          Told n f owner holder k g i b s (cond y (vouched e.value) bare)
      pick true j' = (j', sub (note g i (propose e.value)) (at.fit.standing p).0)
      pick false j' = j'
  told_at b accepted p k sub j = j
  told_at b committed p k sub j = j

  -- The rules allow it, and the cell with the promise sums it up.
  may_noted : (b : ℕ) → (e.stage ≡ committed → ⊥) → e.promised < b →
      MayReport n f owner h g i s b (past_of (report_of_cell e)) (vote_of (report_of_cell e))
  may_noted b open_yet l = record {
    newer = λ k j. let m = at.fit.admitted k j in omega arith;
    latest = latest_at e.stage refl open_yet;
    voted = voted_at e.stage refl open_yet;
    open_yet = λ o j. open_yet (at.fit.fast_closed o j);
  }

  fits_noted : (b : ℕ) → (e.stage ≡ committed → ⊥) → e.promised < b →
      Fits n f owner holder g i s (promising b e) (note g i (noted b) ∷ h)
  fits_noted b open_yet l = let fit = at.fit in grind arith

  told_noted : (b : ℕ) → Told n f owner holder (note g i (noted b) ∷ h) g i b s (report_of_cell e)
  told_noted b = told_at b e.stage refl (note g i (noted b) ∷ h) (λ x j. inr j) (inl refl)

  pub promises_keeps : (b : ℕ) → (e.stage ≡ committed → ⊥) → e.promised < b →
      Keeps n f owner holder h g i s (promising b e) t (some (prepare_ok b (report_of_cell e))) (noted b ∷ [])
  promises_keeps b open_yet l = record {
    run = next at.run (may_noted b open_yet l);
    about = (refl, tt);
    fits = fits_noted b open_yet l;
    leads = leads_on n f owner holder h g i s (noted b ∷ []) (grind arith) t at.leads;
    says = told_noted b;
  }

  pub raises_keeps : (b : ℕ) → (e.stage ≡ committed → ⊥) → e.promised < b → Keeps n f owner holder h g i s (promising b e) t none []
  raises_keeps b open_yet l = quiet n f owner holder at (promising b e) (let fit = at.fit in grind arith) none tt

  pub takes_over_keeps : (b : ℕ) (R : ℕ → Report) (B : Seats) → holder b ≡ s → (e.stage ≡ committed → ⊥) → e.promised < b →
      Puts (λ c. unheard) s (report_of_cell e) R → ((c : ℕ) → B c ≡ false) →
      Keeps n f owner holder h g i s (promising b e)
      (some (record { log = g; place = i; ballot = b; chosen = false; reports = R; accepts = B })) (some (prepare b)) (noted b ∷ [])
  takes_over_keeps b R B holds open_yet l puts none_yet = record {
    run = next at.run (may_noted b open_yet l);
    about = (refl, tt);
    fits = fits_noted b open_yet l;
    leads = record {
      past_first = omega arith;
      holds = holds;
      unoffered = λ p v j. let m = at.fit.led b v in grind arith;
      offered = λ p. absurd (grind arith);
      told = told;
      backers = λ c p. let q = none_yet c in absurd (grind arith);
    };
    says = tt;
  }
    where
      told : (c : ℕ) → Told n f owner holder (note g i (noted b) ∷ h) g i b c (R c)
      told c = elim (puts c) [
        | inl p ↦ rw p tt
        | inr p ↦ rw (p.1, p.0) (told_noted b)
      ]
