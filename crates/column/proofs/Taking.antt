-- A takeover: its reports, its choice, and its commit.
use Rattle.std.proofs.Common.{◌≡◌, ℕ, ◌<◌, true, false, List, [], ◌∷◌, sym, refl, ◌∙◌, inl, inr, arith}
use mathlib.Core.Option.{Option, some, none}
use Rattle.agreement.specs.Quorums.{Seats, count}
use Rattle.agreement.specs.Lists.{In}
use Rattle.agreement.specs.Logs.{Log, Content}
use Rattle.agreement.specs.Histories.{Past.past, Event.offer, Event.accept, Event.report, Note, Note.note, Choice, Allowed.next}
use Rattle.column.specs.Cells.{Stage.accepted, Stage.committed, Cell, accepting, committing, Report, Report.unheard, Report.bare, Report.vouched, Report.held, heard, past_of, vote_of, Takeover, hearing, backed, Body.accept_at, Body.accept_ok, Body.committed_as, Body.prepare_ok, Message, Message.message, Puts}
use Rattle.column.specs.Moves.{Picks, Picks.picks_held, Picks.picks_voted, Picks.picks_none}
use Rattle.column.proofs.Invariant.{Told}
use Rattle.column.proofs.Frame.{Sub, told_more}
use Rattle.column.proofs.Acts.{Here, Keeps}
use Rattle.column.proofs.Deciding.{said_final}

module _ (n f : ℕ) (owner : Log → ℕ) (holder : ℕ → ℕ) {h : List Note} {g : Log} {i s : ℕ} {sent : List Message} {far : ℕ → Cell} {e : Cell}
    {t : Option Takeover} (at : Here n f owner holder h g i s sent far e t) where
  -- What a counted report rests on, once the takeover is known to be of this entry.
  told_here : (u : Takeover) → t ≡ some u → u.log ≡ g → u.place ≡ i → (c : ℕ) → Told n f owner holder h g i u.ballot c (u.reports c)
  told_here u p lg pl c = rw (lg, pl) at ((at.leads u p).told c)

  -- Each report that was heard is in the history.
  told_heard : (b c : ℕ) (r : Report) → Told n f owner holder h g i b c r → heard r ≡ true →
      In (note g i (report c b (past_of r) (vote_of r))) h
  told_heard b c unheard m p = absurd (grind arith)
  told_heard b c bare m p = m
  told_heard b c (vouched v) m p = m.0
  told_heard b c (held a v) m p = m

  -- A report has an accept exactly if it is of one.
  past_held : (r : Report) (a : ℕ) (v : Content) → past_of r ≡ some (past a v) → r ≡ held a v
  past_held unheard a v p = absurd (grind arith)
  past_held bare a v p = absurd (grind arith)
  past_held (vouched w) a v p = absurd (grind arith)
  past_held (held b w) a v p = cc

  past_none : (r : Report) → ((a : ℕ) (v : Content) → r ≡ held a v → ⊥) → past_of r ≡ none
  past_none unheard not_yet = refl
  past_none bare not_yet = refl
  past_none (vouched w) not_yet = refl
  past_none (held b w) not_yet = absurd (not_yet b w refl)

  held_heard : (r : Report) (a : ℕ) (v : Content) → r ≡ held a v → (heard r ≡ true) × (past_of r ≡ some (past a v))
  held_heard r a v p = (rw p, rw p)

  module _ (b : ℕ) (R : ℕ → Report) (told : (c : ℕ) → Told n f owner holder h g i b c (R c)) (enough : f < count (λ c. heard (R c)) n) where
    -- What the takeover picks is a choice by the rules.
    choice : (v : Content) → Picks n f owner holder g R v → Choice n f owner h g i b v
    choice v (picks_held c a w l p top) = record {
      asked = λ k. heard (R k);
      enough = enough;
      pasts = λ k. past_of (R k);
      votes = λ k. vote_of (R k);
      heard = λ k l' q. told_heard b k (R k) (told k) q;
      rule = inr (c, a, l, (held_heard (R c) a v p).0, (held_heard (R c) a v p).1, λ k b' w' l' q z. top k b' w' l' (past_held (R k) b' w' z));
    }
    choice v (picks_voted c w free many p) = record {
      asked = λ k. heard (R k);
      enough = enough;
      pasts = λ k. past_of (R k);
      votes = λ k. vote_of (R k);
      heard = λ k l' q. told_heard b k (R k) (told k) q;
      rule = inl (
        λ k l q. past_none (R k) (λ a w'. free k a w' l),
        λ _. let m : Told n f owner holder h g i b c (vouched v) = rw p at (told c) in m.1,
        λ few. absurd (omega arith),
      );
    }
    choice v (picks_none free few) = record {
      asked = λ k. heard (R k);
      enough = enough;
      pasts = λ k. past_of (R k);
      votes = λ k. vote_of (R k);
      heard = λ k l' q. told_heard b k (R k) (told k) q;
      rule = inl (λ k l q. past_none (R k) (λ a w'. free k a w' l), λ many. absurd (omega arith), λ _. refl);
    }

  pub counts_report_keeps : (u : Takeover) (c : ℕ) (r : Report) (R : ℕ → Report) → t ≡ some u → u.log ≡ g → u.place ≡ i →
      u.chosen ≡ false → In (message c g i (prepare_ok u.ballot r)) sent → Puts u.reports c r R →
      Keeps n f owner holder h g i s e (some (hearing R u)) none []
  counts_report_keeps u c r R p lg pl not_yet m puts =
      let l = at.leads u p in
      record {
        run = at.run;
        about = tt;
        fits = at.fit;
        leads = record {
          past_first = l.past_first;
          holds = l.holds;
          unoffered = l.unoffered;
          offered = l.offered;
          told = told;
          backers = l.backers;
        };
        says = tt;
      }
    where
      told : (k : ℕ) → Told n f owner holder h u.log u.place u.ballot k (R k)
      told k = elim (puts k) [
        | inl q ↦ rw q ((at.leads u p).told k)
        | inr q ↦ rw (q.1, q.0, lg, pl) (at.said c (prepare_ok u.ballot r) m)
      ]

  pub counts_backing_keeps : (u : Takeover) (c : ℕ) (B : Seats) → t ≡ some u → u.log ≡ g → u.place ≡ i →
      In (message c g i (accept_ok u.ballot)) sent → Puts u.accepts c true B →
      Keeps n f owner holder h g i s e (some (backed u.chosen B u)) none []
  counts_backing_keeps u c B p lg pl m puts =
      let l = at.leads u p in
      record {
        run = at.run;
        about = tt;
        fits = at.fit;
        leads = record {
          past_first = l.past_first;
          holds = l.holds;
          unoffered = l.unoffered;
          offered = l.offered;
          told = l.told;
          backers = λ k y. elim (puts k) [
            | inl q ↦ l.backers k (sym q ∙ y)
            | inr q ↦ rw (q.0, lg, pl) (at.said c (accept_ok u.ballot) m)
          ];
        };
        says = tt;
      }

  pub commits_choice_keeps : (u : Takeover) → t ≡ some u → u.log ≡ g → u.place ≡ i → u.chosen ≡ true → (e.stage ≡ committed → ⊥) →
      e.promised ≡ u.ballot → f < count u.accepts n →
      Keeps n f owner holder h g i s (committing e.value e) t (some (committed_as e.value)) []
  commits_choice_keeps u p lg pl yes_chosen open_yet live enough =
      let l = at.leads u p in
      let own : In (note g i (accept s u.ballot)) h = rw (lg, pl) at (l.offered yes_chosen) in
      let st : e.stage ≡ accepted = elim (at.fit.shown u.ballot own) [ inl q ↦ q | inr q ↦ absurd (open_yet q) ] in
      let m = at.fit.latest st in
      let z : e.ballot ≡ u.ballot =
      let lo = at.fit.highest st u.ballot own in let hi = at.fit.admitted e.ballot m.0 in omega arith in
      said_final n f owner holder at e.value (inl (record {
        ballot = u.ballot;
        offered = rw z at m.1;
        holders = u.accepts;
        enough = enough;
        accepted = λ c k q. rw (lg, pl) at (l.backers c q);
      }))

  pub chooses_keeps : (u : Takeover) (v : Content) (B : Seats) → t ≡ some u → u.log ≡ g → u.place ≡ i → u.chosen ≡ false →
      (e.stage ≡ committed → ⊥) → e.promised ≡ u.ballot → f < count (λ c. heard (u.reports c)) n →
      Picks n f owner holder g u.reports v → Puts u.accepts s true B →
      Keeps n f owner holder h g i s (accepting u.ballot v e) (some (backed true B u)) (some (accept_at u.ballot v))
      (accept s u.ballot ∷ offer u.ballot v ∷ [])
  chooses_keeps u v B p lg pl not_yet open_yet live enough picks puts =
      let l = at.leads u p in
      let positive = l.past_first in
      let holds = l.holds in
      let k : List Note = note g i (accept s u.ballot) ∷ note g i (offer u.ballot v) ∷ h in
      let sub : Sub h k = λ x j. inr (inr j) in
      record {
        run = next
            (next at.run (record {
              fresh = λ w j. l.unoffered not_yet w (rw (lg, pl) j);
              open_yet = λ z j. absurd (omega arith);
              first = λ c x z q. absurd (omega arith);
              known = λ c x z q. absurd (omega arith);
              later = λ _. choice u.ballot u.reports (told_here u p lg pl) enough v picks;
            }))
            (record { promised = λ b o y j. let m = at.fit.reported b o y in grind arith });
        about = (refl, (inr (positive, holds), tt));
        fits = let fit = at.fit in grind arith;
        leads = record {
          past_first = positive;
          holds = holds;
          unoffered = λ q w j. absurd (grind arith);
          offered = λ q. rw (lg, pl) (inl refl);
          told = λ c. told_more n f owner holder h k sub u.log u.place u.ballot c (u.reports c) (l.told c);
          backers = λ c y. elim (puts c) [
            | inl q ↦ inr (inr (l.backers c (sym q ∙ y)))
            | inr q ↦ rw (q.0, lg, pl) (inl refl)
          ];
        };
        says = inr (inl refl);
      }
