-- Commits, accepts, and the owner's offer at the first ballot.
use Rattle.std.proofs.Common.{◌≡◌, ℕ, ◌*◌, ◌<◌, ◌≤◌, true, List, [], ◌∷◌, sym, refl, inl, inr, arith}
use mathlib.Core.Option.{Option, some, none}
use Rattle.agreement.specs.Quorums.{Seats, count}
use Rattle.agreement.specs.Lists.{In}
use Rattle.agreement.specs.Logs.{Log, Content}
use Rattle.agreement.specs.Histories.{Event.accept, Event.fast_commit, Note, Note.note, decided_in, Allowed.next}
use Rattle.column.specs.Cells.{Stage.answered, Stage.accepted, Stage.committed, Answer, Answer.silent, Answer.agrees, Answer.differs, Cell, admitting, accepting, committing, agreed, Takeover, Body.accept_at, Body.accept_ok, Body.committed_as, Body.reject, Message, Message.message, Puts}
use Rattle.column.proofs.Invariant.{Fits}
use Rattle.column.proofs.Acts.{Here, Keeps, leads_on, quiet}

module _ (n f : ℕ) (owner : Log → ℕ) (holder : ℕ → ℕ) {h : List Note} {g : Log} {i s : ℕ} {sent : List Message} {far : ℕ → Cell} {e : Cell}
    {t : Option Takeover} (at : Here n f owner holder h g i s sent far e t) where
  -- The committed cell is sound where its value is decided.
  fits_final : (v : Content) → decided_in n f owner h g i v → Fits n f owner holder g i s (committing v e) h
  fits_final v d = let fit = at.fit in grind arith

  fits_fast : decided_in n f owner (note g i fast_commit ∷ h) g i e.value → Fits n f owner holder g i s (committing e.value e) (note g i fast_commit ∷ h)
  fits_fast d = let fit = at.fit in grind arith

  same_final : (v : Content) → decided_in n f owner h g i v → Keeps n f owner holder h g i s (committing v e) t none []
  same_final v d = quiet n f owner holder at (committing v e) (fits_final v d) none tt

  pub said_final : (v : Content) → decided_in n f owner h g i v →
      Keeps n f owner holder h g i s (committing v e) t (some (committed_as v)) []
  said_final v d = quiet n f owner holder at (committing v e) (fits_final v d) (some (committed_as v)) d

  pub commits_fast_keeps : s ≡ owner g → e.stage ≡ answered → e.promised ≡ 0 → 2 * f ≤ count (λ c. agreed (e.answers c)) n →
      Keeps n f owner holder h g i s (committing e.value e) t (some (committed_as e.value)) (fast_commit ∷ [])
  commits_fast_keeps mine st unpromised enough =
      let d : decided_in n f owner (note g i fast_commit ∷ h) g i e.value = inr (inl refl, inr (at.fit.standing st).0) in
      record {
        run = next at.run (record {
          voters = λ c. agreed (e.answers c);
          enough = enough;
          voted = λ c l p. at.fit.ayes c (agreed_is (e.answers c) p);
          no_first = λ w j. let m = at.fit.late mine w j in grind arith;
          no_report = λ b o y j. let m = at.fit.reported b o y (rw mine j) in omega arith;
        });
        about = (sym mine, tt);
        fits = fits_fast d;
        leads = leads_on n f owner holder h g i s (fast_commit ∷ []) (grind arith) t at.leads;
        says = d;
      }
    where
      agreed_is : (a : Answer) → agreed a ≡ true → a ≡ agrees
      agreed_is silent p = absurd (grind arith)
      agreed_is agrees p = refl
      agreed_is (differs x) p = absurd (grind arith)

  pub accepts_keeps : (p b : ℕ) (v : Content) → In (message p g i (accept_at b v)) sent → (e.stage ≡ committed → ⊥) → e.promised ≤ b →
      Keeps n f owner holder h g i s (accepting b v e) t (some (accept_ok b)) (accept s b ∷ [])
  accepts_keeps p b v m open_yet l =
      let asked = at.said p (accept_at b v) m in
      record {
        run = next at.run (record { promised = λ k o y j. let m = at.fit.reported k o y j in omega arith });
        about = (refl, tt);
        fits = let fit = at.fit in grind arith;
        leads = leads_on n f owner holder h g i s (accept s b ∷ []) (grind arith) t at.leads;
        says = inl refl;
      }

  pub counts_accept_keeps : (c : ℕ) (B : Seats) → In (message c g i (accept_ok 0)) sent → Puts e.accepts c true B →
      Keeps n f owner holder h g i s (admitting B e) t none []
  counts_accept_keeps c B m puts = let heard = at.said c (accept_ok 0) m in quiet n f owner holder at (admitting B e) (let fit = at.fit in grind arith) none tt

  pub commits_first_keeps : e.stage ≡ accepted → e.promised ≡ 0 → f < count e.accepts n →
      Keeps n f owner holder h g i s (committing e.value e) t (some (committed_as e.value)) []
  commits_first_keeps st unpromised enough =
      let m = at.fit.latest st in
      let z : e.ballot ≡ 0 = let l = at.fit.admitted e.ballot m.0 in omega arith in
      said_final e.value (inl (record {
        ballot = 0;
        offered = rw z at m.1;
        holders = e.accepts;
        enough = enough;
        accepted = λ c l p. at.fit.backers c p;
      }))

  pub learns_keeps : (p : ℕ) (v : Content) → In (message p g i (committed_as v)) sent →
      Keeps n f owner holder h g i s (committing v e) t none []
  learns_keeps p v m = same_final v (at.said p (committed_as v) m)

  pub tells_commit_keeps : e.stage ≡ committed → Keeps n f owner holder h g i s e t (some (committed_as e.value)) []
  tells_commit_keeps p = quiet n f owner holder at e at.fit (some (committed_as e.value)) (at.fit.final p)

  pub tells_promise_keeps : Keeps n f owner holder h g i s e t (some (reject e.promised)) []
  tells_promise_keeps = quiet n f owner holder at e at.fit (some (reject e.promised)) tt

  pub rests_keeps : Keeps n f owner holder h g i s e t none []
  rests_keeps = quiet n f owner holder at e at.fit none tt

  pub forgets_keeps : Keeps n f owner holder h g i s e none none []
  forgets_keeps = record { run = at.run; about = tt; fits = at.fit; leads = tt; says = tt }
