-- The owner settles on a dependency that the answers of a majority do not exceed, and offers it at the first ballot.
use Rattle.std.proofs.Common.{◌≡◌, ℕ, ◌<◌, ◌≤◌, true, List, [], ◌∷◌, sym, refl, inl, inr, arith}
use mathlib.Core.Option.{Option, some}
use Rattle.std.proofs.lemmas.Bool.{leb-true}
use Rattle.command.specs.declared.Command.{Command}
use Rattle.agreement.specs.Quorums.{Seats, count}
use Rattle.agreement.specs.Lists.{In}
use Rattle.agreement.specs.Compatibility.{Supported}
use Rattle.agreement.specs.Logs.{Log, Content, Content.content, Value.noop, Value.command}
use Rattle.agreement.specs.Histories.{Event.propose, Event.answer, Event.offer, Event.accept, Note, Note.note, answered_in, Allowed.next}
use Rattle.agreement.proofs.Support.{voted}
use Rattle.column.specs.Cells.{Stage.answered, Answer, Answer.silent, Answer.agrees, Answer.differs, Cell, admitting, accepting, depends, depending, within, Takeover, Body.accept_at, Message, Puts}
use Rattle.column.proofs.Acts.{Here, Keeps, leads_on}

module _ (n f : ℕ) (owner : Log → ℕ) (holder : ℕ → ℕ) {h : List Note} {g : Log} {i s : ℕ} {sent : List Message} {far : ℕ → Cell} {e : Cell}
    {t : Option Takeover} (at : Here n f owner holder h g i s sent far e t) where
  -- Each answer that counts is one that was given, with a dependency of at most d.
  given_within : (p : Command) (y d c : ℕ) → In (note g i (propose (content (command p) y))) h → (a : Answer) → e.answers c ≡ a → within y d a ≡ true →
      (x : ℕ) × In (note g i (answer c x)) h × (x ≤ d)
  given_within p y d c asked silent q w = absurd (grind arith)
  given_within p y d c asked agrees q w = (y, voted n f owner g i at.run p y c asked (at.fit.ayes c q), leb-true y d w)
  given_within p y d c asked (differs x) q w = (x, at.fit.noes c x q, leb-true x d w)

  -- So a majority supports the dependency settled on, and the command was proposed.
  supported : (v : Content) → In (note g i (propose v)) h → (d : ℕ) → f < count (λ c. within (depends v) d (e.answers c)) n →
      (c : Command) (x : ℕ) → depending d v ≡ content (command c) x → Supported n f (answered_in h g) i x
  supported (content noop y) asked d enough c x p = absurd (grind arith)
  supported (content (command k) y) asked d enough c x p =
      let q : d ≡ x = cc in
      rw (← q) (record {
        seats = λ c'. within y d (e.answers c');
        enough = enough;
        answers = λ c' l w. given_within k y d c' asked (e.answers c') refl w;
      })

  known : (v : Content) → In (note g i (propose v)) h → (d : ℕ) (c : Command) (x : ℕ) → depending d v ≡ content (command c) x →
      (p : ℕ) × In (note g i (propose (content (command c) p))) h
  known (content noop y) asked d c x p = absurd (grind arith)
  known (content (command k) y) asked d c x p = let q : k ≡ c = cc in (y, rw q at asked)

  pub settles_keeps : (d : ℕ) (B : Seats) → s ≡ owner g → e.stage ≡ answered → e.promised ≡ 0 →
      f < count (λ c. within (depends e.value) d (e.answers c)) n → Puts e.accepts s true B →
      Keeps n f owner holder h g i s (admitting B (accepting 0 (depending d e.value) e)) t (some (accept_at 0 (depending d e.value)))
      (accept s 0 ∷ offer 0 (depending d e.value) ∷ [])
  settles_keeps d B mine st unpromised enough puts =
      let asked = (at.fit.standing st).0 in
      let v : Content = depending d e.value in
      record {
        run = next
            (next at.run (record {
              fresh = λ w j. let m = at.fit.late mine w j in grind arith;
              open_yet = λ z j. let m = at.fit.fast_closed mine j in grind arith;
              first = λ c x z p. supported e.value asked d enough c x p;
              known = λ c x z p. known e.value asked d c x p;
              later = λ l. absurd (omega arith);
            }))
            (record { promised = λ k o y j. let m = at.fit.reported k o y in grind arith });
        about = (refl, (inl (refl, sym mine), tt));
        fits = let fit = at.fit in grind arith;
        leads = leads_on n f owner holder h g i s (accept s 0 ∷ offer 0 v ∷ []) (grind arith) t at.leads;
        says = inr (inl refl);
      }
