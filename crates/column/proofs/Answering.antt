-- A proposal, the answers to it, and the owner's count of them.
use Rattle.std.proofs.Common.{◌≡◌, ℕ, ◌<◌, ◌≤◌, true, false, List, [], ◌∷◌, sym, refl, inl, inr, arith}
use mathlib.Core.Option.{Option, some, none}
use Rattle.std.proofs.lemmas.Bool.{cases_lt}
use Rattle.command.specs.declared.Command.{Command}
use Rattle.agreement.specs.Lists.{In}
use Rattle.agreement.specs.Logs.{Log, Content.content, Value.command, other}
use Rattle.agreement.specs.Histories.{Event.propose, Event.answer, Event.vote, Note, Note.note, May, Allowed.next}
use Rattle.column.specs.Cells.{Stage.empty, Stage.answered, Answer, Answer.agrees, Answer.differs, Cell, Gave, answering, tallying, Takeover, Body.fast_accept, Body.fast_ok, Body.fast_reply, Message, Message.message, Puts}
use Rattle.column.specs.Moves.{Highest, Unblocked}
use Rattle.column.proofs.Acts.{Here, Keeps, leads_on, quiet}

module _ (n f : ℕ) (owner : Log → ℕ) (holder : ℕ → ℕ) {h : List Note} {g : Log} {i s : ℕ} {sent : List Message} {far : ℕ → Cell} {e : Cell}
    {t : Option Takeover} (at : Here n f owner holder h g i s sent far e t) where
  -- The card still has each answer that it gave on the other log.
  given_far : (k y : ℕ) → In (note (other g) k (answer s y)) h → (y ≡ (far k).given) × Gave (far k)
  given_far k y j = (at.fars k).given_kept y j

  -- And holds its entry.
  held_far : (d k y : ℕ) → Highest far d → In (note (other g) k (answer s y)) h → k ≤ d
  held_far d k y top j = top k ((at.fars k).given_held y j)

  -- An answer may be given with a dependency below nothing held, or where nothing answered stands in the way.
  may_high : (d : ℕ) → Highest far d → May n f owner h (note g i (answer s d))
  may_high d top = λ k y j. inr (held_far d k y top j)

  may_low : (d : ℕ) → Unblocked far i d → May n f owner h (note g i (answer s d))
  may_low d free = λ k y j. elim (cases_lt d k) [
    | inl above ↦ let m = given_far k y j in inl (rw m.0 (free k above m.1))
    | inr below ↦ inr (omega arith)
  ]

  pub proposes_keeps : (c : Command) (d : ℕ) (A : ℕ → Answer) → s ≡ owner g → e.stage ≡ empty → e.promised ≡ 0 → Highest far d →
      Puts e.answers s agrees A →
      Keeps n f owner holder h g i s (tallying A (answering (content (command c) d) d true e)) t (some (fast_accept c d))
      (vote s ∷ propose (content (command c) d) ∷ answer s d ∷ [])
  proposes_keeps c d A mine bare_yet unpromised top puts = record {
    run = next
        (next (next at.run (may_high d top)) (record {
          fresh = λ w j. let m = at.fit.proposed mine w in grind arith;
          own = λ c' d' p. grind arith;
        }))
        (record {
          unpromised = λ b o y j. let m = at.fit.reported b o y in grind arith;
          proposal = c;
          dependency = d;
          proposed = inl refl;
          same = inr (inl refl);
        });
    about = (refl, (sym mine, (refl, tt)));
    fits = let fit = at.fit in grind arith;
    leads = leads_on n f owner holder h g i s (vote s ∷ propose (content (command c) d) ∷ answer s d ∷ [])
        (grind arith) t at.leads;
    says = inr (inl refl);
  }

  pub votes_keeps : (p : ℕ) (c : Command) (d : ℕ) → In (message p g i (fast_accept c d)) sent → e.stage ≡ empty → e.promised ≡ 0 → Unblocked far i d →
      Keeps n f owner holder h g i s (answering (content (command c) d) d true e) t (some fast_ok) (vote s ∷ answer s d ∷ [])
  votes_keeps p c d m bare_yet unpromised free =
      let asked = at.said p (fast_accept c d) m in
      record {
        run = next (next at.run (may_low d free)) (record {
          unpromised = λ b o y j. let m = at.fit.reported b o y in grind arith;
          proposal = c;
          dependency = d;
          proposed = inr asked;
          same = inl refl;
        });
        about = (refl, (refl, tt));
        fits = let fit = at.fit in grind arith;
        leads = leads_on n f owner holder h g i s (vote s ∷ answer s d ∷ []) (grind arith) t at.leads;
        says = inl refl;
      }

  pub replies_keeps : (p : ℕ) (c : Command) (d x : ℕ) → In (message p g i (fast_accept c d)) sent → e.stage ≡ empty → e.promised ≡ 0 → 0 < x →
      Highest far x →
      Keeps n f owner holder h g i s (answering (content (command c) d) x false e) t (some (fast_reply x)) (answer s x ∷ [])
  replies_keeps p c d x m bare_yet unpromised some_x top =
      let asked = at.said p (fast_accept c d) m in
      record {
        run = next at.run (may_high x top);
        about = (refl, tt);
        fits = let fit = at.fit in grind arith;
        leads = leads_on n f owner holder h g i s (answer s x ∷ []) (grind arith) t at.leads;
        says = inl refl;
      }

  pub repeats_vote_keeps : e.stage ≡ answered → e.voted ≡ true → Keeps n f owner holder h g i s e t (some fast_ok) []
  repeats_vote_keeps p q = quiet n f owner holder at e at.fit (some fast_ok) (at.fit.vote_kept.0 q)

  pub repeats_reply_keeps : e.stage ≡ answered → e.voted ≡ false → Keeps n f owner holder h g i s e t (some (fast_reply e.given)) []
  repeats_reply_keeps p q = quiet n f owner holder at e at.fit (some (fast_reply e.given)) (at.fit.standing p).1

  pub counts_vote_keeps : (c : ℕ) (A : ℕ → Answer) → In (message c g i fast_ok) sent → Puts e.answers c agrees A →
      Keeps n f owner holder h g i s (tallying A e) t none []
  counts_vote_keeps c A m puts = let heard = at.said c fast_ok m in quiet n f owner holder at (tallying A e) (let fit = at.fit in grind arith) none tt

  pub counts_reply_keeps : (c x : ℕ) (A : ℕ → Answer) → In (message c g i (fast_reply x)) sent → Puts e.answers c (differs x) A →
      Keeps n f owner holder h g i s (tallying A e) t none []
  counts_reply_keeps c x A m puts = let heard = at.said c (fast_reply x) m in quiet n f owner holder at (tallying A e) (let fit = at.fit in grind arith) none tt
