-- In every history that the rules allow, the ballots of each entry keep their rules.
use Rattle.std.proofs.Common.{◌≡◌, ℕ, ◌+◌, ◌*◌, ◌<◌, ◌≤◌, Bool, true, ◌↔◌, List, ◌∷◌, sym, refl, subst, inl, inr, arith}
use mathlib.Core.Option.{Option, some, none}
use Rattle.agreement.specs.Lists.{In}
use Rattle.agreement.specs.Ballots.{Lawful, Chosen, FastQuorum}
use Rattle.agreement.specs.Logs.{Log, Content}
use Rattle.agreement.specs.Histories.{Past, Past.past, Event, Event.propose, Event.vote, Event.offer, Event.accept, Event.report, Event.fast_commit, Note, Note.note, ballots_in, Choice, Latest, May, Allowed, Allowed.begin, Allowed.next}

-- What a report says of an accept at ballot k: that it is not after the one that the report has, or, if it has none, that there is none.
abbrev Until : Option Past → ℕ → Type 0
Until none k = ⊥
Until (some (past a v)) k = k ≤ a

module _ (n f : ℕ) (owner : Log → ℕ) (lg : Log) (at : ℕ) where
  -- The history has the event of this entry.
  abbrev pub Has : List Note → Event → Type 0
  Has h x = In (note lg at x) h

  -- What the rules ask of a note, once it is known to be this event.
  pub known : (h : List Note) {e : Note} (x : Event) → note lg at x ≡ e → May n f owner h e → May n f owner h (note lg at x)
  known h x p a = subst (May n f owner h) (sym p) a

  -- A ballot has one offer.
  one_offer : {h : List Note} → Allowed n f owner h → (b : ℕ) (v w : Content) → Has h (offer b v) → Has h (offer b w) → v ≡ w
  one_offer begin b v w i j = absurd i
  one_offer (next {h = h} {e = e} r a) b v w i j = let ih = one_offer r b v w in grind arith

  -- An entry has one proposal.
  pub one_proposal : {h : List Note} → Allowed n f owner h → (v w : Content) → Has h (propose v) → Has h (propose w) → v ≡ w
  one_proposal begin v w i j = absurd i
  one_proposal (next {h = h} {e = e} r a) v w i j = let ih = one_proposal r v w in grind arith

  -- A report of what the seat accepted last covers each of its accepts.
  until : (h : List Note) (c k : ℕ) (o : Option Past) → Latest n f owner h lg at c o → Has h (accept c k) → Until o k
  until h c k none l i = l k i
  until h c k (some (past a v)) l i = l.2 k i

  -- And it goes on covering those below its ballot.
  accepts_told : {h : List Note} → Allowed n f owner h → (c b k : ℕ) (o : Option Past) (t : Bool) →
      Has h (report c b o t) → Has h (accept c k) → k < b → Until o k
  accepts_told begin c b k o t i j l = absurd i
  accepts_told (next {h = h} {e = e} r a) c b k o t i j l = let ih = accepts_told r c b k o t in grind (arith, until)

  -- What a report has as accepted was offered, at an earlier ballot.
  past_offered : {h : List Note} → Allowed n f owner h → (c b a : ℕ) (v : Content) (t : Bool) →
      Has h (report c b (some (past a v)) t) → Has h (offer a v) × (a < b)
  past_offered begin c b a v t i = absurd i
  past_offered (next {h = h} {e = e} r ok) c b a v t i = let ih = past_offered r c b a v t in grind arith

  -- A report without an accept goes on telling whether the seat voted.
  votes_told : {h : List Note} → Allowed n f owner h → (c b : ℕ) (o : Option Past) (t : Bool) →
      Has h (report c b o t) → o ≡ none → (t ≡ true) ↔ Has h (vote c)
  votes_told begin c b o t i p = absurd i
  votes_told (next {h = h} {e = e} r a) c b o t i p = let ih = votes_told r c b o t in grind arith

  -- What a commit on votes alone rests on lasts.
  fast_kept : {h : List Note} → Allowed n f owner h → Has h fast_commit → FastQuorum (ballots_in n f owner h lg at)
  fast_kept begin i = absurd i
  fast_kept (next {h = h} {e = e} r a) (inl p) =
      let g = known h fast_commit p a in
      record { voters = g.voters; enough = g.enough; voted = grind arith; no_first = grind arith; no_report = grind arith }
  fast_kept (next {h = h} {e = e} r a) (inr s) =
      let g = fast_kept r s in
      record {
        voters = g.voters;
        enough = g.enough;
        voted = grind arith;
        no_first = grind arith;
        no_report = λ b u. let old = g.no_report b in elim u.2 [
          | inl q ↦ (known h (report (owner lg) b u.0 u.1) q a).open_yet refl s
          | inr j ↦ old (u.0, u.1, j)
        ];
      }

  -- A choice stays one as the history grows.
  lasts : (h : List Note) (e : Note) (b : ℕ) (v : Content) → Choice n f owner h lg at b v → Choice n f owner (e ∷ h) lg at b v
  lasts h e b v g = record {
    asked = g.asked;
    enough = g.enough;
    pasts = g.pasts;
    votes = g.votes;
    heard = λ c l t. inr (g.heard c l t);
    rule = elim g.rule [ inl m ↦ inl (m.0, λ k. inr (m.1 k), m.2) | inr m ↦ inr m ];
  }

  -- Each offer past the first ballot was chosen from reports.
  choices : {h : List Note} → Allowed n f owner h → (b : ℕ) (v : Content) → 0 < b → Has h (offer b v) → Choice n f owner h lg at b v
  choices begin b v l i = absurd i
  choices (next {h = h} {e = e} r a) b v l (inl p) = lasts h e b v ((known h (offer b v) p a).later l)
  choices (next {h = h} {e = e} r a) b v l (inr i) = lasts h e b v (choices r b v l i)

  -- A choice from reports is one by the rules of ballots.
  chosen : {h : List Note} → Allowed n f owner h → (b : ℕ) (v : Content) → Choice n f owner h lg at b v → Chosen (ballots_in n f owner h lg at) b v
  chosen {h} r b v g = record {
    asked = g.asked;
    enough = g.enough;
    reports = λ c l t. (g.pasts c, g.votes c, g.heard c l t);
    rule = elim g.rule [
      | inl m ↦ inl (record {
        silent = λ c k l t z k<b i. subst (λ o. Until o k) (m.0 c l t) (told c k l t i k<b);
        votes = g.votes;
        tells = λ c l t. votes_told r c b (g.pasts c) (g.votes c) (g.heard c l t) (m.0 c l t);
        many = m.1;
        few = m.2;
      })
      | inr m ↦
          let (c, a, l, t, e, top) = m in
          let rep : Has h (report c b (some (past a v)) (g.votes c)) = rw e at (g.heard c l t) in
          let po = past_offered r c b a v (g.votes c) rep in
          inr (record {
            from = a;
            earlier = po.1;
            offered = po.0;
            silent = λ c' k l' t' a<k k<b i. over c' a k (λ a' w. top c' a' w l' t') a<k (g.pasts c') refl (told c' k l' t' i k<b);
          })
    ];
  }
    where
      told : (c k : ℕ) → c < n → g.asked c ≡ true → Has h (accept c k) → k < b → Until (g.pasts c) k
      told c k l t i k<b = accepts_told r c b k (g.pasts c) (g.votes c) (g.heard c l t) i k<b

      over : (c a k : ℕ) → ((a' : ℕ) (w : Content) → g.pasts c ≡ some (past a' w) → a' ≤ a) → a + 1 ≤ k →
          (o : Option Past) → g.pasts c ≡ o → Until o k → ⊥
      over c a k top a<k none e u = u
      over c a k top a<k (some (past a' w)) e u = omega (arith, top a' w e)

  pub lawful : {h : List Note} → n ≡ 2 * f + 1 → owner lg < n → Allowed n f owner h → Lawful (ballots_in n f owner h lg at)
  lawful size seated r = record {
    size = size;
    seated = seated;
    one_offer = one_offer r;
    one_proposal = one_proposal r;
    chosen = λ b v l i. chosen r b v (choices r b v l i);
    fast = fast_kept r;
  }
