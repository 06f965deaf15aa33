-- What one seat does at one entry leaves the rest of the group as sound as it was.
use Rattle.std.proofs.Common.{◌≡◌, ℕ, ◌<◌, ◌⊎◌, List, [], ◌∷◌, sym, refl, subst, inl, inr, arith}
use Rattle.agreement.specs.Lists.{In}
use Rattle.agreement.specs.Logs.{Log, Content}
use Rattle.agreement.specs.Histories.{Event, Event.propose, Event.answer, Event.vote, Event.offer, Event.accept, Event.report, Event.fast_commit, Note, Note.note, decided_in}
use Rattle.column.specs.Cells.{Cell, Report, Report.unheard, Report.bare, Report.vouched, Report.held, Takeover, Body, Body.fast_accept, Body.fast_ok, Body.fast_reply, Body.accept_at, Body.accept_ok, Body.committed_as, Body.prepare, Body.prepare_ok, Body.reject}
use Rattle.column.specs.Moves.{add}
use Rattle.column.proofs.Invariant.{Fits, Told, Leads, Said}

-- Every note of the one history stands in the other.
abbrev pub Sub : List Note → List Note → Type 0
Sub h k = (x : Note) → In x h → In x k

-- A history with more notes has those that it had.
pub sub_add : (g : Log) (i : ℕ) (es : List Event) (h : List Note) → Sub h (add g i es h)
sub_add g i [] h x j = j
sub_add g i (e ∷ es) h x j = inr (sub_add g i es h x j)

-- What stands in the longer history is new, or stood in the old one.
pub in_add : (g : Log) (i : ℕ) (es : List Event) (h : List Note) (g' : Log) (i' : ℕ) (x : Event) → In (note g' i' x) (add g i es h) →
    In x es ⊎ In (note g' i' x) h
in_add g i [] h g' i' x j = inr j
in_add g i (e ∷ es) h g' i' x (inl p) = inl (inl (cc))
in_add g i (e ∷ es) h g' i' x (inr j) = elim (in_add g i es h g' i' x j) [ inl k ↦ inl (inr k) | inr k ↦ inr k ]

module _ (n f : ℕ) (owner : Log → ℕ) (holder : ℕ → ℕ) where
  -- What is decided, told or said stays so as the history grows.
  pub decided_more : (h k : List Note) → Sub h k → (g : Log) (i : ℕ) (v : Content) →
      decided_in n f owner h g i v → decided_in n f owner k g i v
  decided_more h k sub g i v (inl d) = inl (record {
    ballot = d.ballot;
    offered = sub (note g i (offer d.ballot v)) d.offered;
    holders = d.holders;
    enough = d.enough;
    accepted = λ c l t. sub (note g i (accept c d.ballot)) (d.accepted c l t);
  })
  decided_more h k sub g i v (inr d) = inr (sub (note g i fast_commit) d.0, sub (note g i (propose v)) d.1)

  pub told_more : (h k : List Note) → Sub h k → (g : Log) (i b c : ℕ) (r : Report) →
      Told n f owner holder h g i b c r → Told n f owner holder k g i b c r
  told_more h k sub g i b c unheard t = t
  told_more h k sub g i b c bare t = sub _ t
  told_more h k sub g i b c (vouched v) t = (sub _ t.0, sub _ t.1)
  told_more h k sub g i b c (held a v) t = sub _ t

  pub said_more : (h k : List Note) → Sub h k → (c : ℕ) (g : Log) (i : ℕ) (b : Body) →
      Said n f owner holder h c g i b → Said n f owner holder k c g i b
  said_more h k sub c g i (fast_accept p d) t = sub _ t
  said_more h k sub c g i fast_ok t = sub _ t
  said_more h k sub c g i (fast_reply x) t = sub _ t
  said_more h k sub c g i (accept_at b v) t = sub _ t
  said_more h k sub c g i (accept_ok b) t = sub _ t
  said_more h k sub c g i (committed_as v) t = decided_more h k sub g i v t
  said_more h k sub c g i (prepare b) t = t
  said_more h k sub c g i (prepare_ok b r) t = told_more h k sub g i b c r t
  said_more h k sub c g i (reject b) t = t

  -- The event is the seat's.
  abbrev pub About : Log → ℕ → Event → Type 0
  About g s (propose v) = owner g ≡ s
  About g s (answer c x) = c ≡ s
  About g s (vote c) = c ≡ s
  About g s (offer b v) = ((b ≡ 0) × (owner g ≡ s)) ⊎ ((0 < b) × (holder b ≡ s))
  About g s (accept c b) = c ≡ s
  About g s (report c b o t) = c ≡ s
  About g s fast_commit = owner g ≡ s

  -- No event is of two seats.
  one_seat : (g : Log) (s s' : ℕ) (e : Event) → About g s e → About g s' e → s ≡ s'
  one_seat g s s' (propose v) p q = cc
  one_seat g s s' (answer c x) p q = cc
  one_seat g s s' (vote c) p q = cc
  one_seat g s s' (offer b v) p q = grind arith
  one_seat g s s' (accept c b) p q = cc
  one_seat g s s' (report c b o t) p q = cc
  one_seat g s s' fast_commit p q = cc

  -- All the events are the seat's.
  abbrev pub AllAbout : Log → ℕ → List Event → Type 0
  AllAbout g s [] = Unit {0}
  AllAbout g s (e ∷ es) = About g s e × AllAbout g s es

  -- Equal notes have equal parts.
  same_note : {g g' : Log} {i i' : ℕ} {e e' : Event} → note g' i' e' ≡ note g i e → (g' ≡ g) × (i' ≡ i) × (e' ≡ e)
  same_note p = (cc, cc, cc)

  -- An event of another seat, or of another entry, was there before.
  pub older : (g : Log) (i s : ℕ) (es : List Event) (h : List Note) → AllAbout g s es → (g' : Log) (i' s' : ℕ) →
      ((g' ≡ g) × (i' ≡ i) × (s' ≡ s) → ⊥) → (x : Event) → About g' s' x → In (note g' i' x) (add g i es h) → In (note g' i' x) h
  older g i s [] h al g' i' s' apart x a j = j
  older g i s (e ∷ es) h al g' i' s' apart x a (inl p) =
      let (p0, p1, p2) = same_note p in
      let a' : About g s' e = subst (λ z. About g s' z) p2 (subst (λ z. About z s' x) p0 a) in
      absurd (apart (p0, p1, one_seat g s' s e a' al.0))
  older g i s (e ∷ es) h al g' i' s' apart x a (inr j) = older g i s es h al.1 g' i' s' apart x a j

  -- A cell of another seat, or of another entry, goes on summing up the history.
  pub fits_apart : (g : Log) (i s : ℕ) (es : List Event) (h : List Note) → AllAbout g s es → (g' : Log) (i' s' : ℕ) →
      ((g' ≡ g) × (i' ≡ i) × (s' ≡ s) → ⊥) → (e : Cell) → Fits n f owner holder g' i' s' e h → Fits n f owner holder g' i' s' e (add g i es h)
  fits_apart g i s es h al g' i' s' apart e m =
      let sub = sub_add g i es h in
      let old = older g i s es h al g' i' s' apart in
      record {
        reported = λ b o t j. m.reported b o t (old (report s' b o t) refl j);
        admitted = λ b j. m.admitted b (old (accept s' b) refl j);
        shown = λ b j. m.shown b (old (accept s' b) refl j);
        latest = λ p. (sub _ (m.latest p).0, sub _ (m.latest p).1);
        highest = λ p b j. m.highest p b (old (accept s' b) refl j);
        vote_kept = (λ p. sub _ (m.vote_kept.0 p), λ j. m.vote_kept.1 (old (vote s') refl j));
        unvoted = m.unvoted;
        given_kept = λ x j. m.given_kept x (old (answer s' x) refl j);
        given_held = λ x j. m.given_held x (old (answer s' x) refl j);
        standing = λ p. (sub _ (m.standing p).0, sub _ (m.standing p).1);
        proposed = λ o v j. m.proposed o v (old (propose v) (sym o) j);
        led = λ b v j l p. m.led b v (old (offer b v) (inr (l, p)) j) l p;
        late = λ o v j. m.late o v (old (offer 0 v) (inl (refl, sym o)) j);
        fast_closed = λ o j. m.fast_closed o (old fast_commit (sym o) j);
        final = λ p. decided_more h (add g i es h) sub g' i' e.value (m.final p);
        ayes = λ c p. sub _ (m.ayes c p);
        noes = λ c x p. sub _ (m.noes c x p);
        backers = λ c p. sub _ (m.backers c p);
      }

  -- And so does a takeover to which no offer was added.
  pub leads_more : (h k : List Note) → Sub h k → (s : ℕ) (u : Takeover) →
      ((v : Content) → In (note u.log u.place (offer u.ballot v)) k → In (note u.log u.place (offer u.ballot v)) h) →
      Leads n f owner holder s u h → Leads n f owner holder s u k
  leads_more h k sub s u old m = record {
    past_first = m.past_first;
    holds = m.holds;
    unoffered = λ p v j. m.unoffered p v (old v j);
    offered = λ p. sub _ (m.offered p);
    told = λ c. told_more h k sub u.log u.place u.ballot c (u.reports c) (m.told c);
    backers = λ c p. sub _ (m.backers c p);
  }
