-- A group of cards moves as the argument allows, so its cards never disagree.
use Rattle.std.proofs.Common.{◌≡◌, ℕ, zero, suc, ◌<◌, ◌≤◌, List, [], ◌∷◌, ◌++◌, map, length, set, Some, None, Option, sym, refl, ap, ◌∙◌, subst, inl, inr, arith, length-set}
use mathlib.Core.Option.{some, none}
use mathlib.Core.Option as maybe
use Rattle.std.proofs.lemmas.Bool.{cases_eq}
use Rattle.std.proofs.lemmas.List.{get_or-set_same, map-append}
use Rattle.std.proofs.lemmas.Option.{slice_get_read, slice_get_within}
use Rattle.std.specs.List.{slice_get}
use Rattle.command.specs.declared.Command.{Command}
use Rattle.agreement.specs.Lists.{In}
use Rattle.agreement.proofs.Lists.{in_left, in_parts}
use Rattle.agreement.specs.Logs.{Log, other, Content.content, Value.command}
use Rattle.agreement.specs.Histories.{Event.propose, Note}
use Rattle.block.specs.declared.message.Message.{Message}
use Rattle.block.specs.Ballots.{holder_of}
use Rattle.column.specs.Cells.{Cell, Body, Message.message}
use Rattle.column.specs.Cells as column
use Rattle.column.specs.Moves.{Fresh, add, Turn, Move, Later, Later.now, Later.then, Reached}
use Rattle.column.specs.Moves as moves
use Rattle.card.specs.declared.replica.Replica.{Replica}
use Rattle.group.specs.Groups.{Group, one_of}
use Rattle.group.specs.Views.{number_of, log_named, cell_on, cell_at, takeover_in, body_by, body_of, noted}
use Rattle.block.specs.declared.message.Kind.{Kind}
use Rattle.block.specs.declared.message.Kind.TheVariants.{FastAccept, FastAcceptOk, FastAcceptReply, Accept, AcceptOk, Commit, Prepare, PrepareOk, Reject}
use Rattle.column.specs.Cells.{Body.fast_accept}
use Rattle.group.specs.Standing.{Standing, Valued}
use Rattle.group.specs.Turns.{SeatedCard, TakesTurn}
use Rattle.group.proofs.Keeping.{Whole}
use Rattle.group.proofs.Proposed.{turn_proposes}
use Rattle.group.proofs.Saying.{Says, Said}

-- places of a list
pub at_inside : {X : Type 0} (xs : List X) (k : ℕ) (x : X) → slice_get xs k ≡ Some x → k < length xs
at_inside xs k x e = slice_get_within xs k x e

pub at_in : {X Y : Type 0} (h : X → Y) (xs : List X) (k : ℕ) (x : X) → slice_get xs k ≡ Some x → In (h x) (map h xs)
at_in h [] k x e = absurd (grind arith)
at_in h (y ∷ ys) zero x e = inl (ap h (grind arith))
at_in h (y ∷ ys) (suc k) x e = inr (at_in h ys k x e)

pub at_here : {X : Type 0} (xs : List X) (k : ℕ) (x : X) → k < length xs → slice_get (set xs k x) k ≡ Some x
at_here xs k x l = slice_get_read (set xs k x) (length xs) k x (sym (length-set xs k x)) l (sym (get_or-set_same xs k x x l))

pub at_other : {X : Type 0} (xs : List X) (k j : ℕ) (x : X) → (j ≡ k → ⊥) → slice_get (set xs k x) j ≡ slice_get xs j
at_other [] k j x ne = refl
at_other (y ∷ ys) zero zero x ne = absurd (ne refl)
at_other (y ∷ ys) zero (suc j) x ne = refl
at_other (y ∷ ys) (suc k) zero x ne = refl
at_other (y ∷ ys) (suc k) (suc j) x ne = at_other ys k j x (λ e. ne (ap suc e))

-- the cards of a group, as the argument sees them
abbrev pub takeover_on : Option Replica → maybe.Option column.Takeover
takeover_on None = none
takeover_on (Some r) = takeover_in r.takeover

abbrev pub view : Group → List Note → moves.Group
view G h =
    record {
      cells = λ g i s. cell_on (slice_get G.cards s) g i;
      takeovers = λ s. takeover_on (slice_get G.cards s);
      sent = map noted G.sent;
      handed = G.proposed;
      history = h;
    }

-- a card of the group in its seat
pub record PlacedCard (n f : ℕ) (cards : List Replica) (seat : ℕ) : Type 0 where
  pub card : Replica
  pub here : slice_get cards seat ≡ Some card
  pub size : card.n ≡ n
  pub place : card.seat ≡ seat
  pub seated : SeatedCard f card
  pub valued : Valued card

module _ (n f : ℕ) where
  pub record Sound (G : Group) : Type 0 where
    pub history : List Note
    pub reached : Reached n f number_of holder_of (view G history)
    pub count_is : length G.cards ≡ n
    pub cards : (seat : ℕ) → seat < n → PlacedCard n f G.cards seat

  -- one card has taken a turn, and perhaps sent a message
  module _ (G : Group) (sound : Sound G) (seat : ℕ) (r : Replica) (here : slice_get G.cards seat ≡ Some r) (x : Replica × Option Message)
      (more : List Command) (g : Log) (i : ℕ) (turn : TakesTurn f (map noted G.sent) r g i x) (inside : seat < n) (size : r.n ≡ n)
      (place : r.seat ≡ seat) (seated : SeatedCard f x.0) (valued : Valued x.0) (size' : x.0.n ≡ n) (place' : x.0.seat ≡ seat)
      (said : (m : Message) → x.1 ≡ Some m → noted m ≡ message seat g i (body_by m.kind m))
      (asks : (c : Command) (d : ℕ) → In (propose (content (command c) d)) turn.0.0 → In c more)
      (keeps : (c : Command) → In c G.proposed → In c more) where
    abbrev H : Group
    H = record { cards = set G.cards seat x.0; sent = G.sent ++ one_of x.1; proposed = more }

    abbrev h : List Note
    h = add g i turn.0.0 sound.history

    there : slice_get H.cards seat ≡ Some x.0
    there = at_here G.cards seat x.0 (omega (arith, sound.count_is))

    turned : Turn n f number_of holder_of g i seat (map noted G.sent) (λ k. cell_on (slice_get G.cards seat) (other g) k) (cell_on (slice_get G.cards seat) g i)
        (takeover_on (slice_get G.cards seat)) (cell_at x.0 g i) (takeover_in x.0.takeover) (body_of x.1) turn.0.0
    turned =
        subst (λ o. Turn n f number_of holder_of g i seat (map noted G.sent) (λ k. cell_on o (other g) k) (cell_on o g i) (takeover_on o)
        (cell_at x.0 g i) (takeover_in x.0.takeover) (body_of x.1) turn.0.0) (sym here)
        (subst (λ k. Turn k f number_of holder_of g i seat (map noted G.sent) (cell_at r (other g)) (cell_at r g i) (takeover_in r.takeover)
        (cell_at x.0 g i) (takeover_in x.0.takeover) (body_of x.1) turn.0.0) size
        (subst (λ k. Turn r.n f number_of holder_of g i k (map noted G.sent) (cell_at r (other g)) (cell_at r g i) (takeover_in r.takeover)
        (cell_at x.0 g i) (takeover_in x.0.takeover) (body_of x.1) turn.0.0) place turn.0.1))

    posted : (o : Option Message) → ((m : Message) → o ≡ Some m → noted m ≡ message seat g i (body_by m.kind m))
        → (y : column.Message) → In y (map noted (one_of o)) → (b : Body) × (body_of o ≡ some b) × (y ≡ message seat g i b)
    posted None w y j = absurd j
    posted (Some m) w y (inl e) = (body_by m.kind m, refl, e ∙ w m refl)
    posted (Some m) w y (inr j) = absurd j

    cell_other : (g' : Log) (i' s' : ℕ) → ((g' ≡ g) × (i' ≡ i) × (s' ≡ seat) → ⊥) → cell_on (slice_get H.cards s') g' i' ≡ cell_on (slice_get G.cards s') g' i'
    cell_other g' i' s' apart = elim (cases_eq s' seat) [
      | inl same ↦
          ap (λ k. cell_on (slice_get H.cards k) g' i') same
          ∙ (ap (λ o. cell_on o g' i') there
          ∙ (turn.1 g' i' (λ q. apart (q.0, q.1, same))
          ∙ (ap (λ o. cell_on o g' i') (sym here) ∙ ap (λ k. cell_on (slice_get G.cards k) g' i') (sym same))))
      | inr ne ↦ ap (λ o. cell_on o g' i') (at_other G.cards seat s' x.0 ne)
    ]

    moves_on : Move n f number_of holder_of (view G sound.history) (view H h)
    moves_on =
        record {
          log = g;
          place = i;
          seat = seat;
          seated = inside;
          cell = cell_at x.0 g i;
          takeover = takeover_in x.0.takeover;
          out = body_of x.1;
          events = turn.0.0;
          turn = turned;
          here = ap (λ o. cell_on o g i) there;
          apart = cell_other;
          mine = ap takeover_on there;
          others = λ s' ne. ap takeover_on (at_other G.cards seat s' x.0 ne);
          posted = λ y j. elim (in_parts y (map noted G.sent) (map noted (one_of x.1)) (rw map-append at j)) [ inl a ↦ inr a | inr b ↦ inl (posted x.1 said y b) ];
          asks = asks;
          asked = keeps;
          grown = refl;
        }

    sound_after : Sound H
    sound_after =
        record {
          history = h;
          reached = record { from = sound.reached.from; fresh = sound.reached.fresh; moves = then sound.reached.moves moves_on };
          count_is = length-set G.cards seat x.0 ∙ sound.count_is;
          cards = λ k l. elim (cases_eq k seat) [
            | inl same ↦ record { card = x.0; here = ap (slice_get H.cards) same ∙ there; size = size'; place = place' ∙ sym same; seated = seated; valued = valued }
            | inr ne ↦
                let c = sound.cards k l in
                record { card = c.card; here = at_other G.cards seat k x.0 ne ∙ c.here; size = c.size; place = c.place; seated = c.seated; valued = c.valued }
          ];
        }

-- only a proposal has the body of one
proposal_kind : (m : Message) (c : Command) (d : ℕ) → body_by m.kind m ≡ fast_accept c d → m.kind ≡ FastAccept
proposal_kind m c d e = by m.kind e
  where
    by : (k : Kind) → body_by k m ≡ fast_accept c d → k ≡ FastAccept
    by FastAccept q = refl
    by FastAcceptOk q = absurd (grind arith)
    by FastAcceptReply q = absurd (grind arith)
    by Accept q = absurd (grind arith)
    by AcceptOk q = absurd (grind arith)
    by Commit q = absurd (grind arith)
    by Prepare q = absurd (grind arith)
    by PrepareOk q = absurd (grind arith)
    by Reject q = absurd (grind arith)

module _ (n f : ℕ) (fails : 0 < f) (few : n ≤ 7) where
  -- from a sound group to a sound group, by moves
  pub record GoesOn (G H : Group) (s : Sound n f G) : Type 0 where
    pub sound : Sound n f H
    pub later : Later n f number_of holder_of (view G s.history) (view H sound.history)

  pub stays_put : (G : Group) (s : Sound n f G) → GoesOn G G s
  stays_put G s = record { sound = s; later = now }

  -- a card that stands is one of the group in its seat
  seats_card : (r x : Replica) → SeatedCard f r → Standing r.n r.seat x → SeatedCard f x
  seats_card r x c st =
      record {
        size = st.size ∙ c.size;
        some_fail = c.some_fail;
        few = subst (λ k. k ≤ 7) (sym st.size) c.few;
        seat = subst (λ k. x.seat < k) (sym st.size) (subst (λ k. k < r.n) (sym st.place) c.seat);
        stands = subst (λ k. Standing k x.seat x) (sym st.size) (subst (λ k. Standing r.n k x) (sym st.place) st);
      }

  module _ (G : Group) (s : Sound n f G) (seat : ℕ) (r : Replica) (here : slice_get G.cards seat ≡ Some r) where
    inside : seat < n
    inside = let l = slice_get_within G.cards seat r here in omega (arith, s.count_is)

    mine : PlacedCard n f G.cards seat
    mine = s.cards seat inside

    same_card : mine.card ≡ r
    same_card = let a = mine.here in let b = here in grind arith

    pub size : r.n ≡ n
    size = ap (λ c. c.n) (sym same_card) ∙ mine.size

    pub place : r.seat ≡ seat
    place = ap (λ c. c.seat) (sym same_card) ∙ mine.place

    pub seated : SeatedCard f r
    seated = subst (SeatedCard f) same_card mine.seated

    pub whole : Whole r.n r.seat r
    whole = record { stands = seated.stands; valued = subst Valued same_card mine.valued }

    abbrev S : List column.Message
    S = map noted G.sent

    -- the call came to x by a turn at entry g.i
    pub advance : (x : Replica × Option Message) (more : List Command) (g : Log) (log i : ℕ) → log_named log ≡ g → TakesTurn f S r g i x
        → Whole r.n r.seat x.0
        → ((m : Message) → x.1 ≡ Some m → (m.from ≡ r.seat) × (m.log ≡ log) × (m.entry ≡ i))
        → ((c : Command) (d : ℕ) → body_of x.1 ≡ some (fast_accept c d) → In c more)
        → ((c : Command) → In c G.proposed → In c more)
        → GoesOn G (record { cards = set G.cards seat x.0; sent = G.sent ++ one_of x.1; proposed = more }) s
    unfolding sound_after
    advance x more g log i named turn st said asks keeps =
        let c = seats_card r x.0 seated st.stands in
        let told : (m : Message) → x.1 ≡ Some m → noted m ≡ message seat g i (body_by m.kind m) =
        λ m e. let w = said m e in
        let a : m.from ≡ seat = w.0 ∙ place in let b : log_named m.log ≡ g = ap log_named w.1 ∙ named in let d : m.entry ≡ i = w.2 in rw (a, b, d) in
        let handed : (c : Command) (d : ℕ) → In (propose (content (command c) d)) turn.0.0 → In c more =
        λ c d j. asks c d (turn_proposes r.n f number_of holder_of g i r.seat S (cell_at r (other g)) c d turn.0.1 j) in
        record {
          sound = sound_after n f G s seat r here x more g i turn inside size place c st.valued (st.stands.size ∙ size) (st.stands.place ∙ place) told handed keeps;
          later = then now (moves_on n f G s seat r here x more g i turn inside size place c st.valued (st.stands.size ∙ size) (st.stands.place ∙ place) told handed keeps);
        }

    -- by what the call said, where it proposed nothing
    pub quietly : (x : Replica × Option Message) (g : Log) (log i : ℕ) → log_named log ≡ g → TakesTurn f S r g i x → Whole r.n r.seat x.0
        → Said r log i x.1
        → GoesOn G (record { cards = set G.cards seat x.0; sent = G.sent ++ one_of x.1; proposed = G.proposed ++ [] }) s
    quietly x g log i named turn st said =
        advance x (G.proposed ++ []) g log i named turn st
        (λ m e. let w : Says r.seat log i m = subst (Said r log i) e said in (w.from, w.log, w.place))
        (λ c d e. absurd (silent x.1 said c d e)) (λ c. in_left c G.proposed [])
      where
        silent : (o : Option Message) → Said r log i o → (c : Command) (d : ℕ) → body_of o ≡ some (fast_accept c d) → ⊥
        silent None w c d e = grind arith
        silent (Some m) w c d e = w.no_proposal (proposal_kind m c d (grind arith))
