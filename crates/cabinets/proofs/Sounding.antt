-- In every group that calls make of a new one, each card has run a walk.
use Rattle.std.proofs.Common.{◌≡◌, ℕ, zero, suc, ◌<◌, true, false, eqb, List, [], ◌∷◌, ◌++◌, length, set, Some, None, Option, sym, refl, ap, ◌∙◌, subst, inl, inr, append-nil, arith, length-set}
use Rattle.std.specs.List.{slice_get}
use Rattle.std.proofs.lemmas.List.{length-map}
use Rattle.std.proofs.lemmas.Bool.{cases_eq}
use Rattle.std.proofs.lemmas.Bool.Decides.{nat_tests}
use Rattle.agreement.specs.Walks.{Walk.start}
use Rattle.machine.specs.Rules.{Rule}
use Rattle.card.specs.declared.replica.Replica.{Replica}
use Rattle.fitted.specs.declared.run.Run.{Run}
use Rattle.fitted.specs.declared.run.Run.TheVariants as runs
use Rattle.fitted.specs.Makes.{new_meaning}
use Rattle.fitted.specs.Meanings.{Meaning, with_replica}
use Rattle.fitted.specs.Runs.{ran}
use Rattle.group.specs.declared.calls.Call.{Call}
use Rattle.group.specs.declared.calls.Call.TheVariants as call
use Rattle.group.specs.Groups.{one_of, seat_of}
use Rattle.group.specs.Groups as order
use Rattle.group.specs.Agreements.{KeptOn, Orders}
use Rattle.group.proofs.Agreeing.{groups_order}
use Rattle.group.proofs.Grouping.{at_inside, at_here, at_other}
use Rattle.cabinets.specs.declared.answer.Answer.{Answer}
use Rattle.cabinets.specs.declared.answer.Answer.TheVariants.{Ordered, Ran, NoSuchSeat}
use Rattle.cabinets.specs.declared.answer.Listed.{Listed}
use Rattle.cabinets.specs.Groups.{Group, card_after, answer_from, ran_by, ran_in, cards_on, answer_on, called, after, New}
use Rattle.cabinets.specs.Promises.{list_in}
use Rattle.cabinets.proofs.Ordering.{replica_of, orders, nth_map, orders_called}
use Rattle.cabinets.proofs.Listing.{list_append}
use Rattle.cabinets.proofs.Running.{RanSo, pairs_of, ran_goes}

-- what a run adds to the list of its seat, and to no other
list_mine : (seat : ℕ) (r : Run) → list_in seat (one_of (ran_by seat r)) ≡ pairs_of r
list_mine seat runs.Noop = refl
list_mine seat runs.Repeat = refl
list_mine seat (runs.Ran c o v) = let e : eqb seat seat ≡ true = grind (arith, nat_tests) in rw e
list_mine seat (runs.Waits e) = refl
list_mine seat runs.NoPlace = refl

list_other : (seat k : ℕ) (r : Run) → (seat ≡ k → ⊥) → list_in seat (one_of (ran_by k r)) ≡ []
list_other seat k runs.Noop ne = refl
list_other seat k runs.Repeat ne = refl
list_other seat k (runs.Ran c o v) ne = let e : eqb k seat ≡ false = grind (arith, nat_tests) in rw e
list_other seat k (runs.Waits e) ne = refl
list_other seat k runs.NoPlace ne = refl

list_other_by : (seat k : ℕ) (a : Answer) → (seat ≡ k → ⊥) → list_in seat (one_of (ran_in k a)) ≡ []
list_other_by seat k (Ordered r) ne = refl
list_other_by seat k (Ran r) ne = list_other seat k r ne
list_other_by seat k NoSuchSeat ne = refl

some_is : {X : Type 0} {y z : X} → ◌≡◌ {A = Option X} (Some y) (Some z) → y ≡ z
some_is e = grind arith

-- what stands at a place of a list
pub found : {X : Type 0} (xs : List X) (k : ℕ) → k < length xs → (x : X) × (slice_get xs k ≡ Some x)
found [] k l = absurd (omega arith)
found (x ∷ xs) zero l = (x, refl)
found (x ∷ xs) (suc k) l = found xs k (omega arith)

after_append : (K : order.Group) (cs ds : List Call) → order.after K (cs ++ ds) ≡ order.after (order.after K cs) ds
after_append K [] ds = refl
after_append K (c ∷ cs) ds = after_append (order.called K c) cs ds

module _ (R : Rule) (n : ℕ) (starts : List R.State) (G₀ : Group R) (new : New R n starts G₀) where
  pub orders_new : order.New n (orders G₀)
  orders_new =
      record {
        sized = new.sized;
        size = length-map G₀.cards replica_of ∙ new.size;
        cards = λ seat l.
            let s = start seat l in
            let w = new.cards seat s.0 s.1 in
            (w.0, nth_map replica_of G₀.cards seat (new_meaning R n seat w.0 s.0) w.1);
        sent = new.sent;
      }
    where
      start : (seat : ℕ) → seat < n → (x : R.State) × (slice_get starts seat ≡ Some x)
      start seat l = found starts seat (omega (arith, new.machines))

  -- a group that calls have made of the new one: each card has run a walk
  pub record Sound (G : Group R) : Type 0 where
    pub calls : List Call
    pub is : orders G ≡ order.after (orders G₀) calls
    pub size : length G.cards ≡ n
    pub runs : (s : ℕ) (m : Meaning R) (x : R.State) → slice_get G.cards s ≡ Some m → slice_get starts s ≡ Some x
        → RanSo R (KeptOn (orders G) s) m x (list_in s G.ran)

  pub begins : Sound G₀
  begins =
      record {
        calls = [];
        is = refl;
        size = new.size;
        runs = λ s m x here from.
            let w = new.cards s x from in
            let m_is : new_meaning R n s w.0 x ≡ m = some_is (sym w.1 ∙ here) in
            subst (λ l. RanSo R (KeptOn (orders G₀) s) m x (list_in s l)) (sym new.ran)
            (subst (λ k. RanSo R (KeptOn (orders G₀) s) k x []) m_is
            (record { steps = []; walk = start; runs_each = refl; told_so = refl; state = refl; kept = refl }));
      }

  -- one call
  module _ (G : Group R) (sound : Sound G) (c : Call) where
    abbrev H : Group R
    H = called R G c

    orders_on : Orders (orders G) (orders H)
    orders_on =
        subst (λ K. Orders (orders G) K) (sym (orders_called R G c))
        (subst (λ K. Orders K (order.called K c)) (sym sound.is) (groups_order n (orders G₀) orders_new sound.calls (c ∷ [])))

    -- what has run goes on having run
    carry : (s : ℕ) (m : Meaning R) (x : R.State) (l : List Listed) → s < n → RanSo R (KeptOn (orders G) s) m x l
        → RanSo R (KeptOn (orders H) s) m x l
    carry s m x l inside w =
        record {
          steps = w.steps;
          walk = orders_on.run_on s m.passed.pilot m.passed.copilot w.steps (omega (arith, length-map G.cards replica_of, sound.size)) w.walk;
          runs_each = w.runs_each;
          told_so = w.told_so;
          state = w.state;
          kept = w.kept;
        }

    inside : (s : ℕ) (m : Meaning R) → slice_get G.cards s ≡ Some m → s < n
    inside s m here = let l = at_inside G.cards s m here in omega (arith, sound.size)

    module _ (m : Meaning R) (here : slice_get G.cards (seat_of c) ≡ Some m) where
      abbrev k : ℕ
      k = seat_of c

      abbrev Mine : Meaning R → Answer → Type 0
      Mine m' a = (x : R.State) → slice_get starts k ≡ Some x → RanSo R (KeptOn (orders G) k) m' x (list_in k G.ran ++ list_in k (one_of (ran_in k a)))

      quiet : (r : Replica) (y : R.State) → slice_get starts k ≡ Some y → RanSo R (KeptOn (orders G) k) (with_replica m r) y (list_in k G.ran ++ [])
      quiet r y from =
          let w = sound.runs k m y here from in
          subst (RanSo R (KeptOn (orders G) k) (with_replica m r) y) (sym (append-nil (list_in k G.ran)))
          (record { steps = w.steps; walk = w.walk; runs_each = w.runs_each; told_so = w.told_so; state = w.state; kept = w.kept })

    mine : (d : Call) → seat_of d ≡ seat_of c → (m : Meaning R) (here : slice_get G.cards (seat_of c) ≡ Some m) → Mine m here (card_after R m G.sent d) (answer_from R m G.sent d)
    mine (call.Propose seat x) e m here = quiet m here _
    mine (call.Deliver seat x) e m here = quiet m here _
    mine (call.Settle seat log i) e m here = quiet m here _
    mine (call.Takeover seat log i) e m here = quiet m here _
    mine (call.Run seat) e m here = λ y from.
        subst (λ l. RanSo R (KeptOn (orders G) (seat_of c)) (ran R m).0 y (list_in (seat_of c) G.ran ++ l)) (sym (list_mine (seat_of c) (ran R m).1))
        (ran_goes R (orders G) (seat_of c) m y (list_in (seat_of c) G.ran) (nth_map replica_of G.cards (seat_of c) m here) (sound.runs (seat_of c) m y here from))

    called_runs : (o : Option (Meaning R)) → slice_get G.cards (seat_of c) ≡ o → (s : ℕ) (y : Meaning R) (x : R.State) → slice_get (cards_on R G.cards G.sent c o) s ≡ Some y
        → slice_get starts s ≡ Some x
        → RanSo R (KeptOn (orders G) s) y x (list_in s (G.ran ++ one_of (ran_in (seat_of c) (answer_on R G.cards G.sent c o))))
    called_runs None q s y x here from = subst (λ l. RanSo R (KeptOn (orders G) s) y x (list_in s l)) (sym (append-nil G.ran)) (sound.runs s y x here from)
    called_runs (Some m) q s y x here from =
        let k = seat_of c in
        let m' = card_after R m G.sent c in
        let a = answer_from R m G.sent c in
        subst (RanSo R (KeptOn (orders G) s) y x) (sym (list_append s G.ran (one_of (ran_in k a))))
        (elim (cases_eq s k) [
          | inl same ↦
              let there : slice_get (set G.cards k m') s ≡ Some m' = ap (slice_get (set G.cards k m')) same ∙ at_here G.cards k m' (at_inside G.cards k m q) in
              let is : m' ≡ y = some_is (sym there ∙ here) in
              subst (λ z. RanSo R (KeptOn (orders G) s) z x (list_in s G.ran ++ list_in s (one_of (ran_in k a)))) is
              (subst (λ j. RanSo R (KeptOn (orders G) j) m' x (list_in j G.ran ++ list_in j (one_of (ran_in k a)))) (sym same)
              (mine c refl m q x (ap (slice_get starts) (sym same) ∙ from)))
          | inr ne ↦
              subst (λ l. RanSo R (KeptOn (orders G) s) y x (list_in s G.ran ++ l)) (sym (list_other_by s k a ne))
              (subst (RanSo R (KeptOn (orders G) s) y x) (sym (append-nil (list_in s G.ran)))
              (sound.runs s y x (sym (at_other G.cards k s m' ne) ∙ here) from))
        ])

    called_size : (o : Option (Meaning R)) → length (cards_on R G.cards G.sent c o) ≡ length G.cards
    called_size None = refl
    called_size (Some m) = length-set G.cards (seat_of c) (card_after R m G.sent c)

    pub call_sound : Sound H
    call_sound =
        record {
          calls = sound.calls ++ (c ∷ []);
          is = orders_called R G c ∙ (ap (λ K. order.called K c) sound.is ∙ sym (after_append (orders G₀) sound.calls (c ∷ [])));
          size = called_size (slice_get G.cards (seat_of c)) ∙ sound.size;
          runs = λ s y x here from.
              let l : s < n = let j = at_inside H.cards s y here in omega (arith, called_size (slice_get G.cards (seat_of c)), sound.size) in
              carry s y x (list_in s H.ran) l (called_runs (slice_get G.cards (seat_of c)) refl s y x here from);
        }

  pub after_sound : (cs : List Call) (G : Group R) → Sound G → Sound (after R G cs)
  after_sound [] G s = s
  after_sound (c ∷ cs) G s = after_sound cs (called R G c) (call_sound G s c)
