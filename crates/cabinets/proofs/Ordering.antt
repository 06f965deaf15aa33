-- What calls do to a group with its machines, they do to its ordering states.
use Rattle.std.proofs.Common.{◌≡◌, ℕ, zero, suc, Bool, true, false, List, [], ◌∷◌, ◌++◌, map, set, Some, None, Ok, Err, Option, sym, refl, ap, ◌∙◌, append-nil, arith}
use Rattle.std.specs.List.{slice_get}
use Rattle.std.proofs.lemmas.List.{map-set}
use Rattle.command.specs.declared.Command.{Command}
use Rattle.block.specs.declared.message.Message.{Message}
use Rattle.block.specs.declared.message.Value.{Value}
use Rattle.block.specs.declared.message.Value.TheVariants as value
use Rattle.machine.specs.Onces.{known, full}
use Rattle.machine.specs.Rules.{Rule}
use Rattle.card.specs.declared.replica.Replica.{Replica}
use Rattle.card.specs.Steps.{Step, state_after, answer_of}
use Rattle.fitted.specs.declared.fitting.Passed.{Passed}
use Rattle.fitted.specs.declared.run.Next.{Next}
use Rattle.fitted.specs.declared.run.Next.TheVariants as next
use Rattle.fitted.specs.Meanings.{Meaning, with_replica}
use Rattle.fitted.specs.Nexts as nexts
use Rattle.fitted.specs.Runs.{running, passing, ran_by, ran}
use Rattle.group.specs.declared.calls.Call.{Call}
use Rattle.group.specs.declared.calls.Call.TheVariants as call
use Rattle.group.specs.Groups.{one_of, seat_of, step_of, asked_by}
use Rattle.group.specs.Groups as order
use Rattle.group.proofs.Calling.{set_same}
use Rattle.cabinets.specs.declared.answer.Answer.TheVariants.{Ordered}
use Rattle.cabinets.specs.Groups.{Group, cards_on, answer_on, noted, called, after}

abbrev pub replica_of : {R : Rule} → Meaning R → Replica
replica_of m = m.replica

-- the ordering states of a group
abbrev pub orders : {R : Rule} → Group R → order.Group
orders G = record { cards = map replica_of G.cards; sent = G.sent; proposed = G.proposed }

abbrev built : List Replica → List Message → List Command → order.Group
built cards sent proposed = record { cards = cards; sent = sent; proposed = proposed }

pub nth_map : {X Y : Type 0} (f : X → Y) (xs : List X) (k : ℕ) (x : X) → slice_get xs k ≡ Some x → slice_get (map f xs) k ≡ Some (f x)
nth_map f [] k x e = absurd (grind arith)
nth_map f (y ∷ ys) zero x e = ap (λ z. Some (f z)) (grind arith)
nth_map f (y ∷ ys) (suc k) x e = nth_map f ys k x e

pub nth_map_none : {X Y : Type 0} (f : X → Y) (xs : List X) (k : ℕ) → slice_get xs k ≡ None → slice_get (map f xs) k ≡ None
nth_map_none f [] k e = refl
nth_map_none f (y ∷ ys) zero e = absurd (grind arith)
nth_map_none f (y ∷ ys) (suc k) e = nth_map_none f ys k e

module _ (R : Rule) (m : Meaning R) where
  -- a run orders nothing
  running_orders : (p : Passed) (c : Command) (a b : Bool) → a ≡ known m.kept c.identity → b ≡ full m.kept → (running R m p c).0.replica ≡ m.replica
  running_orders p c true b ka kb = rw (← ka) refl
  running_orders p c false true ka kb = rw (← ka, ← kb) refl
  running_orders p c false false ka kb = rw (← ka, ← kb) refl

  passing_orders : (p : Passed) (v : Value) → (passing R m p v).0.replica ≡ m.replica
  passing_orders p value.Nothing = refl
  passing_orders p value.Noop = refl
  passing_orders p (value.Command c) = running_orders p c (known m.kept c.identity) (full m.kept) refl refl

  by_next : (n : Next) → (ran_by R m n).0.replica ≡ m.replica
  by_next (next.Passes log v) = passing_orders _ v
  by_next (next.Waits e) = refl

  pub ran_orders : (ran R m).0.replica ≡ m.replica
  ran_orders = by_next (nexts.next m.replica m.passed)

module _ (R : Rule) (G : Group R) (c : Call) where
  abbrev cards : List Replica
  cards = map replica_of G.cards

  -- nothing changed
  same : (xs : List Replica) → xs ≡ cards → built xs (G.sent ++ []) (G.proposed ++ []) ≡ orders G
  same xs e =
      ap (λ ys. built ys (G.sent ++ []) (G.proposed ++ [])) e
      ∙ (ap (λ sent. built cards sent (G.proposed ++ [])) (append-nil G.sent) ∙ ap (built cards G.sent) (append-nil G.proposed))

  module _ (m : Meaning R) (here : slice_get G.cards (seat_of c) ≡ Some m) where
    -- a call that orders
    ordered_is : (x : Step)
        → orders (noted G c (set G.cards (seat_of c) (with_replica m (state_after m.replica x))) (Ordered (answer_of x))) ≡ order.stepped (orders G) c x
    ordered_is (Ok x) =
        ap (λ ys. built ys (G.sent ++ one_of x.1) (G.proposed ++ one_of (asked_by c))) (map-set replica_of G.cards (seat_of c) (with_replica m x.0))
    ordered_is (Err refusal) =
        same (map replica_of (set G.cards (seat_of c) (with_replica m m.replica)))
        (map-set replica_of G.cards (seat_of c) (with_replica m m.replica)
        ∙ set_same cards (seat_of c) m.replica (nth_map replica_of G.cards (seat_of c) m here))

called_on : (R : Rule) (G : Group R) (c : Call) (m : Meaning R) → slice_get G.cards (seat_of c) ≡ Some m
    → orders (noted G c (cards_on R G.cards G.sent c (Some m)) (answer_on R G.cards G.sent c (Some m)))
    ≡ order.called_on_card (orders G) c (Some m.replica)
called_on R G (call.Propose seat x) m here = ordered_is R G (call.Propose seat x) m here (step_of m.replica G.sent (call.Propose seat x))
called_on R G (call.Deliver seat k) m here = ordered_is R G (call.Deliver seat k) m here (step_of m.replica G.sent (call.Deliver seat k))
called_on R G (call.Settle seat log i) m here = ordered_is R G (call.Settle seat log i) m here (step_of m.replica G.sent (call.Settle seat log i))
called_on R G (call.Takeover seat log i) m here = ordered_is R G (call.Takeover seat log i) m here (step_of m.replica G.sent (call.Takeover seat log i))
called_on R G (call.Run seat) m here =
    ap (λ cards. built cards (G.sent ++ []) (G.proposed ++ []))
    (map-set replica_of G.cards seat (ran R m).0 ∙ ap (set (map replica_of G.cards) seat) (ran_orders R m))

pub orders_called : (R : Rule) (G : Group R) (c : Call) → orders (called R G c) ≡ order.called (orders G) c
orders_called R G c = by (slice_get G.cards (seat_of c)) refl
  where
    by : (o : Option (Meaning R)) → slice_get G.cards (seat_of c) ≡ o
        → orders (noted G c (cards_on R G.cards G.sent c o) (answer_on R G.cards G.sent c o)) ≡ order.called (orders G) c
    by None q =
        same R G c (map replica_of G.cards) refl ∙ ap (order.called_on_card (orders G) c) (sym (nth_map_none replica_of G.cards (seat_of c) q))
    by (Some m) q = called_on R G c m q ∙ ap (order.called_on_card (orders G) c) (sym (nth_map replica_of G.cards (seat_of c) m q))

pub orders_after : (R : Rule) (cs : List Call) (G : Group R) → orders (after R G cs) ≡ order.after (orders G) cs
orders_after R [] G = refl
orders_after R (c ∷ cs) G = orders_after R cs (called R G c) ∙ ap (λ K. order.after K cs) (orders_called R G c)
