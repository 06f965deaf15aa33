-- Every call takes a sound group to a sound group.
use Rattle.std.proofs.Common.{◌≡◌, ℕ, ◌<◌, ◌≤◌, true, List, [], ◌∷◌, ◌++◌, map, set, Some, None, Ok, Err, Option, sym, refl, ap, ◌∙◌, subst, inl, inr, append-nil, arith}
use mathlib.Core.Option.{some}
use Rattle.std.proofs.lemmas.Bool.{cases_Bool}
use Rattle.std.proofs.lemmas.Bool.Decides.{nat_tests}
use Rattle.std.proofs.lemmas.List.{set-get_or}
use Rattle.std.proofs.lemmas.Option.{same_Some, get_or_from_slice_get}
use Rattle.std.specs.List.{slice_get}
use Rattle.command.specs.declared.Command.{Command}
use Rattle.agreement.specs.Lists.{In}
use Rattle.agreement.proofs.Lists.{in_left, in_right}
use Rattle.block.specs.declared.message.Message.{Message}
use Rattle.block.specs.declared.fault.Fault.{Fault}
use Rattle.block.specs.Verdicts.{message_fault, range_fault, misfit_fault, or_else}
use Rattle.block.specs.Messages.{message_words}
use Rattle.block.specs.Valid.{Valid}
use Rattle.block.specs.Ballots.{holder_of}
use Rattle.block.proofs.Validity.{valid}
use Rattle.column.specs.Cells.{Body.fast_accept}
use Rattle.column.specs.Cells as column
use Rattle.column.specs.Moves.{Later, Later.now, Later.then}
use Rattle.column.specs.Moves as moves
use Rattle.entry.specs.Quorums.{majority_of}
use Rattle.card.specs.declared.replica.Replica.{Replica}
use Rattle.card.specs.Steps.{Step}
use Rattle.card.specs.Messages.{fast_accept_message}
use Rattle.card.specs.Tables.{with_entry}
use Rattle.card.specs.Checks.{is_mine, is_from_peer}
use Rattle.card.specs.Proposing.{propose, next_entry, proposal_of}
use Rattle.card.specs.Settling.{settle}
use Rattle.card.specs.Taking.{takeover}
use Rattle.card.specs.Delivering.{turn, received}
use Rattle.group.specs.declared.calls.Call.{Call}
use Rattle.group.specs.declared.calls.Call.TheVariants.{Propose, Deliver, Settle, Takeover, Run}
use Rattle.group.specs.Groups.{Group, seat_of, asked_by, carried, delivered, stepped, called_on_card, called, after}
use Rattle.group.specs.Turns.{SeatedCard, TakesTurn}
use Rattle.group.specs.Views.{number_of, log_named, noted, body_of}
use Rattle.group.proofs.Passing.{proposed}
use Rattle.group.proofs.Called.{deliveries_turn, proposals, settlings, takeovers}
use Rattle.group.proofs.Keeping.{Whole, After, delivery_keeps, proposing_keeps, settling_keeps, takeover_keeps}
use Rattle.group.proofs.Saying.{Said, Told, settle_said, takeover_said, delivery_said}
use Rattle.group.proofs.Grouping.{Sound, GoesOn, stays_put, advance, quietly, at_in, seated, whole}

-- a place of a list that is set to what it holds
pub set_same : {X : Type 0} (xs : List X) (k : ℕ) (x : X) → slice_get xs k ≡ Some x → set xs k x ≡ xs
set_same xs k x e = ap (set xs k) (sym (get_or_from_slice_get xs k x x e)) ∙ set-get_or xs k x

-- moves after moves
joined : {n f : ℕ} {G H K : moves.Group} → Later n f number_of holder_of G H → Later n f number_of holder_of H K → Later n f number_of holder_of G K
joined a now = a
joined a (then b move) = then (joined a b) move

module _ (n f : ℕ) (fails : 0 < f) (few : n ≤ 7) (G : Group) (s : Sound n f G) where
  abbrev Goes : Call → Step → Type 0
  Goes c x = GoesOn n f fails few G (stepped G c x) s

  module _ (seat : ℕ) (r : Replica) (here : slice_get G.cards seat ≡ Some r) where
    abbrev S : List column.Message
    S = map noted G.sent

    abbrev place_of : SeatedCard f r
    place_of = seated n f fails few G s seat r here

    abbrev whole_of : Whole r.n r.seat r
    whole_of = whole n f fails few G s seat r here

    -- a call that proposes nothing and takes a turn, or is refused
    quiet_goes : (c : Call) → seat_of c ≡ seat → asked_by c ≡ None → (y : Step) (log i : ℕ)
        → ((x : Replica × Option Message) → y ≡ Ok x → TakesTurn f S r (log_named log) i x)
        → ((x : Replica × Option Message) → y ≡ Ok x → Whole r.n r.seat x.0)
        → ((x : Replica × Option Message) → y ≡ Ok x → Said r log i x.1)
        → Goes c y
    quiet_goes c mine silent (Err refused) log i turns keeps says = stays_put n f fails few G s
    quiet_goes c mine silent (Ok x) log i turns keeps says =
        rw (mine, silent) (quietly n f fails few G s seat r here x (log_named log) log i refl (turns x refl) (keeps x refl) (says x refl))

    settle_goes : (log i : ℕ) → Goes (Settle seat log i) (settle r log i)
    settle_goes log i =
        quiet_goes (Settle seat log i) refl refl (settle r log i) log i (settlings f r place_of S log i)
        (settling_keeps r place_of.few place_of.seat whole_of log i) (settle_said r log i)

    takeover_goes : (log i : ℕ) → Goes (Takeover seat log i) (takeover r log i)
    takeover_goes log i =
        quiet_goes (Takeover seat log i) refl refl (takeover r log i) log i (takeovers f r place_of S log i)
        (takeover_keeps r place_of.few place_of.seat whole_of log i) (takeover_said r log i)

    abbrev offered : Command → Replica × Option Message
    offered c = (with_entry r r.seat (next_entry r) (proposal_of r c), Some (fast_accept_message r.seat r.seat (next_entry r) (proposal_of r c)))

    offers : (c b : Command) (d : ℕ) → body_of (offered c).1 ≡ some (fast_accept b d) → In b (G.proposed ++ (c ∷ []))
    offers c b d w = in_right b G.proposed (c ∷ []) (inl (grind arith))

    propose_goes : (c : Command) → Goes (Propose seat c) (propose r c)
    propose_goes c = by (propose r c) refl
      where
        by : (y : Step) → propose r c ≡ y → Goes (Propose seat c) y
        by (Err refused) q = stays_put n f fails few G s
        by (Ok x) q =
            let z = (proposed r c x q).is in
            advance n f fails few G s seat r here x (G.proposed ++ (c ∷ [])) (log_named r.seat) r.seat (next_entry r) refl (proposals f r place_of S c x q)
            (proposing_keeps r place_of.few place_of.seat whole_of c x q)
            (subst (λ y. (m : Message) → y.1 ≡ Some m → (m.from ≡ r.seat) × (m.log ≡ r.seat) × (m.entry ≡ next_entry r)) z
            (λ m w. subst (λ k. (k.from ≡ r.seat) × (k.log ≡ r.seat) × (k.entry ≡ next_entry r)) (same_Some _ m w) (refl, refl, refl)))
            (subst (λ y. (b : Command) (d : ℕ) → body_of y.1 ≡ some (fast_accept b d) → In b (G.proposed ++ (c ∷ []))) z (offers c))
            (λ b. in_left b G.proposed (c ∷ []))

    -- a message that was sent, and that passes as a block
    module _ (m : Message) (k : ℕ) (sent : slice_get G.sent k ≡ Some m) (passes : message_fault m 512 ≡ None) where
      sound_message : Valid m
      sound_message = valid m (first (range_fault (message_words m)) passes) (second (range_fault (message_words m)) passes)
        where
          first : (o : Option Fault) → or_else o (misfit_fault (message_words m)) ≡ None → o ≡ None
          first None q = refl
          first (Some fault) q = absurd (grind arith)

          second : (o : Option Fault) → or_else o (misfit_fault (message_words m)) ≡ None → misfit_fault (message_words m) ≡ None
          second None q = q
          second (Some fault) q = absurd (grind arith)

      turn_goes : is_mine r m ≡ true → is_from_peer r m ≡ true → Goes (Deliver seat k) (turn r m)
      turn_goes mine peer =
          quiet_goes (Deliver seat k) refl refl (turn r m) m.log m.entry
          (deliveries_turn f r place_of S m sound_message (at_in noted G.sent k m sent) mine peer)
          (λ x q. subst (After r) q (delivery_keeps r place_of.few some_fail place_of.seat whole_of m sound_message from_seat))
          (λ x q. subst (Told r m.log m.entry) q (delivery_said r m))
        where
          from_seat : m.from < r.n
          from_seat = grind (arith, nat_tests)

          some_fail : 2 ≤ majority_of r.n
          some_fail = let a = place_of.size in let b = place_of.some_fail in grind arith

      received_goes : Goes (Deliver seat k) (received r (Ok m))
      received_goes = elim (cases_Bool (is_mine r m)) [
        | inl mine ↦ elim (cases_Bool (is_from_peer r m)) [
          | inl peer ↦ rw (mine, peer) (turn_goes mine peer)
          | inr stranger ↦ rw (mine, stranger) (stays_put n f fails few G s)
        ]
        | inr foreign ↦ rw foreign (stays_put n f fails few G s)
      ]

    fault_goes : (m : Message) (k : ℕ) → slice_get G.sent k ≡ Some m → (o : Option Fault) → message_fault m 512 ≡ o → Goes (Deliver seat k) (carried r m o)
    fault_goes m k sent None passes = received_goes m k sent passes
    fault_goes m k sent (Some fault) refused = stays_put n f fails few G s

    deliver_goes : (k : ℕ) → Goes (Deliver seat k) (delivered r (slice_get G.sent k))
    deliver_goes k = by (slice_get G.sent k) refl
      where
        by : (o : Option Message) → slice_get G.sent k ≡ o → Goes (Deliver seat k) (delivered r o)
        by None q = stays_put n f fails few G s
        by (Some m) q = fault_goes m k q (message_fault m 512) refl

  -- a run orders nothing
  run_goes : (seat : ℕ) (r : Replica) → slice_get G.cards seat ≡ Some r → Goes (Run seat) (Ok (r, None))
  run_goes seat r here =
      let same : G ≡ stepped G (Run seat) (Ok (r, None)) =
      ap (λ cards. record { cards = cards; sent = G.sent; proposed = G.proposed }) (sym (set_same G.cards seat r here))
      ∙ (ap (λ sent. record { cards = set G.cards seat r; sent = sent; proposed = G.proposed }) (sym (append-nil G.sent))
      ∙ ap (λ proposed. record { cards = set G.cards seat r; sent = G.sent ++ []; proposed = proposed }) (sym (append-nil G.proposed))) in
      subst (λ H. GoesOn n f fails few G H s) same (stays_put n f fails few G s)

  called_on : (c : Call) (o : Option Replica) → slice_get G.cards (seat_of c) ≡ o → GoesOn n f fails few G (called_on_card G c o) s
  called_on c None q = stays_put n f fails few G s
  called_on (Propose seat c) (Some r) q = propose_goes seat r q c
  called_on (Deliver seat k) (Some r) q = deliver_goes seat r q k
  called_on (Settle seat log i) (Some r) q = settle_goes seat r q log i
  called_on (Takeover seat log i) (Some r) q = takeover_goes seat r q log i
  called_on (Run seat) (Some r) q = run_goes seat r q

  pub call_goes : (c : Call) → GoesOn n f fails few G (called G c) s
  call_goes c = called_on c (slice_get G.cards (seat_of c)) refl

module _ (n f : ℕ) (fails : 0 < f) (few : n ≤ 7) where
  -- so does every list of calls
  pub calls_go : (cs : List Call) (G : Group) (s : Sound n f G) → GoesOn n f fails few G (after G cs) s
  calls_go [] G s = stays_put n f fails few G s
  calls_go (c ∷ cs) G s =
      let a = call_goes n f fails few G s c in
      let b = calls_go cs (called G c) a.sound in
      record { sound = b.sound; later = joined a.later b.later }
