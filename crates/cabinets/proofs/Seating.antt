-- The card of one seat answers as a card over a machine of either make.
use Rattle.std.proofs.Common.{◌≡◌, ℕ, ◌<◌, ◌≤◌, Bool, true, false, cond, List, [], ◌∷◌, ◌++◌, map, length, get_or, set, Some, None, sym, refl, ap, ◌∙◌, inl, inr}
use Rattle.std.specs.List.{slice_get}
use Rattle.std.proofs.lemmas.List.{map-set}
use Rattle.std.proofs.lemmas.Option.{slice_get-get_or, slice_get_past}
use Rattle.command.specs.declared.Command.{Command}
use Rattle.block.specs.declared.message.Message.{Message}
use Rattle.block.specs.declared.message.Value.{Value}
use Rattle.block.specs.declared.message.Value.TheVariants as value
use Rattle.machine.specs.OneRules.{OneRule}
use Rattle.machine.specs.Onces.{known, full}
use Rattle.machine.specs.Rules.{Rule, Pair}
use Rattle.fitted.specs.declared.fitting.Passed.{Passed}
use Rattle.fitted.specs.declared.run.Next.{Next}
use Rattle.fitted.specs.declared.run.Next.TheVariants as next
use Rattle.fitted.specs.declared.run.Run.{Run}
use Rattle.fitted.specs.declared.run.Run.TheVariants.{Repeat, NoPlace, Ran}
use Rattle.fitted.specs.Meanings.{Meaning}
use Rattle.fitted.specs.Nexts as nexts
use Rattle.fitted.specs.Runs.{past, running, passing, ran_by, ran}
use Rattle.group.specs.declared.calls.Call.{Call}
use Rattle.group.specs.declared.calls.Call.TheVariants as call
use Rattle.group.specs.Groups.{seat_of}
use Rattle.cabinets.specs.declared.answer.Answer.{Answer}
use Rattle.cabinets.specs.declared.answer.Answer.TheVariants as answer
use Rattle.cabinets.specs.Groups.{card_after, answer_from, cards_on, answer_on, cards_after, answered}
use Rattle.cabinets.specs.Makes.{either}
use Rattle.cabinets.proofs.Ordering.{nth_map, nth_map_none}

-- each make is of one rule with machines of either
abbrev pub first_make : (A B : Rule) → OneRule A (either A B)
first_make A B = record { to = inl; first = λ s f. f; bays = λ s. refl; next = λ s c. refl; answer = λ s c. refl }

abbrev pub second_make : (A B : Rule) → OneRule B (either A B)
second_make A B = record { to = inr; first = λ s f. f; bays = λ s. refl; next = λ s c. refl; answer = λ s c. refl }

module _ {R S : Rule} (a : OneRule R S) where
  -- a card over a machine of the one rule, as one over the other
  abbrev pub carried : Meaning R → Meaning S
  carried m = record { replica = m.replica; passed = m.passed; state = a.to m.state; kept = m.kept }

  abbrev both : Meaning R × Run → Meaning S × Run
  both y = (carried y.0, y.1)

  module _ (m : Meaning R) where
    abbrev new : Passed → Command → S.State → Pair → Meaning S × Run
    new p c s y = (record { replica = m.replica; passed = p; state = s; kept = m.kept ++ (c.identity ∷ []) }, Ran c y.0 y.1)

    carried_running : (p : Passed) (c : Command) → both (running R m p c) ≡ running S (carried m) p c
    carried_running p c = by (known m.kept c.identity) (full m.kept)
      where
        by : (k f : Bool)
            → both (cond k (past m p, Repeat) (cond f (m, NoPlace) (record { replica = m.replica; passed = p; state = R.next m.state c; kept = m.kept ++ (c.identity ∷ []) }, Ran c (R.answer m.state c).0 (R.answer m.state c).1)))
            ≡ cond k (past (carried m) p, Repeat) (cond f (carried m, NoPlace) (record { replica = m.replica; passed = p; state = S.next (a.to m.state) c; kept = m.kept ++ (c.identity ∷ []) }, Ran c (S.answer (a.to m.state) c).0 (S.answer (a.to m.state) c).1))
        by true f = refl
        by false true = refl
        by false false = ap (λ s. new p c s (R.answer m.state c)) (a.next m.state c) ∙ ap (new p c (S.next (a.to m.state) c)) (a.answer m.state c)

    carried_passing : (p : Passed) (v : Value) → both (passing R m p v) ≡ passing S (carried m) p v
    carried_passing p value.Nothing = refl
    carried_passing p value.Noop = refl
    carried_passing p (value.Command c) = carried_running p c

    carried_by_lem : (n : Next) → both (ran_by R m n) ≡ ran_by S (carried m) n
    carried_by_lem (next.Passes log v) = carried_passing _ v
    carried_by_lem (next.Waits e) = refl

    carried_ran : both (ran R m) ≡ ran S (carried m)
    carried_ran = carried_by_lem (nexts.next m.replica m.passed)

    pub carried_after : (sent : List Message) (c : Call) → carried (card_after R m sent c) ≡ card_after S (carried m) sent c
    carried_after sent (call.Propose seat x) = refl
    carried_after sent (call.Deliver seat k) = refl
    carried_after sent (call.Settle seat log i) = refl
    carried_after sent (call.Takeover seat log i) = refl
    carried_after sent (call.Run seat) = ap (λ y. y.0) carried_ran

    pub carried_answer : (sent : List Message) (c : Call) → answer_from R m sent c ≡ answer_from S (carried m) sent c
    carried_answer sent (call.Propose seat x) = refl
    carried_answer sent (call.Deliver seat k) = refl
    carried_answer sent (call.Settle seat log i) = refl
    carried_answer sent (call.Takeover seat log i) = refl
    carried_answer sent (call.Run seat) = ap (λ y. answer.Ran y.1) carried_ran

-- what stands in the seats, each seen as a card by f
module _ {X : Type 0} (Q : Rule) (f : X → Meaning Q) (xs : List X) (sent : List Message) (c : Call) (k : ℕ) (here : k ≡ seat_of c) where
  pub record Performed (ys : List X) (r : Answer) : Type 0 where
    pub cards : map f ys ≡ cards_after Q (map f xs) sent c
    pub answer : r ≡ answered Q (map f xs) sent c

  -- the card of the seat answers, and stands there again
  pub performed : (x y d : X) (r : Answer) → k < length xs → get_or xs k d ≡ x → f y ≡ card_after Q (f x) sent c → r ≡ answer_from Q (f x) sent c
      → Performed (set xs k y) r
  performed x y d r within is went said =
      let at : slice_get (map f xs) (seat_of c) ≡ Some (f x) = ap (slice_get (map f xs)) (sym here) ∙ nth_map f xs k x (slice_get-get_or xs k d within ∙ ap Some is) in
      record {
        cards = map-set f xs k y ∙ (ap (λ j. set (map f xs) j (f y)) here ∙ (ap (set (map f xs) (seat_of c)) went ∙ ap (cards_on Q (map f xs) sent c) (sym at)));
        answer = said ∙ ap (answer_on Q (map f xs) sent c) (sym at);
      }

  -- there is no such seat
  pub passed_by : length xs ≤ k → Performed xs answer.NoSuchSeat
  passed_by past_all =
      let at : slice_get (map f xs) (seat_of c) ≡ None = ap (slice_get (map f xs)) (sym here) ∙ nth_map_none f xs k (slice_get_past xs k past_all) in
      record { cards = ap (cards_on Q (map f xs) sent c) (sym at); answer = ap (answer_on Q (map f xs) sent c) (sym at) }
