-- New cards in their seats make a new group.
use Rattle.std.proofs.Common.{◌≡◌, ℕ, zero, suc, ◌+◌, ◌<◌, true, ◌⊎◌, List, [], ◌∷◌, ◌++◌, map, length, Some, Option, sym, refl, ap, ◌∙◌, subst, inl, inr, append-nil, arith, length-append}
use mathlib.Core.List.{map-append}
use Rattle.std.specs.List.{slice_get}
use Rattle.std.proofs.lemmas.List.{length-map}
use Rattle.std.proofs.lemmas.Bool.Decides.{nat_tests}
use Rattle.machine.specs.declared.rule.Machine.{Ghosts}
use Rattle.card.specs.Groups.{is_group}
use Rattle.fitted.specs.declared.make.NotMade.{NotMade}
use Rattle.fitted.specs.declared.make.NotMade.TheVariants.{Refused, NoMemory}
use Rattle.fitted.specs.Makes.{new_meaning}
use Rattle.cabinets.specs.declared.seat.Make.{Make}
use Rattle.cabinets.specs.Groups.{Group, New}
use Rattle.cabinets.specs.Makes.{Seat, makes, seated, cards_of}
use Rattle.cabinets.specs.New.{group_size, start_of, NotMadeFor, Fitted}

pub group_seat : (n seat : ℕ) → is_group n 0 ≡ true → seat < n → is_group n seat ≡ true
group_seat n seat ok l = grind (arith, nat_tests)

nth_before : {X : Type 0} (xs ys : List X) (k : ℕ) (x : X) → slice_get xs k ≡ Some x → slice_get (xs ++ ys) k ≡ Some x
nth_before [] ys k x e = absurd (grind arith)
nth_before (y ∷ xs) ys zero x e = e
nth_before (y ∷ xs) ys (suc k) x e = nth_before xs ys k x e

nth_last : {X : Type 0} (xs : List X) (x : X) → slice_get (xs ++ (x ∷ [])) (length xs) ≡ Some x
nth_last [] x = refl
nth_last (y ∷ xs) x = nth_last xs x

nth_more : {X : Type 0} (xs : List X) (y x : X) (k : ℕ) → slice_get (xs ++ (y ∷ [])) k ≡ Some x → (slice_get xs k ≡ Some x) ⊎ ((k ≡ length xs) × (y ≡ x))
nth_more [] y x zero e = inr (refl, grind arith)
nth_more [] y x (suc k) e = absurd (grind arith)
nth_more (z ∷ xs) y x zero e = inl e
nth_more (z ∷ xs) y x (suc k) e = elim (nth_more xs y x k e) [ inl h ↦ inl h | inr h ↦ inr (ap suc h.0, h.1) ]

module _ {A B : Type 0} (a : Ghosts A) (b : Ghosts B) (n : ℕ) where
  pub fitted_none : (seats : List (Seat A B)) → seats ≡ [] → Fitted a b n [] seats
  fitted_none seats e = (ap length e, λ seat m at. absurd (grind arith))

  -- in a seat of the group only memory can be wanting
  pub refused_none : (seat : ℕ) (why : NotMade) → is_group n seat ≡ true → NotMadeFor a b n seat why → why ≡ NoMemory
  refused_none seat (Refused f) ok w = absurd (let e = w.0 in grind arith)
  refused_none seat NoMemory ok w = refl

  -- one more card, in the next seat
  fitted_more : (done : List (Make A B)) (seats seats' : List (Seat A B)) (m : Make A B) (s : Seat A B) → Fitted a b n done seats
      → (ok : is_group n (length done) ≡ true) → seated a b s ≡ new_meaning (makes a b) n (length done) ok (start_of a b m)
      → seats' ≡ seats ++ (s ∷ [])
      → Fitted a b n (done ++ (m ∷ [])) seats'
  fitted_more done seats seats' m s fit ok new grown = (
    ap length grown ∙ (length-append seats (s ∷ []) ∙ (ap (λ k. k + 1) fit.0 ∙ sym (length-append done (m ∷ [])))),
    λ k d at. elim (nth_more done m d k at) [
      | inl before ↦
          let w = fit.1 k d before in
          (w.0, ap (λ l. slice_get (cards_of a b l) k) grown ∙ (ap (λ l. slice_get l k) (map-append (seated a b) seats (s ∷ [])) ∙ nth_before (cards_of a b seats) (cards_of a b (s ∷ [])) k _ w.1))
      | inr here ↦
          let size : length (cards_of a b seats) ≡ k = length-map seats (seated a b) ∙ (fit.0 ∙ sym here.0) in
          subst (λ j. (o : is_group n j ≡ true) × (slice_get (cards_of a b seats') j ≡ Some (new_meaning (makes a b) n j o (start_of a b d)))) (sym here.0) (
            ok,
            ap (λ l. slice_get (cards_of a b l) (length done)) grown
                ∙ (ap (λ l. slice_get l (length done)) (map-append (seated a b) seats (s ∷ []))
                ∙ (ap (slice_get (cards_of a b seats ++ (seated a b s ∷ []))) (here_is here.0 size)
                ∙ (nth_last (cards_of a b seats) (seated a b s) ∙ ap Some (new ∙ ap (λ x. new_meaning (makes a b) n (length done) ok (start_of a b x)) here.1)))),
          )
    ],
  )
    where
      here_is : {j k : ℕ} → j ≡ length done → k ≡ j → length done ≡ k
      here_is p q = sym (q ∙ p)

  pub fitted_next : (done : List (Make A B)) (seats seats' : List (Seat A B)) (m : Make A B) (s : Seat A B) (seat : ℕ) → seat ≡ length done → Fitted a b n done seats
      → (ok : is_group n seat ≡ true) × (seated a b s ≡ new_meaning (makes a b) n seat ok (start_of a b m))
      → seats' ≡ seats ++ (s ∷ [])
      → Fitted a b n (done ++ (m ∷ [])) seats'
  fitted_next done seats seats' m s seat e fit made grown =
      let w = subst (λ k. (ok : is_group n k ≡ true) × (seated a b s ≡ new_meaning (makes a b) n k ok (start_of a b m))) e made in
      fitted_more done seats seats' m s fit w.0 w.1 grown

  -- all of them
  pub all_fitted : (machines done rest : List (Make A B)) (seats : List (Seat A B)) → done ++ rest ≡ machines → length rest ≡ 0 → Fitted a b n done seats
      → Fitted a b n machines seats
  all_fitted machines done [] seats e l fit = subst (λ ms. Fitted a b n ms seats) (sym (append-nil done) ∙ e) fit
  all_fitted machines done (m ∷ rest) seats e l fit = absurd (omega arith)

  -- a new group
  pub fitted_new : (machines : List (Make A B)) (seats : List (Seat A B)) (G : Group (makes a b)) → is_group n 0 ≡ true → length machines ≡ n
      → Fitted a b n machines seats → G.cards ≡ cards_of a b seats → G.sent ≡ [] → G.proposed ≡ [] → G.ran ≡ []
      → New (makes a b) n (map (start_of a b) machines) G
  fitted_new machines seats G ok size fit cards sent proposed ran =
      record {
        sized = ok;
        size = ap length cards ∙ (length-map seats (seated a b) ∙ (fit.0 ∙ size));
        machines = length-map machines (start_of a b) ∙ size;
        cards = λ seat x from.
            let w = back machines seat x from in
            let c = fit.1 seat w.0 w.1 in
            (c.0, ap (λ l. slice_get l seat) cards ∙ (c.1 ∙ ap (λ y. Some (new_meaning (makes a b) n seat c.0 y)) w.2));
        sent = sent;
        proposed = proposed;
        ran = ran;
      }
    where
      back : (ms : List (Make A B)) (k : ℕ) (x : (makes a b).State) → slice_get (map (start_of a b) ms) k ≡ Some x
          → (m : Make A B) × (slice_get ms k ≡ Some m) × (start_of a b m ≡ x)
      back [] k x e = absurd (grind arith)
      back (m ∷ ms) zero x e = (m, refl, grind arith)
      back (m ∷ ms) (suc k) x e = back ms k x e

-- as many as there are machines
pub group_sized : (k n : ℕ) → ◌≡◌ {A = Option ℕ} (Some n) (group_size k) → (n ≡ k) × (is_group n 0 ≡ true)
group_sized k n e = (grind (arith, nat_tests), grind (arith, nat_tests))
