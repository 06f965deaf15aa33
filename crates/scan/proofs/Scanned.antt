-- One step of the search from the front, and where the search from the back stops.
use Rattle.std.proofs.Common.{◌≡◌, ℕ, zero, suc, ◌+◌, ◌-◌, ◌<◌, ◌≤◌, Bool, true, false, cond, List, [], ◌∷◌, length, get_or, drop, Bor, Option, Some, None, IfSome, sym, subst, ◌∙◌, arith}
use Rattle.std.proofs.lemmas.List.{at_drop_more}
use Rattle.std.proofs.lemmas.Bool.Decides.{nat_tests}
use Rattle.std.specs.Option.{MatchOption, IsSomeAnd, option_map}
use Rattle.std.specs.List.{position_from}
use Rattle.scan.specs.Scans.{highest_of}

module _ {X : Type 0} (p : X → Bool) where
  module _ (xs : List X) (i : ℕ) (x : X) (h : i < length xs) (e : x ≡ get_or xs i x) (b : Bool) (t : b ≡ p x) where
    pub first_more : position_from p i (drop i xs) ≡ cond b (Some i) (position_from p (i + 1) (drop (i + 1) xs))
    first_more = at_drop_more (position_from p i) xs i x h ∙ rw (← e, t)

  -- item n - 1 passes, and none from n on
  highest_is : (xs : List X) (n : ℕ) → n ≤ length xs → ((k : ℕ) (d : X) → k + 1 ≡ n → p (get_or xs k d) ≡ true) → ((k : ℕ) (d : X) → n ≤ k → k < length xs → p (get_or xs k d) ≡ false)
      → highest_of p xs ≡ n
  highest_is [] n h passes fails = omega arith
  highest_is (x ∷ xs) zero h passes fails =
      let ih = highest_is xs 0 (omega arith) (λ k d e. absurd (omega arith)) (λ k d a b. fails (suc k) d (omega arith) (omega arith)) in
      let here : p x ≡ false = fails 0 x (omega arith) (omega arith) in
      grind (arith, nat_tests)
  highest_is (x ∷ xs) (suc zero) h passes fails =
      let ih = highest_is xs 0 (omega arith) (λ k d e. absurd (omega arith)) (λ k d a b. fails (suc k) d (omega arith) (omega arith)) in
      let here : p x ≡ true = passes 0 x (omega arith) in
      grind (arith, nat_tests)
  highest_is (x ∷ xs) (suc (suc n)) h passes fails =
      let ih = highest_is xs (suc n) (omega arith) (λ k d e. passes (suc k) d (omega arith)) (λ k d a b. fails (suc k) d (omega arith) (omega arith)) in
      grind (arith, nat_tests)

  if_some : (o : Option (Bor X)) (Says : Bor X → Type 0) → IsSomeAnd o Says → IfSome o Says
  if_some None Says s = tt
  if_some (Some x) Says s = s

  answered : (o : Option (Bor X)) (y : X) (b : Bool) (Says : Bor X → Type 0) → ((x : Bor X) → Says x → b ≡ p x.now) → option_map (λ x. x.now) o ≡ Some y → IfSome o Says → p y ≡ b
  answered None y b Says says e s = grind arith
  answered (Some x) y b Says says e s = let t = says x s in grind arith

  -- where `at` reads xs from the back: the search goes through all of xs, or stops at place i
  module _ (xs : List X) (len : ℕ) (at : ℕ → Option (Bor X)) (back : (k : ℕ) (d : X) → k < length xs → length xs - 1 - k < len → option_map (λ x. x.now) (at (length xs - 1 - k)) ≡ Some (get_or xs k d))
      (Fails : Bor X → Type 0) (fails : (x : Bor X) → Fails x → false ≡ p x.now) where
    pub highest_none : len ≡ length xs → ((k : ℕ) → IfSome (at k) Fails) → highest_of p xs ≡ 0
    highest_none all h = highest_is xs 0 (omega arith) (λ k d e. absurd (omega arith)) (λ k d a b. answered (at (length xs - 1 - k)) (get_or xs k d) false Fails fails (back k d b (omega arith)) (h (length xs - 1 - k)))

    highest_at : (Passes : Bor X → Type 0) → ((x : Bor X) → Passes x → true ≡ p x.now) → (i : ℕ) → i < length xs → i + len ≡ length xs
        → IsSomeAnd (at (length xs - 1 - i)) Passes → ((k : ℕ) → k < length xs - 1 - i → IsSomeAnd (at k) Fails) → highest_of p xs ≡ i + 1
    highest_at Passes passes i below stops h before =
        highest_is xs (i + 1) (omega arith)
        (λ k d e. let is : k ≡ i = omega arith in rw is (answered (at (length xs - 1 - i)) (get_or xs i d) true Passes passes (back i d below (omega arith)) (if_some (at (length xs - 1 - i)) Passes h)))
        (λ k d a b. answered (at (length xs - 1 - k)) (get_or xs k d) false Fails fails (back k d b (omega arith)) (if_some (at (length xs - 1 - k)) Fails (before (length xs - 1 - k) (omega arith))))

    pub highest_some : (Passes : Bor X → Type 0) → ((x : Bor X) → Passes x → true ≡ p x.now) → (n i : ℕ) → n ≡ length xs → i < n → i + len ≡ n
        → IsSomeAnd (at (n - 1 - i)) Passes → ((k : ℕ) → k < n - 1 - i → IsSomeAnd (at k) Fails) → highest_of p xs ≡ i + 1
    highest_some Passes passes n i e = subst (λ n. i < n → i + len ≡ n → IsSomeAnd (at (n - 1 - i)) Passes → ((k : ℕ) → k < n - 1 - i → IsSomeAnd (at k) Fails) → highest_of p xs ≡ i + 1) (sym e) (highest_at Passes passes i)

  -- the answer, from what it is where there is no last place, and where there is one
  pub highest_answer : (xs : List X) (n : ℕ) (r : Option ℕ) (answer : ℕ) (None-is : Type 0) (Some-is : ℕ → Type 0) → MatchOption r (answer ≡ 0) (λ i. answer ≡ i + 1) → IfSome r (λ i. i < n) → MatchOption r None-is Some-is
      → (None-is → highest_of p xs ≡ 0) → ((i : ℕ) → i < n → Some-is i → highest_of p xs ≡ i + 1) → answer ≡ highest_of p xs
  highest_answer xs n None answer None-is Some-is e below w none some = e ∙ sym (none w)
  highest_answer xs n (Some i) answer None-is Some-is e below w none some = e ∙ sym (some i below w)
