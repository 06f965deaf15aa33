-- Counting the seats of a list, and counting seats by their numbers.
use Rattle.std.proofs.Common.{◌≡◌, ℕ, zero, suc, ◌+◌, ◌-◌, ◌<◌, ◌≤◌, Bool, false, cond, List, [], ◌∷◌, length, get_or, set, sym, refl, ap, ◌∙◌, inl, inr, arith, length-set}
use Rattle.std.proofs.lemmas.List.{get_or-set_same, get_or-set_other}
use Rattle.std.proofs.lemmas.Bool.{cases_eq}
use Rattle.std.proofs.lemmas.List.Sums.{sum_by-cons}
use Rattle.column.specs.Cells.{Puts}
use Rattle.std.proofs.lemmas.Bool.Decides.{nat_tests}
use Rattle.agreement.specs.Quorums.{count}
use Rattle.std.specs.List.{count_by}
use Rattle.group.specs.Standing.{Seated}

pub count_by-cons : {X : Type 0} (p : X → Bool) (x : X) (xs : List X) → count_by p (x ∷ xs) ≡ cond (p x) 1 0 + count_by p xs
count_by-cons p x xs = sum_by-cons (λ y. cond (p y) 1 0) x xs

-- one seat more in front
count_front : (p : ℕ → Bool) (k : ℕ) → count p (suc k) ≡ cond (p 0) 1 0 + count (λ c. p (suc c)) k
count_front p zero = grind (arith, nat_tests)
count_front p (suc k) = let ih = count_front p k in grind (arith, nat_tests)

module _ {X : Type 0} (p : X → Bool) (d : X) where
  -- the items of a list that pass are the seats whose item passes
  count_list : (xs : List X) → count (λ c. p (get_or xs c d)) (length xs) ≡ count_by p xs
  count_list [] = refl
  count_list (x ∷ xs) = count_front (λ c. p (get_or (x ∷ xs) c d)) (length xs) ∙ (ap (λ k. cond (p x) 1 0 + k) (count_list xs) ∙ sym (count_by-cons p x xs))

-- seats that are not in the set do not count
count_past : (p : ℕ → Bool) (n j : ℕ) → ((c : ℕ) → n ≤ c → p c ≡ false) → count p (n + j) ≡ count p n
count_past p n zero out = ap (count p) (omega arith)
count_past p n (suc j) out =
    let e : n + suc j ≡ suc (n + j) = omega arith in
    let o = out (n + j) (omega arith) in
    ap (count p) e ∙ (rw o (count_past p n j out))

-- in a list with a place for each seat of the group, a test that fails where there is nothing counts the seats of the group
pub count_seated : {X : Type 0} (p : X → Bool) (none : X) (n : ℕ) (xs : List X) → n ≤ 7 → p none ≡ false → Seated n none xs
    → count (λ c. p (get_or xs c none)) n ≡ count_by p xs
count_seated p none n xs few off seated =
    let q : ℕ → Bool = λ c. p (get_or xs c none) in
    let all : count q (n + (7 - n)) ≡ count q n = count_past q n (7 - n) (λ c h. rw (seated.group c h) off) in
    let seven : n + (7 - n) ≡ length xs = omega (arith, seated.seven) in
    sym all ∙ (ap (count q) seven ∙ count_list p none xs)

-- tests that agree count alike
pub counted_alike : {X : Type 0} (p q : X → Bool) (xs : List X) → ((x : X) → p x ≡ q x) → count_by p xs ≡ count_by q xs
counted_alike p q [] same = refl
counted_alike p q (x ∷ xs) same = rw (count_by-cons p x xs, count_by-cons q x xs, same x, counted_alike p q xs same)

pub count_alike : (p q : ℕ → Bool) (n : ℕ) → ((c : ℕ) → p c ≡ q c) → count p n ≡ count q n
count_alike p q zero same = refl
count_alike p q (suc n) same = rw (same n, count_alike p q n same)

-- one seat of the group more
pub seated_more : {X : Type 0} (n c : ℕ) (none x : X) (xs : List X) → c < n → Seated n none xs → Seated n none (set xs c x)
seated_more n c none x xs h s =
    record {
      seven = length-set xs c x ∙ s.seven;
      group = λ k l. get_or-set_other xs c k x none (λ e. omega arith) ∙ s.group k l;
    }

-- the list with one place changed, seen through a function
pub puts_one : {X Y : Type 0} (h : X → Y) (none x : X) (xs : List X) (c : ℕ) → c < length xs
    → Puts (λ k. h (get_or xs k none)) c (h x) (λ k. h (get_or (set xs c x) k none))
puts_one h none x xs c l k = elim (cases_eq k c) [
  | inl same ↦ inr (same, ap (λ j. h (get_or (set xs c x) j none)) same ∙ ap h (get_or-set_same xs c x none l))
  | inr ne ↦ inl (ap h (get_or-set_other xs c k x none ne))
]
