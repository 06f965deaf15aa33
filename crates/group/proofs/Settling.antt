-- A majority of the answers does not exceed the dependency that they settle on, and it is the smallest such answer.
use Rattle.std.proofs.Common.{◌≡◌, ℕ, zero, suc, ◌≤◌, true, ltb, ◌⊎◌, List, [], ◌∷◌, Some, None, Option, refl, inl, inr, arith}
use Rattle.std.proofs.lemmas.Bool.{cases_Bool}
use Rattle.std.proofs.lemmas.Bool.Decides.{nat_tests}
use Rattle.std.specs.List.{count_by, fold}
use Rattle.entry.specs.declared.answers.Answer.{Answer}
use Rattle.entry.specs.declared.answers.Answer.TheVariants.{Vote, Reply}
use Rattle.entry.specs.Answers.{is_answer, is_within, is_enough, smaller_of, better_of, settled}
use Rattle.group.specs.Settlements.{Given, Low, AnswersSettle}
use Rattle.group.proofs.Counting.{count_by-cons}

within_128 : (a : Option Answer) → ((d : ℕ) → (a ≡ Some (Vote d)) ⊎ (a ≡ Some (Reply d)) → d ≤ 128) → is_within 128 a ≡ is_answer a
within_128 None l = refl
within_128 (Some (Vote d)) l = let h = l d (inl refl) in grind (arith, nat_tests)
within_128 (Some (Reply d)) l = let h = l d (inr refl) in grind (arith, nat_tests)

-- 128 exceeds no answer
all_within : (xs : List (Option Answer)) → Low xs → count_by (is_within 128) xs ≡ count_by is_answer xs
all_within [] l = refl
all_within (a ∷ xs) l =
    rw (count_by-cons (is_within 128) a xs, count_by-cons is_answer a xs, within_128 a (λ d e. l d (0, e)), all_within xs (λ d g. l d (suc g.0, g.1)))

module _ (all : List (Option Answer)) (n : ℕ) where
  smaller_enough : (best d : ℕ) → is_enough all n best ≡ true → is_enough all n (smaller_of all n best d) ≡ true
  smaller_enough best d e =
      elim (cases_Bool (ltb d best)) [
        | inl t ↦ elim (cases_Bool (is_enough all n d)) [ inl u ↦ rw (t, u) u | inr u ↦ rw (t, u) e ]
        | inr t ↦ rw t e
      ]

  best_enough : (best : ℕ) (rest : List (Option Answer)) → is_enough all n best ≡ true → is_enough all n (fold (better_of all n) best rest) ≡ true
  best_enough best [] e = e
  best_enough best (None ∷ rest) e = best_enough best rest e
  best_enough best (Some (Vote d) ∷ rest) e = best_enough (smaller_of all n best d) rest (smaller_enough best d e)
  best_enough best (Some (Reply d) ∷ rest) e = best_enough (smaller_of all n best d) rest (smaller_enough best d e)

  smaller_low : (best d : ℕ) → smaller_of all n best d ≤ best
  smaller_low best d =
      elim (cases_Bool (ltb d best)) [
        | inl t ↦ elim (cases_Bool (is_enough all n d)) [ inl u ↦ rw (t, u) (grind (arith, nat_tests)) | inr u ↦ rw (t, u) (omega arith) ]
        | inr t ↦ rw t (omega arith)
      ]

  smaller_least : (best d : ℕ) → is_enough all n d ≡ true → smaller_of all n best d ≤ d
  smaller_least best d u =
      elim (cases_Bool (ltb d best)) [ inl t ↦ rw (t, u) (omega arith) | inr t ↦ rw t (grind (arith, nat_tests)) ]

  -- the search only goes down
  best_low : (best : ℕ) (rest : List (Option Answer)) → fold (better_of all n) best rest ≤ best
  best_low best [] = omega arith
  best_low best (None ∷ rest) = best_low best rest
  best_low best (Some (Vote d) ∷ rest) = let a = best_low (smaller_of all n best d) rest in let b = smaller_low best d in omega arith
  best_low best (Some (Reply d) ∷ rest) = let a = best_low (smaller_of all n best d) rest in let b = smaller_low best d in omega arith

  -- and past no answer that a majority does not exceed
  best_least : (best : ℕ) (rest : List (Option Answer)) (d : ℕ) → Given rest d → is_enough all n d ≡ true → fold (better_of all n) best rest ≤ d
  best_least best [] d g u = absurd (grind arith)
  best_least best (a ∷ rest) d (zero, inl e) u =
      rw e (let x = best_low (smaller_of all n best d) rest in let y = smaller_least best d u in omega arith)
  best_least best (a ∷ rest) d (zero, inr e) u =
      rw e (let x = best_low (smaller_of all n best d) rest in let y = smaller_least best d u in omega arith)
  best_least best (None ∷ rest) d (suc k, e) u = best_least best rest d (k, e) u
  best_least best (Some (Vote x) ∷ rest) d (suc k, e) u = best_least (smaller_of all n best x) rest d (k, e) u
  best_least best (Some (Reply x) ∷ rest) d (suc k, e) u = best_least (smaller_of all n best x) rest d (k, e) u

pub answers_settle : AnswersSettle
unfolding settled
answers_settle n answers low enough =
    let start : is_enough answers n 128 ≡ true = rw (all_within answers low) (grind (arith, nat_tests)) in
    let end = best_enough answers n 128 answers start in
    record {
      supported = grind (arith, nat_tests, end);
      least = λ d g s. best_least answers n 128 answers d g (grind (arith, nat_tests));
    }

-- no dependency exceeds 128, nor does the settled one
pub settled_low : (xs : List (Option Answer)) (n : ℕ) → settled xs n ≤ 128
unfolding settled
settled_low xs n = best_low xs n 128 xs
