-- The lowest place that does not pass.
use Rattle.std.proofs.Common.{◌≡◌, ℕ, zero, suc, ◌+◌, ◌<◌, Bool, true, false, cond, List, get_or, Some, None, Option, refl, subst, inl, inr, add-one, arith}
use Rattle.std.specs.Option.{option_map}
use Rattle.std.proofs.lemmas.Bool.{cases_order}
use Rattle.block.specs.declared.fault.Fault.TheVariants.{Range, Misfit}
use Rattle.block.specs.Ranges.{in_range}
use Rattle.block.specs.Fits.{fits}
use Rattle.block.specs.Verdicts.{lowest, or_else, range_fault, misfit_fault}

-- no place passes below 0
pub lowest_none : (p : ℕ → Bool) → lowest p 0 ≡ None
unfolding lowest
lowest_none p = refl

-- one place more passes
pub lowest_more : (p : ℕ → Bool) (i : ℕ) → lowest p i ≡ None → p i ≡ true → lowest p (i + 1) ≡ None
unfolding lowest
lowest_more p i none pass = rw (add-one, none, pass)

-- the first place that does not pass is the answer, however far one looks
pub lowest_stays : (p : ℕ → Bool) (i n : ℕ) → lowest p i ≡ None → p i ≡ false → i < n → lowest p n ≡ Some i
unfolding lowest
lowest_stays p i zero none fail h = absurd (omega arith)
lowest_stays p i (suc n) none fail h =
    elim (cases_order i n) [
      | inl e ↦ rw (← e, none, fail)
      | inr q ↦ elim q [
        | inl l ↦ rw (lowest_stays p i n none fail l)
        | inr g ↦ absurd (omega arith)
      ]
    ]

-- what `or_else` and `cond` say where the answer is none
none_parts : (a : Option ℕ) (b : Bool) (n : ℕ) → or_else a (cond b None (Some n)) ≡ None → (a ≡ None) × (b ≡ true)
none_parts None true n e = (refl, refl)
none_parts None false n e = absurd (grind arith)
none_parts (Some x) b n e = absurd (grind arith)

unmapped : {X : Type 0} (f : ℕ → X) (o : Option ℕ) → option_map f o ≡ None → o ≡ None
unmapped f None e = refl
unmapped f (Some x) e = absurd (grind arith)

-- where none fails, all pass
pub lowest_all : (p : ℕ → Bool) (n : ℕ) → lowest p n ≡ None → (k : ℕ) → k < n → p k ≡ true
unfolding lowest
lowest_all p zero none k h = absurd (omega arith)
lowest_all p (suc n) none k h =
    let parts = none_parts (lowest p n) (p n) n none in
    elim (cases_order k n) [
      | inl e ↦ rw e parts.1
      | inr q ↦ elim q [
        | inl l ↦ lowest_all p n parts.0 k l
        | inr g ↦ absurd (omega arith)
      ]
    ]

module _ (ws : List ℕ) (i : ℕ) where
  pub range_fails : lowest (λ k. in_range k (get_or ws k 0)) i ≡ None → in_range i (get_or ws i 0) ≡ false → i < 15
      → range_fault ws ≡ Some (Range i)
  unfolding range_fault
  range_fails none fail h = rw (lowest_stays (λ k. in_range k (get_or ws k 0)) i 15 none fail h)

  pub range_passes : lowest (λ k. in_range k (get_or ws k 0)) i ≡ None → i ≡ 15 → range_fault ws ≡ None
  unfolding range_fault
  range_passes none e = rw (subst (λ n. lowest (λ k. in_range k (get_or ws k 0)) n ≡ None) e none)

  pub misfit_fails : lowest (fits ws) i ≡ None → fits ws i ≡ false → i < 15 → misfit_fault ws ≡ Some (Misfit i)
  unfolding misfit_fault
  misfit_fails none fail h = rw (lowest_stays (fits ws) i 15 none fail h)

  pub misfit_passes : lowest (fits ws) i ≡ None → i ≡ 15 → misfit_fault ws ≡ None
  unfolding misfit_fault
  misfit_passes none e = rw (subst (λ n. lowest (fits ws) n ≡ None) e none)

pub ranges_all : (ws : List ℕ) → range_fault ws ≡ None → (k : ℕ) → k < 15 → in_range k (get_or ws k 0) ≡ true
unfolding range_fault
ranges_all ws none = lowest_all (λ k. in_range k (get_or ws k 0)) 15 (unmapped Range (lowest (λ k. in_range k (get_or ws k 0)) 15) none)

pub fits_all : (ws : List ℕ) → misfit_fault ws ≡ None → (k : ℕ) → k < 15 → fits ws k ≡ true
unfolding misfit_fault
fits_all ws none = lowest_all (fits ws) 15 (unmapped Misfit (lowest (fits ws) 15) none)
