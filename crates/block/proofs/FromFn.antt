-- What `array::from_fn` makes with a closure that each call leaves as it was: the value of v at each place.
use Rattle.std.proofs.Common.{◌≡◌, ℕ, ◌+◌, ◌<◌, ◌≤◌, zero, suc, List, map, slice_index_or, inl, inr, subst, arith}
use Rattle.std.proofs.lemmas.Bool.{cases_eq}
use Rattle.std.proofs.lemmas.List.FromFn.{fill_by_all}
use Rattle.std.specs.Array.{IsFromFnResult, IsFromFnResultFrom}
use Rattle.std.specs.Fn.{Called}
use Rattle.std.specs.List.{range_with_len}
use denote.Param.Members.{Mut}

module _ {F : Type 0} (g : Mut F (ℕ × Unit {0}) ℕ) (v : ℕ → ℕ) (f : F) (h : (i y : ℕ) (q : F) → Called g f (i, tt) y q → (y ≡ v i) × (q ≡ f)) where
  made_at : (ys : List ℕ) (i n : ℕ) → IsFromFnResultFrom g f ys i n → (k : ℕ) → i ≤ k → k < i + n → slice_index_or ys k 0 ≡ v k
  made_at ys i zero made k l m = absurd (omega arith)
  made_at ys i (suc n) made k l m =
      let one = h i made.1 made.0 made.3 in
      elim (cases_eq k i) [
        | inl same ↦ rw (same, made.2.1 0, one.0)
        | inr more ↦ made_at ys (i + 1) n (subst (λ q. IsFromFnResultFrom g q ys (i + 1) n) one.1 made.4) k (omega arith) (omega arith)
      ]

  pub made_by : (ys : List ℕ) (n : ℕ) → IsFromFnResult g f ys n → ys ≡ map v (range_with_len 0 n)
  made_by ys n made = fill_by_all v ys n 0 made.long (λ k l. made_at ys 0 n made.each k (omega arith) (omega arith))
