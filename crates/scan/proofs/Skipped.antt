-- A walk that numbers the items of a list and passes over some first: where it stands after a step.
use Rattle.std.proofs.Common.{◌≡◌, ℕ, zero, suc, ◌+◌, ◌-◌, ◌<◌, ◌≤◌, List, [], ◌∷◌, length, get_or, drop, Bor, Iter, Option, Some, None, sym, ap, ◌∙◌, arith}
use Rattle.std.proofs.lemmas.List.{length-drop}
use Rattle.std.proofs.lemmas.Fn.{fronts}
use Rattle.std.specs.Iterator.{Yields}
use Rattle.std.specs.Iterator.Adapters.{enumerate_steps, skip_steps}
use Rattle.std.specs.declared.iter.Enumerate.{Enumerate}
use Rattle.std.specs.declared.iter.Skip.{Skip}

module _ {X : Type 0} where
  -- the item at the front of what is left
  front : (xs : List X) (i : ℕ) (x : X) (ys : List X) → drop i xs ≡ x ∷ ys → (x ≡ get_or xs i x) × (ys ≡ drop (suc i) xs) × (i < length xs)
  front [] zero x ys e = grind arith
  front [] (suc i) x ys e = grind arith
  front (z ∷ xs) zero x ys e = grind arith
  front (z ∷ xs) (suc i) x ys e = let ih = front xs i x ys e in (ih.0, ih.1, omega (arith, ih.2))

  module _ (xs : List X) where
    passed : (qs : List (ℕ × Bor X)) (s t : Enumerate (Iter X)) → Yields (enumerate_steps fronts) s qs t → s.iter.rest.now ≡ drop s.count xs
        → (t.iter.rest.now ≡ drop t.count xs) × (t.count ≡ s.count + length qs)
    passed [] s t y e = grind arith
    passed (q ∷ qs) s t y e =
        let at = front xs s.count q.1.now y.0.iter.rest.now (sym e ∙ y.1.0) in
        let next : suc s.count ≡ y.0.count = omega (arith, y.1.2) in
        let ih = passed qs y.0 t y.2 (at.1 ∙ ap (λ k. drop k xs) next) in
        (ih.0, omega (arith, ih.1, y.1.2))

    module _ (s t : Skip (Enumerate (Iter X))) (r : Option (ℕ × Bor X)) (steps : skip_steps (enumerate_steps fronts) s r t) (e : s.iter.iter.rest.now ≡ drop s.iter.count xs) where
      pub gave : (i : ℕ) (x : Bor X) → r ≡ Some (i, x)
          → (s.iter.count + s.n ≡ i) × (i < length xs) × (x.now ≡ get_or xs i x.now) × (t.iter.iter.rest.now ≡ drop t.iter.count xs) × (t.iter.count + t.n ≡ i + 1)
      gave i x is =
          let over = steps.1.1 in
          let u = over.0 in
          let at = passed steps.1.0 s.iter u over.1 e in
          let many : length steps.1.0 ≡ s.n = rw is at steps.1.2 in
          let last = rw is at over.2 in
          let here = front xs u.count x.now t.iter.iter.rest.now (sym at.0 ∙ last.0) in
          let next : suc u.count ≡ t.iter.count = omega (arith, last.2) in
          (omega (arith, at.1, many, last.1), omega (arith, here.2, last.1), rw last.1 here.0, here.1 ∙ ap (λ k. drop k xs) next, omega (arith, last.1, last.2, steps.0))

      pub ended : r ≡ None → length xs ≤ s.iter.count + s.n
      ended is =
          let over = steps.1.1 in
          let u = over.0 in
          let at = passed steps.1.0 s.iter u over.1 e in
          let many : length steps.1.0 ≤ s.n = rw is at steps.1.2 in
          let last = rw is at over.2 in
          let left : length u.iter.rest.now ≡ length xs - u.count = ap length at.0 ∙ length-drop u.count xs in
          omega (arith, many, last.0, left, at.1)
