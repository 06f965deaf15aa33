-- The bytes after the words.
use Rattle.std.proofs.Common.{◌≡◌, ℕ, ◌+◌, ◌<◌, ◌≤◌, true, false, ◌&&◌, eqb, List, length, get_or, drop, sym, ◌∙◌}
use Rattle.std.proofs.lemmas.List.{at_drop_more, at_drop_all}
use Rattle.std.proofs.lemmas.Bool.{eq-eqb, ne_eqb}
use Rattle.block.specs.Verdicts.{all_zero}

module _ (xs : List ℕ) (i : ℕ) (inv : all_zero (drop i xs) ≡ all_zero xs) where
  step : i < length xs → all_zero (drop i xs) ≡ (eqb (get_or xs i 0) 0 && all_zero (drop (i + 1) xs))
  step h = at_drop_more all_zero xs i 0 h

  pub zero_more : i < length xs → get_or xs i 0 ≡ 0 → all_zero (drop (i + 1) xs) ≡ all_zero xs
  zero_more h e = rw (eq-eqb (get_or xs i 0) 0 e) at (sym (step h)) ∙ inv

  pub zero_fails : i < length xs → (get_or xs i 0 ≡ 0 → ⊥) → all_zero xs ≡ false
  zero_fails h n = sym inv ∙ (step h ∙ rw (ne_eqb (get_or xs i 0) 0 n))

  pub zero_all : length xs ≤ i → all_zero xs ≡ true
  zero_all h = sym inv ∙ at_drop_all all_zero xs i h
