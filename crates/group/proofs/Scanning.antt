-- What a scan says of the items that it passed by.
use Rattle.std.proofs.Common.{◌≡◌, ℕ, zero, suc, ◌+◌, ◌-◌, ◌<◌, ◌≤◌, Bool, true, false, cond, List, [], ◌∷◌, length, get_or, drop, is_some, Some, refl, ap, ◌∙◌, arith}
use Rattle.std.proofs.lemmas.List.{get_or-drop, length-drop}
use Rattle.std.proofs.lemmas.Bool.Decides.{nat_tests}
use Rattle.std.specs.List.{count_by, position_from}
use Rattle.scan.specs.Scans.{highest_of}
use Rattle.entry.specs.declared.entry.Entry.{Entry}
use Rattle.entry.specs.Entries.{is_held, is_taken, has_answered, blocks}
use Rattle.card.specs.declared.replica.Replica.{Replica}
use Rattle.card.specs.Tables.{absent, log_of, entry_at, highest_held, is_blocked}
use Rattle.group.specs.Scans.{Shaped, ScansFind}
use Rattle.group.proofs.Counting.{count_by-cons}

module _ {X : Type 0} (p : X → Bool) (d : X) where
  -- where the first is not found, no item passes
  pub first_none : (xs : List X) (k j : ℕ) → is_some (position_from p k xs) ≡ false → j < length xs → p (get_or xs j d) ≡ false
  first_none [] k j e h = absurd (omega arith)
  first_none (x ∷ xs) k zero e h = grind (arith, nat_tests)
  first_none (x ∷ xs) k (suc j) e h = let ih = first_none xs (k + 1) j in grind (arith, nat_tests)

  -- what is found passes
  pub first_passes : (xs : List X) (k j : ℕ) → position_from p k xs ≡ Some j → (k ≤ j) × (p (get_or xs (j - k) d) ≡ true)
  first_passes [] k j e = absurd (grind arith)
  first_passes (x ∷ xs) k j e = by (p x) refl e (first_passes xs (k + 1) j)
    where
      by : (b : Bool) → p x ≡ b → cond b (Some k) (position_from p (k + 1) xs) ≡ Some j
          → (position_from p (k + 1) xs ≡ Some j → (k + 1 ≤ j) × (p (get_or xs (j - (k + 1)) d) ≡ true))
          → (k ≤ j) × (p (get_or (x ∷ xs) (j - k) d) ≡ true)
      by true q f rest = let same : k ≡ j = cc in let z : j - k ≡ 0 = omega arith in (omega arith, rw z q)
      by false q f rest =
          let r = rest f in
          let z : j - k ≡ suc (j - (k + 1)) = omega arith in
          (omega arith, rw z r.1)

  -- where some item passes, one is found
  pub some_found : (xs : List X) (k : ℕ) → 0 < count_by p xs → is_some (position_from p k xs) ≡ true
  some_found [] k h = absurd (omega arith)
  some_found (x ∷ xs) k h = let ih = some_found xs (k + 1) in let e = count_by-cons p x xs in grind (arith, nat_tests)

  -- no item above the highest passes
  pub highest_above : (xs : List X) (j : ℕ) → highest_of p xs ≤ j → j < length xs → p (get_or xs j d) ≡ false
  highest_above [] j e h = absurd (omega arith)
  highest_above (x ∷ xs) zero e h = grind (arith, nat_tests)
  highest_above (x ∷ xs) (suc j) e h = let ih = highest_above xs j in grind (arith, nat_tests)

highest_within : {X : Type 0} (p : X → Bool) (xs : List X) → highest_of p xs ≤ length xs
highest_within p [] = omega arith
highest_within p (x ∷ xs) = let ih = highest_within p xs in grind (arith, nat_tests)

-- no entry is above 128
pub highest_held_low : (r : Replica) → Shaped r → (log : ℕ) → log ≤ 1 → highest_held r log ≤ 128
highest_held_low r shape log l = let w = highest_within (λ e. is_held e.state) (log_of r log) in let n = shape log l in omega arith

module _ (r : Replica) (shape : Shaped r) where
  -- a test that holds of entry k holds of the item in its place
  below : (p : Entry → Bool) (log k : ℕ) → log ≤ 1 → 1 ≤ k → k ≤ 128 → p (entry_at r log k) ≡ true → k ≤ highest_of p (log_of r log)
  below p log k l low high t =
      let n = shape log l in
      let above = highest_above p absent (log_of r log) (k - 1) in
      grind (arith, nat_tests)

  unblocked : (log i d k : ℕ) → log ≤ 1 → is_blocked r log i d ≡ false → d < k → k ≤ 128 → has_answered (entry_at r (1 - log) k) ≡ true
      → i ≤ (entry_at r (1 - log) k).answered
  unblocked log i d k l free low high t =
      let far : List Entry = log_of r (1 - log) in
      let n : length far ≡ 128 = shape (1 - log) (omega arith) in
      let len : length (drop d far) ≡ 128 - d = length-drop d far ∙ omega arith in
      let here : get_or (drop d far) (k - 1 - d) absent ≡ get_or far (k - 1) absent =
      get_or-drop d far (k - 1 - d) absent ∙ ap (λ j. get_or far j absent) (omega arith) in
      let none = first_none (blocks i) absent (drop d far) d (k - 1 - d) free (omega arith) in
      let at : blocks i (get_or far (k - 1) absent) ≡ false = rw here at none in
      grind (arith, nat_tests)

pub scans_find : ScansFind
scans_find r shape =
    record {
      held = λ log. below r shape (λ e. is_held e.state) log;
      taken = λ log. below r shape is_taken log;
      unblocked = unblocked r shape;
    }
