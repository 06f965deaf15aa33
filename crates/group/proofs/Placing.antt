-- An entry in its place in a card's table.
use Rattle.std.proofs.Common.{◌≡◌, ℕ, zero, suc, ◌-◌, ◌≤◌, [], length, get_or, set, sym, refl, ap, ◌∙◌, inl, inr, arith, length-set}
use Rattle.std.proofs.lemmas.List.{get_or-set_same, get_or-set_other}
use Rattle.std.proofs.lemmas.Bool.{cases_eq}
use Rattle.agreement.specs.Logs.{Log, Log.pilot, Log.copilot, other}
use Rattle.entry.specs.declared.entry.Entry.{Entry}
use Rattle.card.specs.declared.replica.Replica.{Replica}
use Rattle.card.specs.Tables.{absent, log_of, entry_at, with_entry}
use Rattle.group.specs.Views.{number_of, log_named, cell_of, cell_at}
use Rattle.group.specs.Scans.{Shaped}

pub number_named : (log : ℕ) → log ≤ 1 → number_of (log_named log) ≡ log
number_named zero l = refl
number_named (suc zero) l = refl
number_named (suc (suc k)) l = absurd (omega arith)

pub number_low : (g : Log) → number_of g ≤ 1
number_low pilot = omega arith
number_low copilot = omega arith

pub number_other : (g : Log) → number_of (other g) ≡ 1 - number_of g
number_other pilot = refl
number_other copilot = refl

pub number_one : (g h : Log) → number_of g ≡ number_of h → g ≡ h
number_one pilot pilot e = refl
number_one pilot copilot e = absurd (omega arith)
number_one copilot pilot e = absurd (omega arith)
number_one copilot copilot e = refl

-- an entry that has a place, as a cell
pub cell_here : (r : Replica) (g : Log) (i : ℕ) → 1 ≤ i → cell_at r g i ≡ cell_of (entry_at r (number_of g) i)
cell_here r g zero l = absurd (omega arith)
cell_here r g (suc k) l = ap (λ j. cell_of (get_or (log_of r (number_of g)) j absent)) (omega arith)

module _ (r : Replica) (two : length r.logs ≡ 2) (shape : Shaped r) (log i : ℕ) (l : log ≤ 1) (low : 1 ≤ i) (high : i ≤ 128) (e : Entry) where
  -- the log that was written
  row_here : log_of (with_entry r log i e) log ≡ set (log_of r log) (i - 1) e
  row_here = get_or-set_same r.logs log (set (log_of r log) (i - 1) e) [] (omega arith)

  row_other : (k : ℕ) → (k ≡ log → ⊥) → log_of (with_entry r log i e) k ≡ log_of r k
  row_other k ne = get_or-set_other r.logs log k (set (log_of r log) (i - 1) e) [] ne

  pub logs_two : length (with_entry r log i e).logs ≡ 2
  logs_two = length-set r.logs log (set (log_of r log) (i - 1) e) ∙ two

  pub item_here : get_or (log_of (with_entry r log i e) log) (i - 1) absent ≡ e
  item_here =
      ap (λ es. get_or es (i - 1) absent) row_here
      ∙ get_or-set_same (log_of r log) (i - 1) e absent (omega (arith, shape log l))

  pub item_other : (h k : ℕ) → ((h ≡ log) × (k ≡ i - 1) → ⊥) → get_or (log_of (with_entry r log i e) h) k absent ≡ get_or (log_of r h) k absent
  item_other h k apart = elim (cases_eq h log) [
    | inl same ↦
        ap (λ x. get_or (log_of (with_entry r log i e) x) k absent) same
        ∙ (ap (λ es. get_or es k absent) row_here
        ∙ (get_or-set_other (log_of r log) (i - 1) k e absent (λ q. apart (same, q))
        ∙ ap (λ x. get_or (log_of r x) k absent) (sym same)))
    | inr ne ↦ ap (λ es. get_or es k absent) (row_other h ne)
  ]

  pub shaped : Shaped (with_entry r log i e)
  shaped h hl = elim (cases_eq h log) [
    | inl same ↦
        ap (λ x. length (log_of (with_entry r log i e) x)) same
        ∙ (ap length row_here ∙ (length-set (log_of r log) (i - 1) e ∙ shape log l))
    | inr ne ↦ ap length (row_other h ne) ∙ shape h hl
  ]

-- the cell of the entry that was written, and of every other
module _ (r : Replica) (two : length r.logs ≡ 2) (shape : Shaped r) (g : Log) (i : ℕ) (low : 1 ≤ i) (high : i ≤ 128) (e : Entry) where
  pub cell_written : cell_at (with_entry r (number_of g) i e) g i ≡ cell_of e
  cell_written =
      cell_here (with_entry r (number_of g) i e) g i low
      ∙ ap cell_of (item_here r two shape (number_of g) i (number_low g) low high e)

  pub cell_kept : (h : Log) (k : ℕ) → ((h ≡ g) × (k ≡ i) → ⊥) → cell_at (with_entry r (number_of g) i e) h k ≡ cell_at r h k
  cell_kept h zero apart = refl
  cell_kept h (suc k) apart =
      ap cell_of (item_other r two shape (number_of g) i (number_low g) low high e (number_of h) k (λ q. apart (number_one h g q.0, omega (arith, q.1))))
