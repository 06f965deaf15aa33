-- The owner settles on a dependency without waiting for more answers.
use Rattle.std.specs.Prelude.{ℕ, cond, not, ◌&&◌, Ok, Err, ◌==◌, Some}
use Rattle.entry.specs.declared.entry.Progress.TheVariants.{Accepts}
use Rattle.entry.specs.Owners.{counts_answers, can_settle, settling}
use Rattle.card.specs.declared.refusal.Refusal.TheVariants.{NoSuchEntry, NotOpen, TooFewAnswers}
use Rattle.card.specs.declared.replica.Replica.{Replica}
use Rattle.card.specs.Steps.{Step}
use Rattle.card.specs.Tables.{is_placed, entry_at, with_entry}
use Rattle.card.specs.Messages.{announced}

abbrev pub settle : Replica → ℕ → ℕ → Step
settle r log i =
    cond (not (is_placed log i)) (Err NoSuchEntry)
    (cond (not (log == r.seat && counts_answers (entry_at r log i))) (Err NotOpen)
    (cond (not (can_settle r.n (entry_at r log i))) (Err TooFewAnswers)
    (Ok (
      with_entry r log i (settling r.n r.seat (entry_at r log i)),
      announced r.seat log i (settling r.n r.seat (entry_at r log i)) (Some Accepts),
    ))))
