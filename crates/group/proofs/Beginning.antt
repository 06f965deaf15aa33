-- A new card.
use Rattle.std.proofs.Common.{◌≡◌, None, Option, ℕ, zero, suc, ◌≤◌, false, ◌⊎◌, [], length, get_or, replicate, refl, ap, ◌∙◌, inl, inr, arith}
use lib.ListN.{length-replicate, get_or-replicate}
use Rattle.agreement.specs.Logs.{Log, Log.pilot, Log.copilot}
use Rattle.column.specs.Cells.{New}
use Rattle.column.proofs.Cards.{same_everywhere}
use Rattle.entry.specs.declared.entry.Entry.{Entry}
use Rattle.entry.specs.declared.answers.Answer.{Answer}
use Rattle.entry.specs.Entries.{empty}
use Rattle.card.specs.Making.{new_replica, empty_logs}
use Rattle.card.specs.Tables.{absent}
use Rattle.group.specs.Views.{answer_of, cell_of, cell_at}
use Rattle.group.specs.Standing.{Seated, StandingEntry}
use Rattle.group.specs.Places.{CardsBegin}

pub seated : {X : Type 0} (n : ℕ) (x : X) → Seated n x (replicate 7 x)
seated n x = record { seven = refl; group = λ c h. same_everywhere 7 c x }

empty_stands : (n : ℕ) → StandingEntry n empty
empty_stands n =
    record {
      answers = seated n None;
      accepts = seated n false;
      low = λ d g. absurd (let e = same_everywhere {X = Option Answer} 7 g.0 None in grind arith);
      dependency = omega arith;
      untallied = λ e c. same_everywhere 7 c None;
      bare = λ e. refl;
      votes = λ c d o e. absurd (grind arith);
    }

-- an entry of a new log, or what stands past its end
either : {X : Type 0} (x d : X) (n k : ℕ) → (get_or (replicate n x) k d ≡ x) ⊎ (get_or (replicate n x) k d ≡ d)
either x d zero k = inr refl
either x d (suc n) zero = inl refl
either x d (suc n) (suc k) = either x d n k

pub empty_new : New (cell_of empty)
empty_new =
    record {
      bare = refl;
      unpromised = refl;
      unvoted = refl;
      unanswered = λ c. ap answer_of (same_everywhere 7 c None);
      unaccepted = λ c. same_everywhere 7 c false;
    }

absent_new : New (cell_of absent)
absent_new = record { bare = refl; unpromised = refl; unvoted = refl; unanswered = λ c. refl; unaccepted = λ c. refl }

new_item : (x : Entry) → (x ≡ empty) ⊎ (x ≡ absent) → New (cell_of x)
new_item x (inl e) = rw e empty_new
new_item x (inr e) = rw e absent_new

-- both logs are empty ones
both_empty : (log : ℕ) → log ≤ 1 → get_or empty_logs log [] ≡ replicate 128 empty
both_empty zero l = refl
both_empty (suc zero) l = refl
both_empty (suc (suc k)) l = absurd (omega arith)

pub cards_begin : CardsBegin
cards_begin n seat ok =
    record {
      entries = new_at;
      takeover = refl;
      stands = record {
        size = refl;
        place = refl;
        logs = refl;
        shape = λ log l. ap length (both_empty log l) ∙ length-replicate 128 empty;
        entries = λ log k l h. rw (both_empty log l, get_or-replicate 128 k empty absent h) (empty_stands n);
        takeover = tt;
      };
      valued = record {
        entries = λ log k l h. rw (both_empty log l, get_or-replicate 128 k empty absent h) (λ e. refl);
        reports = λ t q. absurd (grind arith);
        stored = λ t q. absurd (grind arith);
      };
    }
  where
    new_at : (g : Log) (i : ℕ) → New (cell_at (new_replica n seat ok) g i)
    new_at g zero = empty_new
    new_at pilot (suc k) = new_item (get_or (replicate 128 empty) k absent) (either empty absent 128 k)
    new_at copilot (suc k) = new_item (get_or (replicate 128 empty) k absent) (either empty absent 128 k)
