-- What the answers to a proposal settle on.
use Rattle.std.specs.Prelude.{◌≡◌, ℕ, ◌≤◌, ◌⊎◌, List, Some, None, Option, slice_index_or}
use Rattle.std.specs.List.{count_by}
use Rattle.entry.specs.declared.answers.Answer.{Answer}
use Rattle.entry.specs.declared.answers.Answer.TheVariants.{Vote, Reply}
use Rattle.entry.specs.Quorums.{majority_of}
use Rattle.entry.specs.Answers.{is_answer, is_within, settled}

-- some seat answered with the dependency d
abbrev pub Given : List (Option Answer) → ℕ → Type 0
Given answers d = (seat : ℕ) × ((slice_index_or answers seat None ≡ Some (Vote d)) ⊎ (slice_index_or answers seat None ≡ Some (Reply d)))

-- no seat answered with more than the last entry of a log
abbrev pub Low : List (Option Answer) → Type 0
Low answers = (d : ℕ) → Given answers d → d ≤ 128

-- the answers of a majority do not exceed d
abbrev pub Supported : ℕ → List (Option Answer) → ℕ → Type 0
Supported n answers d = majority_of n ≤ count_by (is_within d) answers

-- a majority supports the settled dependency, and it supports no smaller one that was answered
pub record Settles (n : ℕ) (answers : List (Option Answer)) : Type 0 where
  pub supported : Supported n answers (settled answers n)
  pub least : (d : ℕ) → Given answers d → Supported n answers d → settled answers n ≤ d

-- with a majority of answers
abbrev pub AnswersSettle : Type 0
AnswersSettle = (n : ℕ) (answers : List (Option Answer)) → Low answers → majority_of n ≤ count_by is_answer answers → Settles n answers
