-- The answers to a proposal, and the dependency that they settle on. A seat that was not heard has none.
use Rattle.std.specs.Prelude.{ℕ, Bool, true, false, cond, ◌&&◌, List, is_some, Some, None, Option, count_by, nat_le, nat_lt}
use Rattle.std.specs.List.{fold}
use Rattle.entry.specs.declared.answers.Answer.{Answer}
use Rattle.entry.specs.declared.answers.Answer.TheVariants.{Vote, Reply}
use Rattle.entry.specs.Quorums.{majority_of}

abbrev pub votes : Answer → Bool
votes (Vote d) = true
votes (Reply d) = false

abbrev pub replies : Answer → Bool
replies (Vote d) = false
replies (Reply d) = true

abbrev pub dependency_of : Answer → ℕ
dependency_of (Vote d) = d
dependency_of (Reply d) = d

abbrev pub is_vote : Option Answer → Bool
is_vote None = false
is_vote (Some a) = votes a

abbrev pub is_reply : Option Answer → Bool
is_reply None = false
is_reply (Some a) = replies a

abbrev pub is_answer : Option Answer → Bool
is_answer a = is_some a

-- an answer that does not exceed m
abbrev pub is_within : ℕ → Option Answer → Bool
is_within m None = false
is_within m (Some a) = nat_le (dependency_of a) m

-- a majority of the answers does not exceed d
abbrev pub is_enough : List (Option Answer) → ℕ → ℕ → Bool
is_enough all n d = nat_le (majority_of n) (count_by (is_within d) all)

-- the smaller of `best` and d, where a majority of all answers does not exceed d
abbrev pub smaller_of : List (Option Answer) → ℕ → ℕ → ℕ → ℕ
smaller_of all n best d = cond (nat_lt d best && is_enough all n d) d best

abbrev pub better_of : List (Option Answer) → ℕ → ℕ → Option Answer → ℕ
better_of all n best None = best
better_of all n best (Some a) = smaller_of all n best (dependency_of a)

-- the smallest answered dependency that a majority of the answers does not exceed; none exceeds 128
unfoldable pub settled : List (Option Answer) → ℕ → ℕ
settled answers n = fold (better_of answers n) 128 answers
