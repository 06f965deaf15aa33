-- What the owner of an entry makes of the answers to its proposal.
use Rattle.std.specs.Prelude.{ℕ, Bool, true, false, cond, not, ◌&&◌, List, Some, None, Option, ◌==◌, count_by, nat_le, slice_index_or, slice_set}
use Rattle.block.specs.declared.message.Value.{Value}
use Rattle.entry.specs.declared.answers.Answer.{Answer}
use Rattle.entry.specs.declared.answers.Answer.TheVariants.{Vote}
use Rattle.entry.specs.declared.entry.Entry.{Entry}
use Rattle.entry.specs.declared.entry.State.{State}
use Rattle.entry.specs.declared.entry.State.TheVariants.{Empty, Answered, Accepted, Committed}
use Rattle.entry.specs.declared.entry.Progress.{Progress}
use Rattle.entry.specs.declared.entry.Progress.TheVariants.{Accepts, Commits}
use Rattle.entry.specs.Quorums.{majority_of, fast_quorum_of}
use Rattle.entry.specs.Answers.{is_vote, is_reply, is_answer, settled}
use Rattle.entry.specs.Entries.{entry_of, answering, accepting, committing}

abbrev pub with_answers : Entry → List (Option Answer) → Entry
with_answers e answers =
    entry_of e.state e.promised e.accept_ballot e.value e.dependency e.answered e.vote
    (record { answers = answers; accepts = e.tally.accepts })

abbrev pub with_accepts : Entry → List Bool → Entry
with_accepts e accepts =
    entry_of e.state e.promised e.accept_ballot e.value e.dependency e.answered e.vote
    (record { answers = e.tally.answers; accepts = accepts })

-- the owner in `seat` stores its proposal and answers it itself with a vote
abbrev pub proposing : Entry → ℕ → Value → ℕ → Entry
proposing e seat v d = with_answers (answering e v d d true) (slice_set e.tally.answers seat (Some (Vote d)))

-- state answered, and nobody has taken the entry over
abbrev pub is_open : State → Bool
is_open Empty = false
is_open Answered = true
is_open Accepted = false
is_open Committed = false

abbrev pub counts_answers : Entry → Bool
counts_answers e = is_open e.state && e.promised == 0

-- f + 1 answers, the owner's among them
abbrev pub can_settle : ℕ → Entry → Bool
can_settle n e = nat_le (majority_of n) (count_by is_answer e.tally.answers)

-- the owner in `seat` accepts, at ballot 0, the dependency that the answers settle on
abbrev pub settling : ℕ → ℕ → Entry → Entry
settling n seat e = with_accepts (accepting e 0 e.value (settled e.tally.answers n)) (slice_set e.tally.accepts seat true)

-- 2f votes, the owner's among them
abbrev pub has_fast_quorum : ℕ → Entry → Bool
has_fast_quorum n e = nat_le (fast_quorum_of n) (count_by is_vote e.tally.answers)

abbrev pub has_two_replies : Entry → Bool
has_two_replies e = nat_le 2 (count_by is_reply e.tally.answers)

-- a fast quorum commits what was proposed; two replies among f + 1 answers settle
unfoldable pub decided : ℕ → ℕ → Entry → Entry × Option Progress
decided n seat e =
    cond (has_fast_quorum n e)
    (committing e e.value e.dependency, Some Commits)
    (cond (has_two_replies e && can_settle n e) (settling n seat e, Some Accepts) (e, None))

-- another seat's answer, or none of it: the first from each seat, while answers count
abbrev pub hearing : ℕ → ℕ → Entry → ℕ → Option Answer → Entry × Option Progress
hearing n seat e from a =
    cond (counts_answers e && (nat_le from 6 && not (is_answer (slice_index_or e.tally.answers from None))))
    (decided n seat (with_answers e (slice_set e.tally.answers from a)))
    (e, None)

abbrev pub is_accepted : State → Bool
is_accepted Empty = false
is_accepted Answered = false
is_accepted Accepted = true
is_accepted Committed = false

-- one seat more has accepted what the owner settled on: at f + 1 it is committed
abbrev pub accepted_by : ℕ → Entry → Entry × Option Progress
accepted_by n e =
    cond (nat_le (majority_of n) (count_by (λ a. a) e.tally.accepts))
    (committing e e.value e.dependency, Some Commits)
    (e, None)

abbrev pub acknowledging : ℕ → Entry → ℕ → Entry × Option Progress
acknowledging n e from =
    cond (is_accepted e.state && e.promised == 0)
    (accepted_by n (with_accepts e (slice_set e.tally.accepts from true)))
    (e, None)
