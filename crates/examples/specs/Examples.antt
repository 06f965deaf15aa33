-- Worked examples of the rules, checked by computation, all in one list.
use Rattle.std.specs.Prelude.{◌≡◌, ℕ, Bool, true, false, ◌&&◌, List, [], ◌∷◌, replicate, Some, None, Ok, Err, Option, Result, ◌==◌, refl}
use Rattle.command.specs.declared.Command.{Command}
use Rattle.block.specs.declared.message.Destination.TheVariants.{All, Seat}
use Rattle.block.specs.declared.message.Kind.TheVariants.{FastAccept, FastAcceptOk, FastAcceptReply, Accept, Commit, Reject}
use Rattle.block.specs.declared.message.Message.{Message}
use Rattle.block.specs.declared.message.Report.TheVariants as report
use Rattle.block.specs.declared.message.Value.{Value}
use Rattle.block.specs.declared.message.Value.TheVariants as value
use Rattle.block.specs.Messages.{message_words}
use Rattle.machine.specs.declared.outcome.Outcome.{Outcome}
use Rattle.machine.specs.declared.outcome.Outcome.TheVariants.{Done}
use Rattle.machine.specs.Catalogues.{catalogue}
use Rattle.machine.specs.Outcomes.{number}
use Rattle.card.specs.declared.refusal.Refusal.{Refusal}
use Rattle.card.specs.declared.replica.Replica.{Replica}
use Rattle.card.specs.Groups.{is_group}
use Rattle.card.specs.Making.{new_replica}
use Rattle.card.specs.Steps.{Step, state_after, answer_of}
use Rattle.card.specs.Messages.{message_of, bare, prepare, prepare_ok_message}
use Rattle.card.specs.Proposing.{propose}
use Rattle.card.specs.Taking.{takeover}
use Rattle.card.specs.Delivering.{received, same_command}
use Rattle.fitted.specs.declared.run.Run.{Run}
use Rattle.fitted.specs.declared.run.Run.TheVariants.{Noop, Repeat, Ran, Waits, NoPlace}
use Rattle.fitted.specs.Meanings.{Meaning, with_replica}
use Rattle.fitted.specs.Makes.{new_meaning}
use Rattle.fitted.specs.Runs.{place_numbers, ran}

abbrev pub all_pass : List Bool → Bool
all_pass [] = true
all_pass (b ∷ bs) = b && all_pass bs

abbrev pub same_list : List ℕ → List ℕ → Bool
same_list [] [] = true
same_list [] (y ∷ ys) = false
same_list (x ∷ xs) [] = false
same_list (x ∷ xs) (y ∷ ys) = x == y && same_list xs ys

-- whether a call was answered with just this message
abbrev pub is_sent : Result (Option Message) Refusal → Message → Bool
is_sent (Err f) m = false
is_sent (Ok None) m = false
is_sent (Ok (Some s)) m = same_list (message_words s) (message_words m)

abbrev pub sends : Step → Message → Bool
sends s m = is_sent (answer_of s) m

-- assign array 9 to bay 3
abbrev pub some : Value
some = value.Command (record { identity = record { client = 1; number = 1 }; operation = 2; bay = 3; amount = 9 })

abbrev pub some_command : Command
some_command = record { identity = record { client = 1; number = 1 }; operation = 2; bay = 3; amount = 9 }

-- a card after it took in messages, one after the other
abbrev pub after : Replica → List Message → Replica
after r [] = r
after r (m ∷ ms) = after (state_after r (received r (Ok m))) ms

-- what a card does with a message after it took in others
abbrev pub getting : Replica → List Message → Message → Step
getting r ms m = received (after r ms) (Ok m)

-- the proposal of an entry without dependency, and answers to 0.1
abbrev pub proposal : ℕ → ℕ → Message
proposal log i = message_of FastAccept log All log i 0 some 0 report.Empty

abbrev pub vote : ℕ → Message
vote from = bare FastAcceptOk from (Seat 0) 0 1

abbrev pub reply : ℕ → ℕ → Message
reply from d = message_of FastAcceptReply from (Seat 0) 0 1 0 value.Nothing d report.Empty

-- the pilot of n cards after it proposed 0.1
abbrev pub pilot : (n : ℕ) → is_group n 0 ≡ true → Replica
pilot n ok = state_after (new_replica n 0 ok) (propose (new_replica n 0 ok) some_command)

-- seat 2 of five took over 0.1, for which it had voted, and hears reports
abbrev pub taker : Replica
taker = let r = after (new_replica 5 2 refl) (proposal 0 1 ∷ []) in state_after r (takeover r 0 1)

abbrev pub votes : ℕ → Message
votes from = prepare_ok_message from 2 0 1 10 (record { report = report.Vote; value = some; dependency = 0 })

abbrev pub reports_nothing : ℕ → Message
reports_nothing from = prepare_ok_message from 2 0 1 10 (record { report = report.Empty; value = value.Nothing; dependency = 0 })

-- what the taker has all accept
abbrev pub chooses : Value → Message
chooses v = message_of Accept 2 All 0 1 10 v 0 report.Empty

-- a card in seat 2 whose entry 0.1 is promised to a ballot
abbrev pub promised_to : ℕ → Replica
promised_to b = after (new_replica 3 2 refl) (proposal 0 1 ∷ message_of Reject 1 (Seat 2) 0 1 b value.Nothing 0 report.Empty ∷ [])

-- run on a card in seat 2 of three that took in messages, with a new catalogue
abbrev pub run_after : List Message → Meaning catalogue × Run
run_after ms =
    ran catalogue (with_replica (new_meaning catalogue 3 2 refl (replicate 64 0)) (after (new_replica 3 2 refl) ms))

-- entry 1 of a log is committed, and depends on 1 of the other log
abbrev pub committed : ℕ → Value → Message
committed log v = message_of Commit log All log 1 0 v 1 report.Empty

-- assign array 4 to bay 3
abbrev pub another : Value
another = value.Command (record { identity = record { client = 2; number = 1 }; operation = 2; bay = 3; amount = 4 })

-- whether run answered that just this command ran
abbrev pub has_run : Run → Command → Outcome → ℕ → Bool
has_run Noop c o v = false
has_run Repeat c o v = false
has_run (Ran d p w) c o v = same_command d c && (number p == number o && w == v)
has_run (Waits e) c o v = false
has_run NoPlace c o v = false

-- whether run answered that it waits for just this entry
abbrev pub is_waiting_for : Run → ℕ → ℕ → Bool
is_waiting_for Noop log i = false
is_waiting_for Repeat log i = false
is_waiting_for (Ran c o v) log i = false
is_waiting_for (Waits e) log i = (place_numbers e).0 == log && (place_numbers e).1 == i
is_waiting_for NoPlace log i = false

-- whether just these entries of the two logs are passed
abbrev pub has_passed : Meaning catalogue → ℕ → ℕ → Bool
has_passed m i j = m.passed.pilot == i && m.passed.copilot == j

unfoldable pub examples : List Bool
examples =
    -- three cards: 0.1 with dependency 0 and one FastAcceptOk commits
    sends (getting (pilot 3 refl) [] (vote 1)) (message_of Commit 0 All 0 1 0 some 0 report.Empty)
    -- both propose unheard; seat 2 gets 0.1, then 1.1: Ok, then Reply 1
    ∷ sends (getting (new_replica 3 2 refl) [] (proposal 0 1)) (bare FastAcceptOk 2 (Seat 0) 0 1)
    ∷ sends (getting (new_replica 3 2 refl) (proposal 0 1 ∷ []) (proposal 1 1)) (message_of FastAcceptReply 2 (Seat 1) 1 1 0 value.Nothing 1 report.Empty)
    -- three cards, answers 0, 1 and 1 settle at 1
    ∷ sends (getting (pilot 3 refl) (reply 1 1 ∷ []) (reply 2 1)) (message_of Accept 0 All 0 1 0 some 1 report.Empty)
    -- five cards, answers 0, 0, 2 and 3 settle at 2
    ∷ sends (getting (pilot 5 refl) (vote 1 ∷ reply 2 2 ∷ []) (reply 3 3)) (message_of Accept 0 All 0 1 0 some 2 report.Empty)
    -- five cards, reporters 2, 3 and 4 with two votes: the command; with one: a no-op
    ∷ sends (getting taker (votes 3 ∷ []) (reports_nothing 4)) (chooses some)
    ∷ sends (getting taker (reports_nothing 3 ∷ []) (reports_nothing 4)) (chooses value.Noop)
    -- reporters 0, 2 and 3 with two votes: a no-op, for the owner is not counted again
    ∷ sends (getting taker (votes 0 ∷ []) (reports_nothing 3)) (chooses value.Noop)
    -- seat 2 promised 0 takes ballot 10, promised 17 takes 18
    ∷ sends (takeover (after (new_replica 3 2 refl) (proposal 0 1 ∷ [])) 0 1) (prepare 2 0 1 10)
    ∷ sends (takeover (promised_to 17) 0 1) (prepare 2 0 1 18)
    -- 0.1 and 1.1 committed, each depending on 1: run passes 0.1 first, and its command runs
    ∷ has_passed (run_after (committed 1 another ∷ committed 0 some ∷ [])).0 1 0
    ∷ has_run (run_after (committed 1 another ∷ committed 0 some ∷ [])).1 some_command Done 0
    -- with 1.1 uncommitted, run waits for it
    ∷ is_waiting_for (run_after (committed 0 some ∷ [])).1 1 1
    ∷ []
