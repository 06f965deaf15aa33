-- What run makes of a card, and what it answers.
use Rattle.std.specs.Prelude.{ℕ, ◌+◌, cond, [], ◌∷◌, ◌++◌, Some, None, Option}
use Rattle.command.specs.declared.Command.{Command}
use Rattle.block.specs.declared.message.Value.{Value}
use Rattle.block.specs.declared.message.Value.TheVariants as value
use Rattle.machine.specs.Onces.{known, full}
use Rattle.machine.specs.Rules.{Rule}
use Rattle.fitted.specs.declared.fitting.Passed.{Passed}
use Rattle.fitted.specs.declared.run.Log.{Log}
use Rattle.fitted.specs.declared.run.Log.TheVariants.{Pilot, Copilot}
use Rattle.fitted.specs.declared.run.Next.{Next}
use Rattle.fitted.specs.declared.run.Next.TheVariants as next
use Rattle.fitted.specs.declared.run.Place.{Place}
use Rattle.fitted.specs.declared.run.Run.{Run}
use Rattle.fitted.specs.declared.run.Run.TheVariants.{Noop, Repeat, Ran, Waits, NoPlace}
use Rattle.fitted.specs.Meanings.{Meaning}
use Rattle.fitted.specs.Nexts.{next}

-- the number that is told outside, and the entry that is waited for, 0.0 where there is none
abbrev pub run_number : Run → ℕ
run_number Noop = 1
run_number Repeat = 2
run_number (Ran c o v) = 3
run_number (Waits e) = 4
run_number NoPlace = 5

abbrev pub place_numbers : Option Place → ℕ × ℕ
place_numbers (Some e) = (e.log, e.entry)
place_numbers None = (0, 0)

-- one entry further in a log
abbrev pub past_pilot : Passed → Passed
past_pilot p = record { pilot = p.pilot + 1; copilot = p.copilot }

abbrev pub past_copilot : Passed → Passed
past_copilot p = record { pilot = p.pilot; copilot = p.copilot + 1 }

abbrev pub past_in : Log → Passed → Passed
past_in Pilot = past_pilot
past_in Copilot = past_copilot

-- nothing but the positions moves
abbrev pub past : {R : Rule} → Meaning R → Passed → Meaning R
past m p = record { replica = m.replica; passed = p; state = m.state; kept = m.kept }

-- a command whose identity has run is passed by; one for whose identity there is no place moves nothing; any other is applied to the
-- machine, and its identity is kept
abbrev pub running : (R : Rule) → Meaning R → Passed → Command → Meaning R × Run
running R m p c =
    cond (known m.kept c.identity) (past m p, Repeat)
    (cond (full m.kept) (m, NoPlace) (
      record { replica = m.replica; passed = p; state = R.next m.state c; kept = m.kept ++ (c.identity ∷ []) },
      Ran c (R.answer m.state c).0 (R.answer m.state c).1,
    ))

-- past an entry with the value, to the positions p
abbrev pub passing : (R : Rule) → Meaning R → Passed → Value → Meaning R × Run
passing R m p value.Nothing = (past m p, Noop)
passing R m p value.Noop = (past m p, Noop)
passing R m p (value.Command c) = running R m p c

abbrev pub ran_by : (R : Rule) → Meaning R → Next → Meaning R × Run
ran_by R m (next.Passes log v) = passing R m (past_in log m.passed) v
ran_by R m (next.Waits e) = (m, Waits e)

-- past one entry, if one may be passed
abbrev pub ran : (R : Rule) → Meaning R → Meaning R × Run
ran R m = ran_by R m (next m.replica m.passed)
