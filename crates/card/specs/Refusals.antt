-- The refusals of a card by number: 1 to 8 for the input, 11 to 18 for the state.
use Rattle.std.specs.Prelude.{ℕ}
use Rattle.block.specs.Faults.{numbered}
use Rattle.card.specs.declared.refusal.Refusal.{Refusal}
use Rattle.card.specs.declared.refusal.Refusal.TheVariants.{Block, NotForThisCard, WrongSender, NoIdentity, NoSuchEntry, NoSuchGroup, NotPilot, LogFull, NotOpen, TooFewAnswers, AlreadyCommitted, NothingThere, NoBallotLeft, DifferentCommit}

abbrev pub refusal_number : Refusal → ℕ
refusal_number (Block fault) = (numbered fault).0
refusal_number NotForThisCard = 4
refusal_number WrongSender = 5
refusal_number NoIdentity = 6
refusal_number NoSuchEntry = 7
refusal_number NoSuchGroup = 8
refusal_number NotPilot = 11
refusal_number LogFull = 12
refusal_number NotOpen = 13
refusal_number TooFewAnswers = 14
refusal_number AlreadyCommitted = 15
refusal_number NothingThere = 16
refusal_number NoBallotLeft = 17
refusal_number DifferentCommit = 18
