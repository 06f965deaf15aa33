-- What holds of every message that a reader hands out: the range of each field, and how the fields go together.
use Rattle.std.specs.Prelude.{◌≡◌, ◌<◌, ◌≤◌, true}
use Rattle.block.specs.declared.message.Destination.{Destination}
use Rattle.block.specs.declared.message.Destination.TheVariants.{All, Seat}
use Rattle.block.specs.declared.message.Value.{Value}
use Rattle.block.specs.declared.message.Value.TheVariants.{Nothing, Noop, Command}
use Rattle.block.specs.declared.message.Message.{Message}
use Rattle.block.specs.Ballots.{is_ballot}
use Rattle.block.specs.Messages.{to_word, value_number, report_number, accept_of}
use Rattle.block.specs.Fits.{to_fits, ballot_fits, value_fits, dependency_fits, report_fits, accept_fits}

-- a seat from 0 to 6, or all
abbrev pub Reachable : Destination → Type 0
Reachable All = Unit {0}
Reachable (Seat s) = s ≤ 6

-- a command has a client and a number
abbrev pub Identified : Value → Type 0
Identified Nothing = Unit {0}
Identified Noop = Unit {0}
Identified (Command c) = (0 < c.identity.client) × (0 < c.identity.number)

pub record Valid (m : Message) : Type 0 where
  pub from : m.from ≤ 6
  pub to : Reachable m.to
  pub log : m.log ≤ 1
  pub entry_from_one : 1 ≤ m.entry
  pub entry_to_last : m.entry ≤ 128
  pub ballot : is_ballot m.ballot ≡ true
  pub dependency : m.dependency ≤ 128
  pub accept_ballot : is_ballot (accept_of m.report) ≡ true
  pub fits_to : to_fits m.kind (to_word m.to) ≡ true
  pub fits_ballot : ballot_fits m.kind m.ballot ≡ true
  pub fits_value : value_fits m.kind (value_number m.value) ≡ true
  pub identified : Identified m.value
  pub fits_dependency : dependency_fits m.kind (value_number m.value) m.dependency ≡ true
  pub fits_report : report_fits m.kind (value_number m.value) (report_number m.report) ≡ true
  pub fits_accept : accept_fits m.ballot (report_number m.report) (accept_of m.report) ≡ true
