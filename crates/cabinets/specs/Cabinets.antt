-- A cabinet as a group of cards.
use Rattle.std.specs.Prelude.{ℕ, ◌+◌, ◌≤◌, List, vec_items, vec_len, vec_capacity}
use Rattle.command.specs.declared.Command.{Command}
use Rattle.block.specs.declared.message.Message.{Message}
use Rattle.machine.specs.declared.rule.Machine.{Ghosts}
use Rattle.cabinets.specs.declared.answer.Ran.{Ran}
use Rattle.cabinets.specs.declared.cabinet.Cabinet.{Cabinet}
use Rattle.cabinets.specs.Groups.{Group}
use Rattle.cabinets.specs.Makes.{Seat, makes, cards_of}

abbrev pub group_from : {A B : Type 0} (a : Ghosts A) (b : Ghosts B) → List (Seat A B) → List Message → List Command → List Ran → Group (makes a b)
group_from a b seats sent proposed ran = record { cards = cards_of a b seats; sent = sent; proposed = proposed; ran = ran }

abbrev pub group_of : {A B : Type 0} (a : Ghosts A) (b : Ghosts B) → Cabinet A B → Group (makes a b)
group_of a b c = group_from a b (vec_items c.seats) (vec_items c.sent) (vec_items c.proposed) (vec_items c.ran)

-- there is room for what is kept of n more calls
pub record HasRoom {A B : Type 0} (c : Cabinet A B) (n : ℕ) : Type 0 where
  pub sends : vec_len c.sent + n ≤ vec_capacity c.sent
  pub proposes : vec_len c.proposed + n ≤ vec_capacity c.proposed
  pub runs : vec_len c.ran + n ≤ vec_capacity c.ran
