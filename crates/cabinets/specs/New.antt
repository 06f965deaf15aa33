-- A new cabinet, over the machines handed to it.
use Rattle.std.specs.Prelude.{◌≡◌, ℕ, true, false, cond, List, map, length, Some, None, Ok, Err, vec_items, Option, Result, Vec, ◌==◌}
use Rattle.std.proofs.Common.{inl, inr}
use Rattle.std.specs.declared.alloc.Global.{Global}
use Rattle.std.specs.List.{slice_get}
use Rattle.machine.specs.declared.rule.Machine.{Ghosts}
use Rattle.card.specs.declared.refusal.Refusal.TheVariants.{NoSuchGroup}
use Rattle.card.specs.Groups.{is_group}
use Rattle.fitted.specs.declared.make.NotMade.{NotMade}
use Rattle.fitted.specs.declared.make.NotMade.TheVariants.{Refused, NoMemory}
use Rattle.fitted.specs.Makes.{new_meaning}
use Rattle.cabinets.specs.declared.cabinet.Cabinet.{Cabinet}
use Rattle.cabinets.specs.declared.seat.Make.{Make}
use Rattle.cabinets.specs.declared.seat.Make.TheVariants.{First, Second}
use Rattle.cabinets.specs.Cabinets.{group_of}
use Rattle.cabinets.specs.Groups.{New}
use Rattle.cabinets.specs.Makes.{Seat, makes, seated, cards_of}

-- three, five or seven
abbrev pub group_size : ℕ → Option ℕ
group_size n = cond (n == 3) (Some 3) (cond (n == 5) (Some 5) (cond (n == 7) (Some 7) None))

module _ {A B : Type 0} (a : Ghosts A) (b : Ghosts B) where
  -- the state that a machine is handed over in
  abbrev pub start_of : Make A B → (makes a b).State
  start_of (First m) = inl (a.means m)
  start_of (Second m) = inr (b.means m)

  -- why something is not made: there is no such group, or no memory
  abbrev pub NotMadeFor : ℕ → ℕ → NotMade → Type 0
  NotMadeFor n seat (Refused why) = (is_group n seat ≡ false) × (why ≡ NoSuchGroup)
  NotMadeFor n seat NoMemory = is_group n seat ≡ true

  abbrev pub MadeSeat : ℕ → ℕ → Make A B → Result (Seat A B) NotMade → Type 0
  MadeSeat n seat m (Ok s) = (ok : is_group n seat ≡ true) × (seated a b s ≡ new_meaning (makes a b) n seat ok (start_of m))
  MadeSeat n seat m (Err why) = NotMadeFor n seat why

  -- a new card in each seat, over its machine
  abbrev pub Fitted : ℕ → List (Make A B) → List (Seat A B) → Type 0
  Fitted n machines seats =
      (length seats ≡ length machines)
      × ((seat : ℕ) (m : Make A B) → slice_get machines seat ≡ Some m
      → (ok : is_group n seat ≡ true) × (slice_get (cards_of a b seats) seat ≡ Some (new_meaning (makes a b) n seat ok (start_of m))))

  abbrev pub MadeSeats : ℕ → List (Make A B) → Result (Vec (Seat A B) Global) NotMade → Type 0
  MadeSeats n machines (Ok v) = Fitted n machines (vec_items v)
  MadeSeats n machines (Err why) = why ≡ NoMemory

  -- a new group of as many cards as machines were handed over
  abbrev pub MadeCabinet : List (Make A B) → Result (Cabinet A B) NotMade → Type 0
  MadeCabinet machines (Ok c) = New (makes a b) (length machines) (map start_of machines) (group_of a b c)
  MadeCabinet machines (Err why) = NotMadeFor (length machines) 0 why
