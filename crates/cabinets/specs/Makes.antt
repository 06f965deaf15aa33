-- A machine of one of two makes, and a card with one.
use Rattle.std.specs.Prelude.{ℕ, ◌⊎◌, List, map}
use Rattle.std.proofs.Common.{inl, inr}
use Rattle.command.specs.declared.Command.{Command}
use Rattle.machine.specs.declared.rule.Machine.{Ghosts}
use Rattle.machine.specs.Rules.{Rule, Pair}
use Rattle.fitted.specs.Meanings.{Meaning, meaning_of}
use Rattle.fitted.specs.declared.fitting.Card.{Card}
use Rattle.cabinets.specs.declared.seat.Make.{Make}
use Rattle.cabinets.specs.declared.seat.Make.TheVariants.{First, Second}

module _ (R S : Rule) where
  abbrev pub is_first : R.State ⊎ S.State → Type 0
  is_first (inl x) = R.First x
  is_first (inr y) = S.First y

  abbrev pub bays_of : R.State ⊎ S.State → ℕ
  bays_of (inl x) = R.bays x
  bays_of (inr y) = S.bays y

  abbrev pub next_of : R.State ⊎ S.State → Command → R.State ⊎ S.State
  next_of (inl x) c = inl (R.next x c)
  next_of (inr y) c = inr (S.next y c)

  abbrev pub answer_of : R.State ⊎ S.State → Command → Pair
  answer_of (inl x) c = R.answer x c
  answer_of (inr y) c = S.answer y c

  -- a machine of either make does what its own rule says
  abbrev pub either : Rule
  either = record { State = R.State ⊎ S.State; First = is_first; bays = bays_of; next = next_of; answer = answer_of }

  abbrev pub as_first : Meaning R → Meaning either
  as_first m = record { replica = m.replica; passed = m.passed; state = inl m.state; kept = m.kept }

  abbrev pub as_second : Meaning S → Meaning either
  as_second m = record { replica = m.replica; passed = m.passed; state = inr m.state; kept = m.kept }

-- the rule of a machine of either make, by what the two makes say of themselves
abbrev pub makes : {A B : Type 0} → Ghosts A → Ghosts B → Rule
makes a b = either a.rule b.rule

-- what stands in a seat: a card over a machine of either make
abbrev pub Seat : Type 0 → Type 0 → Type 0
Seat A B = Make (Card A) (Card B)

abbrev pub seated : {A B : Type 0} (a : Ghosts A) (b : Ghosts B) → Seat A B → Meaning (makes a b)
seated a b (First c) = as_first a.rule b.rule (meaning_of a.rule a.means c)
seated a b (Second c) = as_second a.rule b.rule (meaning_of b.rule b.means c)

abbrev pub cards_of : {A B : Type 0} (a : Ghosts A) (b : Ghosts B) → List (Seat A B) → List (Meaning (makes a b))
cards_of a b = map (seated a b)
