-- What a cabinet promises.
use Rattle.std.specs.Prelude.{◌≡◌, ℕ, ◌<◌, ◌≤◌, cond, ◌⊎◌, List, [], ◌∷◌, map, length, Some, Ok, ◌==◌}
use Rattle.std.proofs.Common.{inl, inr}
use Rattle.std.specs.List.{slice_get}
use Rattle.command.specs.declared.Command.{Command}
use Rattle.command.specs.declared.Identity.{Identity}
use Rattle.agreement.specs.Lists.{In, Agree, Distinct}
use Rattle.agreement.specs.Walks.{same_identity}
use Rattle.block.specs.declared.message.Value.{Value}
use Rattle.block.specs.declared.message.Value.TheVariants as value
use Rattle.entry.specs.declared.entry.Entry.{Entry}
use Rattle.entry.specs.declared.entry.State.TheVariants.{Committed}
use Rattle.machine.specs.declared.rule.Machine.{Ghosts}
use Rattle.machine.specs.OneRules.{OneState}
use Rattle.machine.specs.Rules.{Rule, run}
use Rattle.card.specs.Making.{looked_up}
use Rattle.fitted.specs.Meanings.{Meaning}
use Rattle.group.specs.declared.calls.Call.{Call}
use Rattle.cabinets.specs.declared.answer.Listed.{Listed}
use Rattle.cabinets.specs.declared.answer.Ran.{Ran}
use Rattle.cabinets.specs.Groups.{Group, after, New}
use Rattle.cabinets.specs.Makes.{either, makes}

-- a look up on the card in the seat answers an entry that is committed, with the value and the dependency
pub record Commits {R : Rule} (G : Group R) (seat log i : ℕ) (v : Value) (d : ℕ) : Type 0 where
  pub card : Meaning R
  pub seated : slice_get G.cards seat ≡ Some card
  pub entry : Entry
  pub looks_up : looked_up card.replica log i ≡ Ok entry
  pub committed : entry.state ≡ Committed
  pub value_is : entry.value ≡ v
  pub dependency_is : entry.dependency ≡ d

-- a card's list: the commands that ran on it, with the pairs that its machine answered, in order
abbrev pub list_in : ℕ → List Ran → List Listed
list_in seat [] = []
list_in seat (x ∷ xs) = cond (x.seat == seat) (x.listed ∷ list_in seat xs) (list_in seat xs)

abbrev pub list_of : {R : Rule} → Group R → ℕ → List Listed
list_of G seat = list_in seat G.ran

abbrev pub commands_in : List Listed → List Command
commands_in l = map (λ x. x.command) l

abbrev pub commands_of : {R : Rule} → Group R → ℕ → List Command
commands_of G seat = commands_in (list_of G seat)

abbrev pub command_identity : Command → Identity
command_identity c = c.identity

-- two machines, of either make, are of one rule and in corresponding states
abbrev pub OneKind : (A B : Rule) → (either A B).State → (either A B).State → Type 0
OneKind A B (inl x) (inl y) = OneState A A x y
OneKind A B (inl x) (inr y) = OneState A B x y
OneKind A B (inr x) (inl y) = OneState B A x y
OneKind A B (inr x) (inr y) = OneState B B x y

-- of a group of cards with machines of the rules A and B, which were handed over in the states given, at one moment (G) and at the same
-- moment or a later one (H)
pub record Promise (A B : Rule) (starts : List (either A B).State) (G H : Group (either A B)) : Type 0 where
  -- no two cards hold an entry committed with different values or dependencies
  pub one_value : (s t log i : ℕ) (v w : Value) (d e : ℕ) → Commits G s log i v d → Commits H t log i w e → (v ≡ w) × (d ≡ e)
  -- of two commands committed in different logs, on whichever cards, one depends on the other's entry or a later one
  pub one_waits : (s t i j : ℕ) (b c : Command) (d e : ℕ) → Commits G s 0 i (value.Command b) d → Commits H t 1 j (value.Command c) e
      → (i ≤ e) ⊎ (j ≤ d)
  pub other_waits : (s t i j : ℕ) (b c : Command) (d e : ℕ) → Commits H s 0 i (value.Command b) d → Commits G t 1 j (value.Command c) e
      → (i ≤ e) ⊎ (j ≤ d)
  -- of any two cards' lists one begins the other
  pub one_order : (s t : ℕ) → s < length starts → t < length starts → Agree (commands_of G s) (commands_of H t)
  -- each command that is committed, and each in a list, was proposed
  pub committed_proposed : (s log i : ℕ) (c : Command) (d : ℕ) → Commits G s log i (value.Command c) d → In c G.proposed
  pub listed_proposed : (s : ℕ) (c : Command) → s < length starts → In c (commands_of G s) → In c G.proposed
  -- no client's command number occurs twice in a list
  pub never_twice : (s : ℕ) → s < length starts → Distinct same_identity command_identity (commands_of G s)
  -- each card's machine means what its list, applied in turn, makes of the machine that was handed to it
  pub means_list : (s : ℕ) (m : Meaning (either A B)) (x : (either A B).State) → slice_get G.cards s ≡ Some m → slice_get starts s ≡ Some x
      → m.state ≡ run (either A B) x (commands_of G s)
  -- machines of one rule, of either make, have equal commands and equal pairs at equal places of their lists
  pub one_answer : (s t k : ℕ) (x y : (either A B).State) (p q : Listed) → slice_get starts s ≡ Some x → slice_get starts t ≡ Some y
      → OneKind A B x y → slice_get (list_of G s) k ≡ Some p → slice_get (list_of H t) k ≡ Some q
      → p ≡ q

-- whatever calls are made on a new group, in any order and number, refused or not, at any two moments
abbrev pub Always : {A B : Type 0} → Ghosts A → Ghosts B → Type 0
Always a b = (n : ℕ) (starts : List (makes a b).State) (G : Group (makes a b)) → New (makes a b) n starts G → (before more : List Call)
    → Promise a.rule b.rule starts (after (makes a b) G before) (after (makes a b) (after (makes a b) G before) more)

-- where a group is new, what it comes to under the calls keeps the promise
abbrev pub Kept : {A B : Type 0} (a : Ghosts A) (b : Ghosts B) → Group (makes a b) → Group (makes a b) → List Call → Type 0
Kept a b G H calls = (n : ℕ) (starts : List (makes a b).State) → New (makes a b) n starts G
    → (H ≡ after (makes a b) G calls) × Promise a.rule b.rule starts G H × Promise a.rule b.rule starts H H
