-- A new card with the machine that was handed to it.
use Rattle.std.specs.Prelude.{◌≡◌, ℕ, true, false, [], Ok, Err, Result}
use Rattle.machine.specs.Rules.{Rule}
use Rattle.card.specs.declared.refusal.Refusal.TheVariants.{NoSuchGroup}
use Rattle.card.specs.Groups.{is_group}
use Rattle.card.specs.Making.{new_replica}
use Rattle.fitted.specs.declared.fitting.Card.{Card}
use Rattle.fitted.specs.declared.fitting.Passed.{Passed}
use Rattle.fitted.specs.declared.make.NotMade.{NotMade}
use Rattle.fitted.specs.declared.make.NotMade.TheVariants.{Refused, NoMemory}
use Rattle.fitted.specs.Meanings.{Meaning, meaning_of}

abbrev pub none_passed : Passed
none_passed = record { pilot = 0; copilot = 0 }

-- every entry empty, no takeover, nothing passed, and the machine in the state that it was handed over in
abbrev pub new_meaning : (R : Rule) (n seat : ℕ) → is_group n seat ≡ true → R.State → Meaning R
new_meaning R n seat ok s = record { replica = new_replica n seat ok; passed = none_passed; state = s; kept = [] }

-- what make answers
abbrev pub MadeCard : {M : Type 0} (R : Rule) → (M → R.State) → ℕ → ℕ → M → Result (Card M) NotMade → Type 0
MadeCard R means n seat m (Ok c) = (ok : is_group n seat ≡ true) × (meaning_of R means c ≡ new_meaning R n seat ok (means m))
MadeCard R means n seat m (Err (Refused why)) = (is_group n seat ≡ false) × (why ≡ NoSuchGroup)
MadeCard R means n seat m (Err NoMemory) = is_group n seat ≡ true
