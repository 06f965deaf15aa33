-- The layer that gives each command to the machine below at most once.
use Rattle.std.specs.Prelude.{◌≡◌, Bool, true, false, cond, ◌&&◌, ◌||◌, List, [], ◌∷◌, ◌++◌, length, ◌==◌, nat_le, refl}
use Rattle.command.specs.declared.Identity.{Identity}
use Rattle.machine.specs.declared.outcome.Outcome.TheVariants.{NoPlace, Repeat}
use Rattle.machine.specs.Rules.{Rule, Steady}

-- one client's same number
abbrev pub same : Identity → Identity → Bool
same a b = a.client == b.client && a.number == b.number

-- the identity is among those kept
abbrev pub known : List Identity → Identity → Bool
known [] id = false
known (k ∷ ks) id = same k id || known ks id

-- the layer has no place for one more
abbrev pub full : List Identity → Bool
full ids = nat_le 256 (length ids)

-- a known identity, and a new one without a place, change nothing; any other is kept, and only then is the machine below reached
abbrev pub once : Rule → Rule
once R = record {
  State = R.State × List Identity;
  First = λ s. R.First s.0 × (s.1 ≡ []);
  bays = λ s. R.bays s.0;
  next = λ s c. cond (known s.1 c.identity) s (cond (full s.1) s (R.next s.0 c, s.1 ++ (c.identity ∷ [])));
  answer = λ s c. cond (known s.1 c.identity) (Repeat, 0) (cond (full s.1) (NoPlace, 0) (R.answer s.0 c));
}

-- what holds of both ways holds of either
either : {A : Type 0} (P : A → Type 0) (b : Bool) {x y : A} → P x → P y → P (cond b x y)
either P true p q = p
either P false p q = q

-- the layer has the bays of the machine below
pub once_steady : (R : Rule) → Steady R → Steady (once R)
once_steady R steady s c =
    let Same : (once R).State → Type 0 = λ t. R.bays t.0 ≡ R.bays s.0 in
    either Same (known s.1 c.identity) refl (either Same (full s.1) refl (steady s.0 c))
