-- Searching in a list, by a test.
use Rattle.std.specs.Prelude.{◌≡◌, ℕ, ◌+◌, Bool, cond, List, [], ◌∷◌, ◌==◌}
use Rattle.std.specs.Borrow.{Bor}

-- what a closure answers of an item is what p says of it
abbrev pub IsTest : {X : Type 0} → (Bor X → Bool → Type 0) → (X → Bool) → Type 0
IsTest {X} answers p = (x : Bor X) (b : Bool) → answers x b → b ≡ p x.now

-- the number of the last item that passes, counted from 1; 0 where none does
abbrev pub highest_of : {X : Type 0} → (X → Bool) → List X → ℕ
highest_of p [] = 0
highest_of p (x ∷ xs) = cond (highest_of p xs == 0) (cond (p x) 1 0) (highest_of p xs + 1)
