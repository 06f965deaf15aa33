-- Lists: what stands in one, which of two begins the other, and the first element of each identity.
use Rattle.std.specs.Prelude.{◌≡◌, Bool, true, false, cond, ◌||◌, ◌⊎◌, List, [], ◌∷◌, ◌++◌, ◌≢◌}

module _ {A : Type 0} where
  -- The element stands in the list.
  abbrev pub In : A → List A → Type 0
  In x [] = ⊥
  In x (y ∷ l) = (x ≡ y) ⊎ In x l

  -- The first list begins the second.
  abbrev pub Front : List A → List A → Type 0
  Front l m = (r : List A) × (l ++ r ≡ m)

  -- x stands before y in the list.
  abbrev pub Before : A → A → List A → Type 0
  Before x y [] = ⊥
  Before x y (z ∷ l) = ((x ≡ z) × In y l) ⊎ Before x y l

  -- Of the two lists one begins the other.
  abbrev pub Agree : List A → List A → Type 0
  Agree l m = Front l m ⊎ Front m l

-- With a test of whether two identities are the same, and the identity of an element.
module _ {A I : Type 0} (same : I → I → Bool) (id : A → I) where
  -- Whether the identity is among the given ones.
  abbrev pub seen : List I → I → Bool
  seen [] i = false
  seen (k ∷ ks) i = same k i || seen ks i

  -- The first element of each identity that is not among the given ones.
  abbrev pub firsts_past : List I → List A → List A
  firsts_past old [] = []
  firsts_past old (x ∷ l) = cond (seen old (id x)) (firsts_past old l) (x ∷ firsts_past (old ++ (id x ∷ [])) l)

  -- The first element of each identity.
  abbrev pub firsts : List A → List A
  firsts l = firsts_past [] l

  -- No two elements of the list have the same identity.
  abbrev pub Distinct : List A → Type 0
  Distinct [] = Unit {0}
  Distinct (x ∷ l) = ((y : A) → In y l → same (id x) (id y) ≢ true) × Distinct l
