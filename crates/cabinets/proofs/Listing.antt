-- Lists of commands that ran, and the first of each identity among them.
use Rattle.std.proofs.Common.{◌≡◌, ℕ, zero, suc, Bool, true, false, cond, ◌||◌, eqb, ◌==◌, filter, List, [], ◌∷◌, ◌++◌, map, Some, sym, refl, ap, ◌∙◌, inl, inr, append_assoc, append-nil, arith}
use mathlib.Core.List.{map-append}
use Rattle.std.specs.List.{slice_get}
use Rattle.std.proofs.lemmas.Bool.Decides.{nat_tests}
use Rattle.command.specs.declared.Command.{Command}
use Rattle.command.specs.declared.Identity.{Identity}
use Rattle.agreement.specs.Lists.{In, Agree, seen, firsts_past, Distinct}
use Rattle.agreement.specs.Walks.{Step, Step.step, same_identity, identity_of, once_each}
use Rattle.machine.specs.Onces.{known}
use Rattle.cabinets.specs.declared.answer.Ran.{Ran}
use Rattle.cabinets.specs.Promises.{list_in, command_identity}

module _ {A I : Type 0} (same : I → I → Bool) (id : A → I) where
  -- one more at the end is kept unless its identity was there
  firsts_more : (old : List I) (l : List A) (x : A)
      → firsts_past same id old (l ++ (x ∷ [])) ≡ firsts_past same id old l ++ cond (seen same id (old ++ map id (firsts_past same id old l)) (id x)) [] (x ∷ [])
  firsts_more old [] x = ap (λ ks. cond (seen same id ks (id x)) [] (x ∷ [])) (sym (append-nil old))
  firsts_more old (y ∷ l) x =
      let skipped = firsts_more old l x in
      let kept = firsts_more (old ++ (id y ∷ [])) l x in
      let F : List A = firsts_past same id (old ++ (id y ∷ [])) l in
      let Goal : Bool → Type 0 = λ b.
      cond b (firsts_past same id old (l ++ (x ∷ []))) (y ∷ firsts_past same id (old ++ (id y ∷ [])) (l ++ (x ∷ [])))
      ≡ cond b (firsts_past same id old l) (y ∷ F)
      ++ cond (seen same id (old ++ map id (cond b (firsts_past same id old l) (y ∷ F))) (id x)) [] (x ∷ []) in
      elim (seen same id old (id y)) as Goal [
        | true ↦ skipped
        | false ↦ ap (λ r. y ∷ r) (kept ∙ ap (λ ks. F ++ cond (seen same id ks (id x)) [] (x ∷ [])) (append_assoc old (id y ∷ []) (map id F)))
      ]

  -- what is kept stood in the list
  in_firsts : (old : List I) (l : List A) (y : A) → In y (firsts_past same id old l) → In y l
  in_firsts old [] y j = j
  in_firsts old (x ∷ l) y j = go (seen same id old (id x)) (in_firsts old l y) (in_firsts (old ++ (id x ∷ [])) l y) j
    where
      go : (b : Bool) → (In y (firsts_past same id old l) → In y l) → (In y (firsts_past same id (old ++ (id x ∷ [])) l) → In y l)
          → In y (cond b (firsts_past same id old l) (x ∷ firsts_past same id (old ++ (id x ∷ [])) l))
          → In y (x ∷ l)
      go true skip keep i = inr (skip i)
      go false skip keep (inl e) = inl e
      go false skip keep (inr i) = inr (keep i)

abbrev pub command_of : Step → Command
command_of (step g k c) = c

pub in_map : {X Y : Type 0} (f : X → Y) (l : List X) (y : Y) → In y (map f l) → (x : X) × In x l × (y ≡ f x)
in_map f [] y j = absurd j
in_map f (x ∷ l) y (inl e) = (x, inl refl, e)
in_map f (x ∷ l) y (inr j) = let w = in_map f l y j in (w.0, inr w.1, w.2)

pub agree_map : {X Y : Type 0} (f : X → Y) (l m : List X) → Agree l m → Agree (map f l) (map f m)
agree_map f l m (inl h) = inl (map f h.0, sym (map-append f l h.0) ∙ ap (map f) h.1)
agree_map f l m (inr h) = inr (map f h.0, sym (map-append f m h.0) ∙ ap (map f) h.1)

identity_is : (s : Step) → identity_of s ≡ command_identity (command_of s)
identity_is (step g k c) = refl

-- the identities of the commands that ran
pub identities_are : (l : List Step) → map identity_of l ≡ map command_identity (map command_of l)
identities_are [] = refl
identities_are (s ∷ l) = ap (λ i. i ∷ map identity_of l) (identity_is s) ∙ ap (λ is. command_identity (command_of s) ∷ is) (identities_are l)

pub distinct_commands : (l : List Step) → Distinct same_identity identity_of l → Distinct same_identity command_identity (map command_of l)
distinct_commands [] d = tt
distinct_commands (s ∷ l) d = (
  λ y j e. let w = in_map command_of l y j in
      d.0 w.0 w.1 (ap (λ i. same_identity i (identity_of w.0)) (identity_is s) ∙ (ap (same_identity (command_identity (command_of s))) (identity_is w.0 ∙ ap command_identity (sym w.2)) ∙ e)),
  distinct_commands l d.1,
)

-- the machine's layer and the walk have the same test
pub known_seen : (ks : List Identity) (i : Identity) → known ks i ≡ seen same_identity identity_of ks i
known_seen [] i = refl
known_seen (k ∷ ks) i = ap (λ b. same_identity k i || b) (known_seen ks i)

-- one more command ran, as the machine's layer sees it
pub once_more : (l : List Step) (x : Step) → once_each (l ++ (x ∷ [])) ≡ once_each l ++ cond (known (map command_identity (map command_of (once_each l))) (identity_of x)) [] (x ∷ [])
once_more l x =
    firsts_more same_identity identity_of [] l x
    ∙ ap (λ b. once_each l ++ cond b [] (x ∷ []))
    (ap (λ ks. seen same_identity identity_of ks (identity_of x)) (identities_are (once_each l)) ∙ sym (known_seen (map command_identity (map command_of (once_each l))) (identity_of x)))

pub in_once : (l : List Step) (s : Step) → In s (once_each l) → In s l
in_once l s j = in_firsts same_identity identity_of [] l s j

-- a card's list grows by what ran in its seat
pub list_append : (seat : ℕ) (xs ys : List Ran) → list_in seat (xs ++ ys) ≡ list_in seat xs ++ list_in seat ys
list_append seat [] ys = refl
list_append seat (x ∷ xs) ys =
    let ih = list_append seat xs ys in
    let here = x.listed in
    elim (eqb x.seat seat) as (λ b. cond b (here ∷ list_in seat (xs ++ ys)) (list_in seat (xs ++ ys)) ≡ cond b (here ∷ list_in seat xs) (list_in seat xs) ++ list_in seat ys) [
      | true ↦ ap (λ l. here ∷ l) ih
      | false ↦ ih
    ]

-- the places of a list that begins another
pub nth_front : {X : Type 0} (l r : List X) (k : ℕ) (p q : X) → slice_get l k ≡ Some p → slice_get (l ++ r) k ≡ Some q → p ≡ q
nth_front [] r k p q a b = absurd (grind arith)
nth_front (x ∷ l) r zero p q a b = grind arith
nth_front (x ∷ l) r (suc k) p q a b = nth_front l r k p q a b

-- the list as the code makes it
pub list_is : (seat : ℕ) (xs : List Ran) → map (λ x. x.listed) (filter (λ x. x.seat == seat) xs) ≡ list_in seat xs
list_is seat [] = refl
list_is seat (x ∷ xs) =
    let more = list_is seat xs in
    grind (arith, nat_tests)
