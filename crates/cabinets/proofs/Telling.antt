-- What a machine answers to a list of commands.
use Rattle.std.proofs.Common.{◌≡◌, ℕ, List, [], ◌∷◌, ◌++◌, map, Some, sym, refl, ap, ◌∙◌, inl, inr}
use Rattle.std.specs.List.{slice_get}
use Rattle.command.specs.declared.Command.{Command}
use Rattle.agreement.specs.Lists.{Agree}
use Rattle.machine.specs.OneRules.{OneRule}
use Rattle.machine.specs.Rules.{Rule, run}
use Rattle.cabinets.specs.declared.answer.Listed.{Listed}
use Rattle.cabinets.specs.Groups.{listed}
use Rattle.cabinets.specs.Makes.{either}
use Rattle.cabinets.specs.Promises.{OneKind}
use Rattle.cabinets.proofs.Listing.{nth_front}

-- each command with the pair that answers it in its turn
abbrev pub told : (R : Rule) → R.State → List Command → List Listed
told R x [] = []
told R x (c ∷ cs) = listed c (R.answer x c) ∷ told R (R.next x c) cs

pub told_append : (R : Rule) (x : R.State) (cs ds : List Command) → told R x (cs ++ ds) ≡ told R x cs ++ told R (run R x cs) ds
told_append R x [] ds = refl
told_append R x (c ∷ cs) ds = ap (λ l. listed c (R.answer x c) ∷ l) (told_append R (R.next x c) cs ds)

pub run_more : (R : Rule) (x : R.State) (cs : List Command) (c : Command) → run R x (cs ++ (c ∷ [])) ≡ R.next (run R x cs) c
run_more R x [] c = refl
run_more R x (d ∷ cs) c = run_more R (R.next x d) cs c

pub told_commands : (R : Rule) (x : R.State) (cs : List Command) → map (λ p. p.command) (told R x cs) ≡ cs
told_commands R x [] = refl
told_commands R x (c ∷ cs) = ap (λ l. c ∷ l) (told_commands R (R.next x c) cs)

-- machines of one rule tell the same
alike_told : (R S : Rule) (rules : OneRule R S) (x : R.State) (y : S.State) → rules.to x ≡ y → (cs : List Command) → told R x cs ≡ told S y cs
alike_told R S rules x y e [] = refl
alike_told R S rules x y e (c ∷ cs) =
    ap (λ p. listed c p ∷ told R (R.next x c) cs) (rules.answer x c ∙ ap (λ s. S.answer s c) e)
    ∙ ap (λ l. listed c (S.answer y c) ∷ l) (alike_told R S rules (R.next x c) (S.next y c) (rules.next x c ∙ ap (λ s. S.next s c) e) cs)

module _ (A B : Rule) where
  first_told : (x : A.State) (cs : List Command) → told (either A B) (inl x) cs ≡ told A x cs
  first_told x [] = refl
  first_told x (c ∷ cs) = ap (λ l. listed c (A.answer x c) ∷ l) (first_told (A.next x c) cs)

  second_told : (y : B.State) (cs : List Command) → told (either A B) (inr y) cs ≡ told B y cs
  second_told y [] = refl
  second_told y (c ∷ cs) = ap (λ l. listed c (B.answer y c) ∷ l) (second_told (B.next y c) cs)

  one_kind_told : (x y : (either A B).State) → OneKind A B x y → (cs : List Command) → told (either A B) x cs ≡ told (either A B) y cs
  one_kind_told (inl x) (inl y) w cs = first_told x cs ∙ (alike_told A A w.rules x y w.states cs ∙ sym (first_told y cs))
  one_kind_told (inl x) (inr y) w cs = first_told x cs ∙ (alike_told A B w.rules x y w.states cs ∙ sym (second_told y cs))
  one_kind_told (inr x) (inl y) w cs = second_told x cs ∙ (alike_told B A w.rules x y w.states cs ∙ sym (first_told y cs))
  one_kind_told (inr x) (inr y) w cs = second_told x cs ∙ (alike_told B B w.rules x y w.states cs ∙ sym (second_told y cs))

  -- so their lists, one of which begins the other, are equal at equal places
  pub same_places : (x y : (either A B).State) → OneKind A B x y → (cs ds : List Command) → Agree cs ds → (k : ℕ) (p q : Listed)
      → slice_get (told (either A B) x cs) k ≡ Some p → slice_get (told (either A B) y ds) k ≡ Some q
      → p ≡ q
  same_places x y w cs ds (inl h) k p q a b =
      nth_front (told (either A B) x cs) (told (either A B) (run (either A B) y cs) h.0) k p q a
      (ap (λ l. slice_get (l ++ told (either A B) (run (either A B) y cs) h.0) k) (one_kind_told x y w cs)
      ∙ (ap (λ l. slice_get l k) (sym (told_append (either A B) y cs h.0) ∙ ap (told (either A B) y) h.1) ∙ b))
  same_places x y w cs ds (inr h) k p q a b =
      sym (nth_front (told (either A B) y ds) (told (either A B) (run (either A B) x ds) h.0) k q p b
      (ap (λ l. slice_get (l ++ told (either A B) (run (either A B) x ds) h.0) k) (sym (one_kind_told x y w ds))
      ∙ (ap (λ l. slice_get l k) (sym (told_append (either A B) x ds h.0) ∙ ap (told (either A B) x) h.1) ∙ a)))
