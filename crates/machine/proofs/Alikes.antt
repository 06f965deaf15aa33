-- What machines of one rule come to.
use Rattle.std.proofs.Common.{◌≡◌, Bool, true, ◌&&◌, List, [], ◌∷◌, Decides, refl, ap, ◌∙◌, arith}
use Rattle.command.specs.declared.Command.{Command}
use Rattle.machine.specs.Onces.{once}
use Rattle.machine.specs.Rules.{Rule, Pair, answers}
use Rattle.machine.specs.OneRules.{OneRule, AnswerAlike, Itself, Layered}

-- they answer equal pairs at equal places
one_answers : {R S : Rule} (one : OneRule R S) (s : R.State) (t : S.State) (cs : List Command) → one.to s ≡ t → answers R s cs ≡ answers S t cs
one_answers one s t [] e = refl
one_answers {R} {S} one s t (c ∷ cs) e =
    ap (λ x. x ∷ answers R (R.next s c) cs) (one.answer s c ∙ ap (λ u. S.answer u c) e)
    ∙ ap (λ xs. S.answer t c ∷ xs) (one_answers one (R.next s c) (S.next t c) cs (one.next s c ∙ ap (λ u. S.next u c) e))

pub answer_alike : (R S : Rule) → AnswerAlike R S
answer_alike R S s t cs o = one_answers o.rules s t cs o.states

-- two lists are equal, which P says, exactly where what was compared is alike and what is left of them is equal
abbrev pub SoFar : Bool → List Pair → List Pair → Type 0 → Type 0
SoFar alike xs ys P = (alike ≡ true → xs ≡ ys → P) × (P → (alike ≡ true) × (xs ≡ ys))

-- one place more is compared
pub so_far_more : {P : Type 0} (alike same : Bool) (a b : Pair) (xs more ys rest : List Pair) → Decides same (a ≡ b) → xs ≡ a ∷ more → ys ≡ b ∷ rest → SoFar alike xs ys P → SoFar (alike && same) more rest P
so_far_more alike same a b xs more ys rest tells left right so_far = (
  λ h e. so_far.0 (grind arith) (grind arith),
  λ p. let was = so_far.1 p in grind arith,
)

pub one_rule : (R : Rule) → OneRule R R
one_rule R = record { to = λ s. s; first = λ s h. h; bays = λ s. refl; next = λ s c. refl; answer = λ s c. refl }

pub itself : (R : Rule) → Itself R
unfolding one_rule
itself R s = record { rules = one_rule R; states = refl }

-- `Once` over machines of one rule
once_one_rule : {R S : Rule} → OneRule R S → OneRule (once R) (once S)
once_one_rule one = record {
  to = λ s. (one.to s.0, s.1);
  first = λ s h. (one.first s.0 h.0, h.1);
  bays = λ s. one.bays s.0;
  next = λ s c. let below = one.next s.0 c in grind arith;
  answer = λ s c. let below = one.answer s.0 c in grind arith;
}

pub layered : (R S : Rule) → Layered R S
unfolding once_one_rule
layered R S s t kept o = record { rules = once_one_rule o.rules; states = ap (λ u. (u, kept)) o.states }
