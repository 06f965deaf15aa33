-- Lists of commands, place by place.
use Rattle.std.proofs.Common.{◌≡◌, ℕ, ◌+◌, ◌<◌, List, [], ◌∷◌, ◌++◌, length, get_or, drop, sym, refl, ap, ◌∙◌, append_assoc}
use Rattle.std.proofs.lemmas.List.{at_drop_more}
use Rattle.command.specs.declared.Command.{Command}
use Rattle.machine.specs.Rules.{Rule, Pair, Steady, run, answers}

pub run_steady : (R : Rule) → Steady R → (s : R.State) (cs : List Command) → R.bays (run R s cs) ≡ R.bays s
run_steady R steady s [] = refl
run_steady R steady s (c ∷ cs) = run_steady R steady (R.next s c) cs ∙ steady s c

pub run_more : (R : Rule) (s t : R.State) (cs : List Command) (i : ℕ) (d : Command) → i < length cs → t ≡ R.next s (get_or cs i d) → run R t (drop (i + 1) cs) ≡ run R s (drop i cs)
run_more R s t cs i d within went = ap (λ u. run R u (drop (i + 1) cs)) went ∙ sym (at_drop_more (run R s) cs i d within)

pub answers_more : (R : Rule) (s t : R.State) (cs : List Command) (i : ℕ) (d : Command) (a : Pair) → i < length cs → t ≡ R.next s (get_or cs i d) → a ≡ R.answer s (get_or cs i d) → answers R s (drop i cs) ≡ a ∷ answers R t (drop (i + 1) cs)
answers_more R s t cs i d a within went said =
    at_drop_more (answers R s) cs i d within
    ∙ ap (λ u. R.answer s (get_or cs i d) ∷ answers R u (drop (i + 1) cs)) (sym went)
    ∙ ap (λ x. x ∷ answers R t (drop (i + 1) cs)) (sym said)

pub pushed_more : (R : Rule) (s t : R.State) (cs : List Command) (i : ℕ) (d : Command) (before after : List Pair) (a : Pair) → i < length cs → t ≡ R.next s (get_or cs i d) → a ≡ R.answer s (get_or cs i d) → after ≡ before ++ (a ∷ []) → after ++ answers R t (drop (i + 1) cs) ≡ before ++ answers R s (drop i cs)
pushed_more R s t cs i d before after a within went said pushed =
    ap (λ xs. xs ++ answers R t (drop (i + 1) cs)) pushed
    ∙ append_assoc before (a ∷ []) (answers R t (drop (i + 1) cs))
    ∙ sym (ap (λ xs. before ++ xs) (answers_more R s t cs i d a within went said))
