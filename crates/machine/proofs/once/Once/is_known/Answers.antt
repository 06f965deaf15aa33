use Rattle.std.proofs.Common.{◌≡◌, Bool, List, Decides, refl, ap, ◌∙◌, arith}
use Rattle.std.specs.List.{IsAnyAnswer}
use Rattle.std.proofs.lemmas.List.Elements.{contains_decides}
use Rattle.std.proofs.lemmas.Bool.Decides.{same_from_decides, Decides-by_or, nat_tests}
use Rattle.command.specs.declared.Identity.{Identity}
use Rattle.machine.specs.Onces.{known, same}
use Rattle.machine.proofs.once.Once.is_known.Goals as goal

same_decides : (a b : Identity) → Decides (same a b) (a ≡ b)
same_decides a b = grind (arith, nat_tests)

contains_known : (ids : List Identity) (id : Identity) (r : Bool) → IsAnyAnswer (λ k t. same k id ≡ t) ids r → r ≡ known ids id
contains_known ids id r h =
    same_from_decides r (known ids id) (contains_decides same same_decides ids id r h)
    (Decides-by_or (λ k. same k id) (λ k. k ≡ id) (λ ks. known ks id) (λ k. same_decides k id) refl (λ _ _. refl) ids)

pub returns : goal.returns
returns g c = contains_known _ c.args.identity _ c.contains.ensures.cases ∙ ap (λ ids. known ids c.args.identity) c.deref.ensures.value
